-- `run` meets its contract: it stops, or is consumed. Assumes nothing.
use mathlib.Core.Path.{ap, ◌∙◌}
use native.Mathlib.Omega.{arith}
use Rattle.rules.specs.declared.BlockInfos.{BlockInfos}
use Rattle.laws.proofs.Walks.{end_most}
use Rattle.timeline.specs.Heads.{waiting_as}
use Rattle.plain.specs.Seen.{sample_of}
use Rattle.plain.proofs.Sees.{infos_is, sample_is, run_stops, run_goes}
use Rattle.plain.proofs.run.Goals as goal

pub fill-filled-requires : goal.fill-filled-requires
fill-filled-requires c = (omega (arith, end_most c.args.look.infos c.args.end, c.end_place_of.ensures), c.requires.0, c.requires.1)

pub returns-then-stops : goal.returns-then-stops
returns-then-stops c = λ f n w e.
    let a = c.args in
    let infos = infos_is f n w e in
    run_stops f n w (waiting_as a.event a.numbers.now) a.end a.value (sample_of a.event a.numbers.now f w) (rw (c.end_place_of.ensures, infos) at (c.fill-filled.ensures f n w e)) c.if-stops.true (c.value_at.ensures ∙ sample_is f n w e a.event a.numbers.now _ ∙ ap (λ (g : BlockInfos). sample_of a.event a.numbers.now f w g.next) infos)

pub returns : goal.returns
returns c = λ f n w e.
    let a = c.args in
    run_goes f n w (waiting_as a.event a.numbers.now) a.end a.value (sample_of a.event a.numbers.now f w) (rw (c.end_place_of.ensures, infos_is f n w e) at (c.fill-filled.ensures f n w e)) c.if-stops.false
