-- `span` meets its contract. Assumes nothing.
use mathlib.Core.Path.{◌≡◌, ◌∙◌}
use Rattle.rules.specs.Walk.{value_at_end, span_turn}
use Rattle.plain.specs.Seen.{sample_of, ran}
use Rattle.plain.proofs.Sees.{infos_is, sample_is}
use Rattle.plain.proofs.span.Goals as goal
use Rattle.plain.proofs.span.Goals.{in-None, in-Some}

pub returns : goal.returns
unfolding value_at_end span_turn ran
returns c = λ f n w e.
    let a = c.args in
    let infos = infos_is f n w e in
    let sample = sample_of a.event a.numbers.now f w in
    let end : c.match-hold.at_end ≡ value_at_end a.hold a.value sample =
    elim c.match-hold.branch [
      | in-None came ↦ rw came.in-None.is came.at_end-is
      | in-Some came ↦ rw came.in-Some.is (came.at_end-is ∙ came.value_at-at_end.ensures ∙ sample_is f n w e a.event a.numbers.now _)
    ] in
    rw (c.hold_or-end.ensures, end, infos) at (c.run.ensures f n w e)
