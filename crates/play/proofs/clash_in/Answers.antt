-- `play::clash_in` meets its contract: the waiting events are those of the desk, the call is the line's. Assumes nothing.
use mathlib.Core.Path.{sym, ap, ◌∙◌, subst}
use Rattle.timeline.specs.declared.AudioParamEventTimeline.{AudioParamEventTimeline}
use Rattle.timeline.specs.Timeline.{waiting, Neat}
use Rattle.clashes.specs.Clashes.{clash_of}
use Rattle.play.proofs.Turns.{heard_clash}
use Rattle.play.proofs.clash_in.Goals as goal

pub clash_of-requires : goal.clash_of-requires
clash_of-requires c =
    let h = c.requires.0.param.neat in
    subst Neat (h.clean ∙ sym c.timeline.ensures) h

pub returns : goal.returns
returns c =
    let h = c.requires.0.param.neat in
    let call = c.read_call-call in
    c.clash_of.ensures ∙ ap (λ (q : AudioParamEventTimeline). clash_of (waiting q) call.result) (c.timeline.ensures ∙ sym h.clean)
    ∙ heard_clash _ _ _ _ _ call.ensures
