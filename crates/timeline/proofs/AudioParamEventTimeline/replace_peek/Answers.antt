-- `replace_peek` meets its contract. Assumes nothing.
use Rattle.timeline.proofs.AudioParamEventTimeline.replace_peek.Goals as goal

pub returns : goal.returns
returns c = c.first_slot-slot.ensures
