-- `new` meets its contract: all slots are blank. Assumes nothing.
use Rattle.timeline.proofs.Laws.{filled_none, filled-made}
use Rattle.timeline.proofs.AudioParamEventTimeline.new.Goals as goal

pub returns : goal.returns
returns c = filled-made (filled_none c.blank-b.result c.blank-b.ensures)
