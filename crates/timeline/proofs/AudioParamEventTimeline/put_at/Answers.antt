-- `put_at` meets its contract: the slots are those of the queue with the new event in. Assumes nothing.
use Rattle.timeline.proofs.Laws.{filled-made}
use Rattle.timeline.proofs.Steps.{put_end}
use Rattle.timeline.proofs.AudioParamEventTimeline.put_at.Goals as goal

pub returns : goal.returns
returns c =
    let a = c.args in
    filled-made (put_end a.self c.requires.0 a.place a.e c.requires.2 c.requires.1 c.copy_within.new.self c.copy_within.ensures.after)
