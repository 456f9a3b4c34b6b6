-- What taking a timeline's events from outside ensures.
use Rattle.std.specs.Prelude.{Bool, cond, ◌&&◌, Option, Some, None}
use Rattle.laws.specs.Sound.{are_due, is_sound_queue}
use Rattle.timeline.specs.declared.AudioParamEventTimeline.{AudioParamEventTimeline}
use Rattle.timeline.specs.Timeline.{made, waiting}

-- The queue in which these events wait, where they are sound; `played` says whether a block was answered.
abbrev pub taken : AudioParamEventTimeline → Bool → Option AudioParamEventTimeline
taken q played = cond (is_sound_queue (waiting q) && are_due played (waiting q)) (Some (made (waiting q))) None
