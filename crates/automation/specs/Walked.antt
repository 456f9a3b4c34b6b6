-- What a walk begins with, what it leans on, and what it leaves.
use Rattle.rules.specs.declared.Finished.{Finished}
use Rattle.std.specs.Prelude.{◌≡◌, List, ℕ, ◌≤◌, ◌<◌, length, drop, Float, Option}
use Rattle.rules.specs.declared.Event.{Event}
use Rattle.rules.specs.declared.BlockInfos.{BlockInfos}
use Rattle.rules.specs.Queue.{lengths_of, attached}
use Rattle.rules.specs.Walk as Rules
use Rattle.rules.specs.Walk.{fill, walked}
use Rattle.rules.specs.Block.{walk_from, values_before}
use Rattle.laws.specs.Sound.{SoundQueue}
use Rattle.timeline.specs.declared.AudioParamEventTimeline.{AudioParamEventTimeline}
use Rattle.timeline.specs.Timeline.{Neat, waiting}
use Rattle.timeline.specs.Heads.{with_head}
use Rattle.automation.specs.declared.Walk.{Walk}
use Rattle.automation.specs.declared.Walked.{Walked}
use Rattle.automation.specs.Walks.{walk_as}

-- a walk before its first head, in the buffer c that was b
pub record Begins (f : BlockInfos) (v : Float) (l : Option Finished) (b : List Float) (w : Walk) (c : List Float) : Type 0 where
  pub walk : walk_as w c ≡ walk_from v l (values_before f.rate v) 0
  pub filled : w.filled ≤ length c
  pub whole : length c ≡ length b

-- a walk that ends with w, at this place and with this head left, in the buffer c that was b
pub record Ends (f : BlockInfos) (w : Walk) (b : List Float) (at : ℕ) (head : Option Event) (r : Walked) (c : List Float) : Type 0 where
  pub walk : walk_as r.walk c ≡ fill f f.count (λ s. w.intrinsic) (walk_as w b)
  pub filled : r.walk.filled ≤ length c
  pub whole : length c ≡ length b
  pub place : r.at ≡ at
  pub left : r.head ≡ head

-- What a walk leans on: a sound queue, whose numbers are in the store; a buffer with room for the block, and for its one value at K-rate.
pub record Walkable (f : BlockInfos) (q : AudioParamEventTimeline) (b store : List Float) : Type 0 where
  pub neat : Neat q
  pub sound : SoundQueue (waiting q)
  pub lent : lengths_of (waiting q) ≤ length store
  pub some : 0 < length b
  pub room : f.count ≤ length b
  pub most : length b ≤ 1024

-- What a walk leaves that begins with w, of the events es with their numbers in the store, in the buffer c that was b: the rules' walk, in the places filled; and
-- their queue, which is what waits behind the heads finished, its first event as it has become.
pub record Walks (f : BlockInfos) (w : Rules.Walk) (es : List Event) (store b : List Float) (r : Walked) (c : List Float) : Type 0 where
  pub walk : walk_as r.walk c ≡ (walked f w (attached es store)).walk
  pub queue : with_head r.head (drop r.at (attached es store)) ≡ (walked f w (attached es store)).queue
  pub filled : r.walk.filled ≤ length c
  pub whole : length c ≡ length b
