-- What a block ensures, by document 01's rules.
use Rattle.rules.specs.declared.Event.{Event}
use Rattle.rules.specs.declared.Refusal.{Refusal}
use Rattle.std.specs.Prelude.{◌≡◌, Bool, false, List, ℕ, ◌≤◌, length, drop, Float, Option, Some, None, Result, Ok}
use Rattle.rules.specs.declared.BlockInfos.{BlockInfos}
use Rattle.rules.specs.Numbers.{plus_zero, ceiling_of}
use Rattle.rules.specs.Queue.{length_of, lengths_of, attached}
use Rattle.rules.specs.Mix.{mixed}
use Rattle.rules.specs.Walk.{Walked}
use Rattle.rules.specs.Block.{Call, rendered_as, says_one, answered}
use Rattle.timeline.specs.declared.AudioParamEventTimeline.{AudioParamEventTimeline}
use Rattle.timeline.specs.Heads.{with_head}
use Rattle.curves.specs.Curves.{Leaves}
use Rattle.block.specs.Asked.{Fitting, written}
use Rattle.param.specs.declared.AudioParam.{AudioParam}
use Rattle.param.specs.declared.Processed.{Processed}
use Rattle.param.specs.declared.process.Played.{Played}
use Rattle.param.specs.Param.{param_of, struct_of, parts_of, SoundParam}

-- how many numbers of the store are the head's
unfoldable pub length_of_head : Option Event → ℕ
length_of_head None = 0
length_of_head (Some e) = length_of e

-- ---- what a block gives back

-- one that is refused: the parameter as it was
abbrev pub unplayed : AudioParam → Result Unit Refusal → Processed
unplayed p v = record { verdict = v; param = p; steps = 0; current = plus_zero; one = false }

-- one that is answered, by the queue and by what else its events leave
abbrev pub afterwards : AudioParam → BlockInfos → AudioParamEventTimeline → Played → Processed
afterwards p f q l =
    record {
      verdict = Ok tt;
      param = parts_of p.bounds p.rate p.edition l.intrinsic q (Some f.time) (Some f.next) l.last;
      steps = l.steps;
      current = mixed p.bounds plus_zero p.intrinsic;
      one = l.one;
    }

-- ---- what its events do, with their numbers in the part of the store that is the parameter's

-- what a block that is answered leans on
pub record Playable (p : AudioParam) (f : BlockInfos) (input output part : List Float) : Type 0 where
  pub param : SoundParam p
  pub fits : Fitting f input output
  pub few : f.count ≤ ceiling_of p.edition
  pub room : lengths_of (param_of p).queue ≤ length part

-- one-valued or not
abbrev pub played : AudioParam → BlockInfos → Bool → List Float → Walked
played p f rests part = rendered_as rests f p.intrinsic p.last (attached (param_of p).queue part)

-- what they leave: their queue is what waits behind those finished, its first event as it has become
pub record Plays (p : AudioParam) (f : BlockInfos) (rests : Bool) (input output part : List Float) (r : Played) (out : List Float) : Type 0 where
  pub queue : with_head r.head (drop r.at (attached (param_of p).queue part)) ≡ (played p f rests part).queue
  pub intrinsic : r.intrinsic ≡ (played p f rests part).walk.intrinsic
  pub last : r.last ≡ (played p f rests part).walk.last
  pub steps : r.steps ≡ (played p f rests part).walk.steps
  pub one : r.one ≡ says_one p.rate rests input
  pub samples : out ≡ written p.bounds f input (played p f rests part).walk.values output

-- what an answered block gives back by that, and what is then left in the part of the store
pub record Gives (p : AudioParam) (f : BlockInfos) (l : Played) (part : List Float) (r : Processed) (after : List Float) : Type 0 where
  pub given : r ≡ afterwards p f r.param.timeline l
  pub leaves : Leaves r.param.timeline part after (with_head l.head (drop l.at (attached (param_of p).queue part)))

-- ---- the block

-- the answer is the rules': verdict, parameter, steps, current value, whether one-valued; and what is left of output and store
pub record Processes (p : AudioParam) (store : List Float) (c : Call) (r : Processed) (output after : List Float) : Type 0 where
  pub verdict : r.verdict ≡ (answered (param_of p) store c).verdict
  pub param : r.param ≡ struct_of (answered (param_of p) store c).param
  pub steps : r.steps ≡ (answered (param_of p) store c).steps
  pub current : r.current ≡ (answered (param_of p) store c).current
  pub one : r.one ≡ (answered (param_of p) store c).one_valued
  pub written : output ≡ (answered (param_of p) store c).output
  pub left : after ≡ (answered (param_of p) store c).store
  pub sound : SoundParam r.param
