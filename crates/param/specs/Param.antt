-- The parameter as code holds it, and what each call ensures: one relation for a kind of call, by document 01's rules.
use Rattle.rules.specs.declared.Finished.{Finished}
use Rattle.std.specs.Prelude.{◌≡◌, Bool, cond, ◌&&◌, List, ℕ, ◌<◌, leb, length, Float, Option, Result, Ok, Err}
use Rattle.rules.specs.declared.Bounds.{Bounds}
use Rattle.rules.specs.declared.AutomationRate.{AutomationRate}
use Rattle.rules.specs.declared.AutomationRate.TheVariants as Rate
use Rattle.rules.specs.declared.Edition.{Edition}
use Rattle.rules.specs.declared.Refusal.{Refusal}
use Rattle.rules.specs.declared.Event.{Event}
use Rattle.rules.specs.Numbers.{plus_zero, most_events}
use Rattle.rules.specs.Refusals.{lowest, making_rows}
use Rattle.rules.specs.Block.{Param, fresh, made, Command, Called, called}
use Rattle.laws.specs.Sound.{Sound, is_sound}
use Rattle.timeline.specs.declared.AudioParamEventTimeline.{AudioParamEventTimeline}
use Rattle.timeline.specs.Timeline.{made as queue_of, waiting, Neat}
use Rattle.param.specs.declared.AudioParam.{AudioParam}
use Rattle.param.specs.declared.Outcome.{Outcome}

-- ---- the parameter

-- the rules' parameter that a struct stands for
abbrev pub param_of : AudioParam → Param
param_of p =
    record {
      bounds = p.bounds;
      rate = p.rate;
      edition = p.edition;
      intrinsic = p.intrinsic;
      queue = waiting p.timeline;
      last_block = p.block;
      last_end = p.end;
      last = p.last;
    }

-- the one struct that stands for a parameter: the slots behind its queue are blank
abbrev pub struct_of : Param → AudioParam
struct_of p =
    record {
      bounds = p.bounds;
      rate = p.rate;
      edition = p.edition;
      intrinsic = p.intrinsic;
      timeline = queue_of p.queue;
      block = p.last_block;
      end = p.last_end;
      last = p.last;
    }

-- what every parameter is that these calls give back, and all that they ask of one
pub record SoundParam (p : AudioParam) : Type 0 where
  pub neat : Neat p.timeline
  pub sound : Sound (param_of p)

-- ---- what the calls ensure

-- the constructors; n is the number of the edition
pub record Makes (b : Bounds) (rate : AutomationRate) (n : ℕ) (r : Outcome) : Type 0 where
  pub verdict : r.verdict ≡ lowest (making_rows b n)
  pub param : r.param ≡ struct_of (made b rate n)
  pub sound : SoundParam r.param

-- a call that schedules or cancels: `store` is lent to it, and left as `after`; both are [] where none is lent
pub record Answers (p : AudioParam) (store : List Float) (c : Command) (r : Outcome) (after : List Float) : Type 0 where
  pub verdict : r.verdict ≡ (called (param_of p) store c).verdict
  pub param : r.param ≡ struct_of (called (param_of p) store c).param
  pub left : after ≡ (called (param_of p) store c).store
  pub sound : SoundParam r.param

-- ---- a parameter of its parts

abbrev pub parts_of : Bounds → AutomationRate → Edition → Float → AudioParamEventTimeline → Option Float → Option Float → Option Finished → AudioParam
parts_of b rate edition v q t e l =
    record { bounds = b; rate = rate; edition = edition; intrinsic = v; timeline = q; block = t; end = e; last = l }

-- whether parts make a parameter: slots behind the length do not count
unfoldable pub is_whole : AudioParam → Bool
is_whole p = leb p.timeline.len most_events && is_sound (param_of p)

-- "Refusal 1 returns an empty A-rate parameter with all numbers 0", and 12 the same, "of the first edition"
abbrev pub nothing_made : Param
nothing_made = fresh (record { min = plus_zero; default = plus_zero; max = plus_zero }) Rate.A Edition.First

abbrev pub unmade_by : Refusal → Outcome
unmade_by why = record { verdict = Err why; param = struct_of nothing_made }

abbrev pub unmade : Outcome
unmade = unmade_by Refusal.Bounds

-- Parts that make a parameter give it, their other slots blank. All others are refused as bad bounds are, by refusal 1 and with what it returns (ours).
pub record Restores (parts : AudioParam) (r : Outcome) : Type 0 where
  pub gives : r ≡ cond (is_whole parts) (record { verdict = (Ok tt); param = struct_of (param_of parts) }) unmade
  pub sound : SoundParam r.param

-- ---- what private functions give back

-- a call's answer, as code has it
abbrev pub outcome_of : Called → Outcome
outcome_of c = record { verdict = c.verdict; param = struct_of c.param }

-- an answered call: another queue, another intrinsic value, and else the same parameter
abbrev pub answered_with : AudioParam → AudioParamEventTimeline → Float → Outcome
answered_with p q v = record { verdict = Ok tt; param = parts_of p.bounds p.rate p.edition v q p.block p.end p.last }

-- one more event can wait where a call is answered
abbrev pub HasRoom : Result Unit Refusal → List Event → Type 0
HasRoom v q = v ≡ Ok tt → length q < most_events
