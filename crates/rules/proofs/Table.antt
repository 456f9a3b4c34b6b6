-- What the tables are made of: a case is a list of calls and what is said to each; the checker computes both. Definitions only.
use Rattle.std.proofs.Common.{Option, Some, Result, Ok, Err}
use Rattle.rules.specs.declared.Finished.{Finished}
use Rattle.rules.specs.declared.Refusal.{Refusal}
use mathlib.Core.Bool.{Bool, true, false}
use mathlib.Core.List.{List, [], ◌∷◌, ◌++◌}
use Prim.Native.Nat.{ℕ, zero, suc}
use lib.ListN.{take, drop, replicate}
use lib.IntN.{pos, negsuc}
use lib.Ieee as Ieee
use lib.Ieee.{Float, nan, inf, fin}
use Rattle.rules.specs.declared.Bounds.{Bounds}
use Rattle.rules.specs.declared.AutomationRate.{AutomationRate}
use Rattle.rules.specs.declared.AutomationRate.TheVariants as Rate
use Rattle.rules.specs.declared.Edition.{Edition}
use Rattle.rules.specs.Numbers as Numbers
use Rattle.rules.specs.Numbers.{store_length, plus_zero}
use Rattle.rules.specs.Kernels as Kernels
use Rattle.rules.specs.Samples as Samples
use Rattle.rules.specs.Queue as Queue
use Rattle.rules.specs.Queue.{Waiting, attached, lengths_of}
use Rattle.rules.specs.Refusals as Refusals
use Rattle.rules.specs.Refusals.{number_of, lowest, making_rows}
use Rattle.rules.specs.Walk as Walk
use Rattle.rules.specs.Mix as Mix
use Rattle.rules.specs.Block as Block
use Rattle.rules.specs.Block.{Param, Command, Call, Answer, Called, answered, called, made}

-- ---- numbers that are the same in either width, written in the one way that fits a format

abbrev pub n0 : Float
n0 = fin false 0 (pos 0)

abbrev pub n1 : Float
n1 = fin false 1 (pos 0)

abbrev pub n2 : Float
n2 = fin false 1 (pos 1)

abbrev pub n3 : Float
n3 = fin false 3 (pos 0)

abbrev pub n4 : Float
n4 = fin false 1 (pos 2)

abbrev pub n5 : Float
n5 = fin false 5 (pos 0)

abbrev pub n6 : Float
n6 = fin false 3 (pos 1)

abbrev pub n7 : Float
n7 = fin false 7 (pos 0)

abbrev pub n8 : Float
n8 = fin false 1 (pos 3)

abbrev pub n9 : Float
n9 = fin false 9 (pos 0)

abbrev pub n10 : Float
n10 = fin false 5 (pos 1)

abbrev pub half : Float
half = fin false 1 (negsuc 0)

abbrev pub minus0 : Float
minus0 = fin true 0 (pos 0)

abbrev pub minus1 : Float
minus1 = fin true 1 (pos 0)

abbrev pub minus10 : Float
minus10 = fin true 5 (pos 1)

-- 8388608, which marks an output's places before a call
abbrev pub mark : Float
mark = fin false 1 (pos 23)

abbrev pub bounds : Float → Float → Float → Bounds
bounds lo d hi = record { min = lo; default = d; max = hi }

abbrev pub done : Float → Float → Option Finished
done t v = Some (record { time = t; value = v })

-- ---- calls, and what is said to them

-- a block with its time, period, count, length of the output and input; `play` is one of period 1 with an output of just its count, of which the bench sheet
-- gives samples and steps alone; `hear` and `glance` ask for what the Rust can say, too: no steps, no block time, no store; `make` is `make_under` the first edition
pub data Act : Type 0 where
  make : Bounds → AutomationRate → Act
  make_under : Bounds → AutomationRate → ℕ → Act
  ask : Command → Act
  block : Float → Float → ℕ → ℕ → List Float → Act
  play : Float → ℕ → List Float → Act
  hear : Float → Float → ℕ → List Float → Act
  lend : ℕ → Act
  look glance intrinsic kind : Act

-- `output` and `turned` are a block's, answered and refused: steps, current value, one-valued, the whole output, `turned` with its number first;
-- `state` has the intrinsic value, the last block's time and its end, the last event, the waiting events with their numbers, and whether zeros stand behind these;
-- `of` the range, the rate and the edition
pub data Said : Type 0 where
  ok : Said
  refused : ℕ → Said
  output : ℕ → Float → Bool → List Float → Said
  turned : ℕ → ℕ → Float → Bool → List Float → Said
  heard : List Float → ℕ → Said
  state : Float → Option Float → Option Float → Option Finished → List Waiting → Bool → Said
  value : Float → Said
  of : Bounds → AutomationRate → Edition → Said
  sounds : Float → Bool → List Float → Said
  seen : Float → Option Finished → List Waiting → Said

pub record Case : Type 0 where
  pub acts : List Act
  pub said : List Said

unfoldable pub verdict_said : Result Unit Refusal → Said → Said
verdict_said (Ok _) s = s
verdict_said (Err r) s = refused (number_of r)

unfoldable pub all_zeros : List Float → Bool
all_zeros [] = true
all_zeros (fin false zero e ∷ xs) = all_zeros xs
all_zeros (fin false (suc m) e ∷ xs) = false
all_zeros (fin true m e ∷ xs) = false
all_zeros (nan ∷ xs) = false
all_zeros (inf s ∷ xs) = false

abbrev pub call_of : Float → Float → ℕ → ℕ → List Float → Call
call_of t p count out input =
    record { time = t; period = p; count = count; input = input; output = replicate out mark }

unfoldable pub output_as : Result Unit Refusal → Answer → Said
output_as (Ok _) a = output a.steps a.current a.one_valued a.output
output_as (Err r) a = turned (number_of r) a.steps a.current a.one_valued a.output

unfoldable pub output_said : Answer → Said
output_said a = output_as a.verdict a

unfoldable pub state_said : Param → List Float → Said
state_said p store =
    state p.intrinsic p.last_block p.last_end p.last (attached p.queue store) (all_zeros (drop (lengths_of p.queue) store))

-- each call on the parameter and the store that the one before left; `lend` cuts the store or lengthens it by zeros, so behind it nothing may read what was cut
unfoldable pub performed : List Act → Param → List Float → List Said
performed [] p store = []
performed (make b r ∷ acts) p store =
    verdict_said (lowest (making_rows b 1)) ok ∷ performed acts (made b r 1) (replicate store_length plus_zero)
performed (make_under b r n ∷ acts) p store =
    verdict_said (lowest (making_rows b n)) ok ∷ performed acts (made b r n) (replicate store_length plus_zero)
performed (ask c ∷ acts) p store = let a = called p store c in verdict_said a.verdict ok ∷ performed acts a.param a.store
performed (block t d count out input ∷ acts) p store =
    let a = answered p store (call_of t d count out input) in output_said a ∷ performed acts a.param a.store
performed (play t count input ∷ acts) p store =
    let a = answered p store (call_of t n1 count count input) in heard a.output a.steps ∷ performed acts a.param a.store
performed (hear t d count input ∷ acts) p store =
    let a = answered p store (call_of t d count count input) in sounds a.current a.one_valued a.output ∷ performed acts a.param a.store
performed (lend n ∷ acts) p store = ok ∷ performed acts p (take n (store ++ replicate n plus_zero))
performed (look ∷ acts) p store = state_said p store ∷ performed acts p store
performed (glance ∷ acts) p store = seen p.intrinsic p.last (attached p.queue store) ∷ performed acts p store
performed (intrinsic ∷ acts) p store = value p.intrinsic ∷ performed acts p store
performed (kind ∷ acts) p store = of p.bounds p.rate p.edition ∷ performed acts p store

-- what the rules say to each case; the names unfolded are all of specs/
unfoldable pub results : List Case → List (List Said)
unfolding verdict_said all_zeros output_as output_said state_said performed
    Ieee.of_int Ieee.neg Ieee.add Ieee.sub Ieee.mul Ieee.div Ieee.lt Ieee.le Ieee.eq Ieee.is_nan Ieee.size Ieee.to_unsigned
    Numbers.ceiling_of Numbers.is_finite Numbers.is_zero Numbers.is_positive Numbers.is_negative Numbers.magnitude Numbers.is_subnormal Numbers.taken_time Numbers.later_of Numbers.wide Numbers.whole_part Numbers.product Numbers.fused Numbers.narrowed Numbers.limit Numbers.place_from Numbers.periods_to Numbers.end_place Numbers.time_at Numbers.run Numbers.filled_at Numbers.filled
    Kernels.root_from Kernels.root Kernels.table_from Kernels.table Kernels.falling_from Kernels.falling Kernels.log_from Kernels.log
    Samples.phase_of Samples.has_no_length Samples.ramp_sample Samples.linear_sample Samples.is_ratio Samples.ratio_of Samples.ratio_log Samples.floor_of Samples.power_of Samples.power Samples.factor_of Samples.exponential_by Samples.exponential_sample Samples.decay_of Samples.decay Samples.target_sample Samples.last_number Samples.between Samples.curve_position Samples.curve_sample
    Queue.hold_or Queue.filed_under Queue.is_ramp Queue.curve_end Queue.is_inside Queue.covers Queue.length_of Queue.target_event Queue.head_of Queue.events_of Queue.numbers_of Queue.packed Queue.attached Queue.lengths_of Queue.any Queue.any_covers Queue.is_filed_inside Queue.any_inside Queue.has_not_later Queue.place_behind Queue.put_at Queue.inserted Queue.arrived Queue.those Queue.lasts_to Queue.goes_at Queue.is_before Queue.cancelled Queue.is_by Queue.has_started Queue.loses_head Queue.returned Queue.value_after_cancel Queue.sooner Queue.held_event Queue.held_at Queue.runs_at Queue.is_later Queue.is_not_later Queue.held_if_running Queue.last_held Queue.holds_ramp Queue.held_by Queue.held Queue.loses_curve Queue.value_after_hold
    Refusals.number_of Refusals.lowest Refusals.all_finite Refusals.are_bounds Refusals.is_edition Refusals.making_rows Refusals.is_crossed Refusals.value_rows Refusals.exponential_rows Refusals.target_rows Refusals.curve_rows Refusals.cancel_rows Refusals.fits_count Refusals.is_earlier Refusals.is_time Refusals.is_period Refusals.is_count Refusals.is_block Refusals.block_rows
    Walk.counted Walk.with_values Walk.with_intrinsic Walk.with_last Walk.with_turned Walk.consumed Walk.fill Walk.last_or Walk.start_of Walk.step_time Walk.step_from Walk.step_turn Walk.value_at_end Walk.span_turn Walk.linear_turn Walk.exponential_turn Walk.end_by_next Walk.end_by_hold Walk.snaps Walk.flushed Walk.flushed_for Walk.target_left Walk.target_run Walk.from_start Walk.target_turn Walk.curve_turn Walk.turn_of Walk.turn Walk.ended Walk.next Walk.walked
    Mix.clamped Mix.settled Mix.mixed Mix.mixed_all Mix.first_of Mix.spread Mix.inputs
    Block.edition_of Block.made_as Block.made Block.called_as Block.scheduled_as Block.called Block.infos_of Block.rests_for Block.values_before Block.rendered_as Block.rendered Block.is_silent Block.says_one Block.output_of Block.answer_of Block.answered_as Block.verdict_of Block.answered
results [] = []
results (c ∷ cases) = performed c.acts (made (bounds n0 n0 n0) Rate.A 1) (replicate store_length plus_zero) ∷ results cases

-- what is expected
unfoldable pub expected : List Case → List (List Said)
expected [] = []
expected (c ∷ cases) = c.said ∷ expected cases
