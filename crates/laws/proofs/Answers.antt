-- What holds of every call's answer: refused, nothing changes; not lent the store, it leaves it; a block's samples lie within the bounds, and its steps are at most 129. Assumes nothing.
use Rattle.std.proofs.Common.{Result, Ok, Err}
use mathlib.Core.Path.{◌≡◌, refl, sym, ap, ◌∙◌}
use mathlib.Core.Bool.{true, false}
use mathlib.Core.List.{List, [], ◌∷◌, ◌++◌}
use Prim.Native.Nat.{ℕ, suc, ◌+◌, ◌*◌, ◌≤◌}
use native.Mathlib.Omega.{arith}
use lib.ListN.{length, take, drop, length-append, length-drop, length-replicate}
use lib.Seq.{take_at, drop_at}
use borrow.Author.Tests.{eqb-true}
use lib.Ieee.{Float}
use Rattle.rules.specs.declared.AutomationRate.{AutomationRate}
use Rattle.rules.specs.declared.AutomationRate.TheVariants as Rate
use Rattle.rules.specs.declared.Bounds.{Bounds}
use Rattle.rules.specs.declared.Event.{Event}
use Rattle.rules.specs.declared.Refusal.{Refusal}
use Rattle.rules.specs.Numbers.{most_events, store_length, ceiling_of, plus_zero}
use Rattle.rules.specs.Queue.{Waiting, lengths_of, events_of, numbers_of, attached}
use Rattle.rules.specs.Refusals.{fits_count}
use Rattle.rules.specs.Walk.{Walked}
use Rattle.rules.specs.Mix.{mixed_all, inputs, spread, first_of}
use Rattle.rules.specs.Block.{Param, Command, called, called_as, scheduled_as, made, Call, Answer, infos_of, rendered, answer_of, output_of, answered_as, verdict_of, answered}
use Rattle.laws.specs.Sound.{Sound}
use Rattle.laws.specs.Fits.{AllFit}
use Rattle.laws.proofs.Rows.{Played, block_answered}
use Rattle.laws.proofs.Store.{attached-length, attached_fits, numbers-length, packed_back, packed-length, rendered_fits}
use Rattle.laws.proofs.Counts.{rendered_counts, rendered_steps}
use Rattle.laws.proofs.Kept.{made_sound, called_sound, answered_sound}
use Rattle.laws.proofs.Places.{samples_count}
use Rattle.laws.proofs.Within.{AllWithin, all-within, mixed-length}

-- ---- refused

pub refused_block : (p : Param) (store : List Float) (c : Call) (r : Refusal) → verdict_of p store c ≡ Err r
    → answered p store c
    ≡ record {
      verdict = Err r;
      param = p;
      store = store;
      output = c.output;
      steps = 0;
      current = plus_zero;
      one_valued = false;
      finished = 0;
      turned = 0;
    }
unfolding answered answered_as
refused_block p store c r e = ap (λ (v : Result Unit Refusal). answered_as v p store c) e

pub refused_called : (v : Result Unit Refusal) (p : Param) (store : List Float) (ws : List Waiting) (i : Float) (r : Refusal) → v ≡ Err r
    → called_as v p store ws i ≡ record { verdict = Err r; param = p; store = store }
unfolding called_as
refused_called v p store ws i r e = rw e

pub refused_scheduled : (v : Result Unit Refusal) (p : Param) (store : List Float) (e : Event) (r : Refusal) → v ≡ Err r
    → scheduled_as v p store e ≡ record { verdict = Err r; param = p; store = store }
unfolding scheduled_as
refused_scheduled v p store e r h = rw h

-- ---- not lent the store

-- a call that is not lent the store does the same whatever it holds, and leaves it
pub unlent : (v : Result Unit Refusal) (p : Param) (store : List Float) (e : Event)
    → scheduled_as v p store e ≡ record { verdict = (scheduled_as v p [] e).verdict; param = (scheduled_as v p [] e).param; store = store }
unfolding scheduled_as
unlent (Ok _) p store e = refl
unlent (Err r) p store e = refl

-- ---- an answered block

pub inputs-length : (r : AutomationRate) (count : ℕ) (xs : List Float) → fits_count xs count ≡ true → length (inputs r count xs) ≡ count
unfolding inputs spread fits_count
inputs-length r count [] h = length-replicate count plus_zero
inputs-length Rate.A count (x ∷ xs) h = eqb-true (length (x ∷ xs)) count h
inputs-length Rate.K count (x ∷ xs) h = length-replicate count (first_of (x ∷ xs))

module _ (p : Param) (store : List Float) (c : Call) (fine : verdict_of p store c ≡ Ok tt) where
  -- what it was given
  pub given : Played (ceiling_of p.edition) p.last_block store c.time c.period c.count c.input c.output
  unfolding verdict_of
  given = block_answered (ceiling_of p.edition) p.last_block store c.time c.period c.count c.input c.output fine

  abbrev ws : List Waiting
  ws = attached p.queue store

  abbrev done : Walked
  done = rendered (infos_of p.rate c) p.intrinsic p.last ws

  pub answer_is : answered p store c ≡ answer_of p (attached p.queue store) c (rendered (infos_of p.rate c) p.intrinsic p.last (attached p.queue store))
  unfolding answered answered_as
  answer_is = ap (λ (v : Result Unit Refusal). answered_as v p store c) fine

  abbrev samples : List Float
  samples = mixed_all p.bounds (inputs p.rate c.count c.input) (spread p.rate c.count done.walk.values)

  spread-length : length (spread p.rate c.count done.walk.values) ≡ c.count
  unfolding infos_of
  spread-length = samples_count (infos_of p.rate c) p.intrinsic p.last ws

  samples_length : length samples ≡ c.count
  samples_length =
      mixed-length p.bounds _ _ (inputs-length p.rate c.count c.input given.input_fits ∙ sym spread-length) ∙ spread-length

  output_is : (answered p store c).output ≡ samples ++ drop c.count c.output
  unfolding answer_of output_of infos_of
  output_is = ap (λ (a : Answer). a.output) answer_is

  -- each of the count samples
  pub samples_within : Sound p → AllWithin p.bounds (take c.count (answered p store c).output)
  samples_within s =
      rw (output_is, take_at samples (drop c.count c.output) c.count samples_length) (all-within p.bounds s.bounded _ _)

  -- behind them the output is as it came
  pub output_rest : drop c.count (answered p store c).output ≡ drop c.count c.output
  output_rest = rw (output_is, drop_at samples (drop c.count c.output) c.count samples_length)

  pub output_length : length (answered p store c).output ≡ length c.output
  output_length =
      let r : c.count ≤ length c.output = given.room in
      rw (output_is, length-append samples (drop c.count c.output), samples_length, length-drop) (omega arith)

  -- the steps are the walk's heads: those finished, those turned, and one
  pub steps_are : (answered p store c).steps ≡ suc ((answered p store c).finished + (answered p store c).turned)
  unfolding answer_of
  steps_are = rw answer_is (rendered_counts (infos_of p.rate c) p.intrinsic p.last ws).steps

  steps_few : length p.queue ≤ most_events → (answered p store c).steps ≤ 2 * most_events + 1
  unfolding answer_of
  steps_few h =
      let n : length ws ≡ length p.queue = attached-length p.queue store in
      rw answer_is (omega (arith, rendered_steps (infos_of p.rate c) p.intrinsic p.last ws))

  -- ---- what the next call reads

  waits_fit : Sound p → AllFit ws
  waits_fit s =
      let r : lengths_of p.queue ≤ store_length = s.waiting.room in
      let n : length store ≡ store_length = given.lent in
      attached_fits p.queue store (omega arith)

  done_fit : Sound p → AllFit done.queue
  done_fit s = rendered_fits (infos_of p.rate c) p.intrinsic p.last ws (waits_fit s)

  -- the events that the walk left, each with its numbers
  pub block_reads_back : Sound p
      → attached (answered p store c).param.queue (answered p store c).store
      ≡ (rendered (infos_of p.rate c) p.intrinsic p.last (attached p.queue store)).queue
  unfolding answer_of
  block_reads_back s = rw answer_is (packed_back done.queue (done_fit s))

  pub block_store : Sound p → length (answered p store c).store ≡ store_length
  unfolding answer_of
  block_store s =
      let r : lengths_of (events_of done.queue) ≤ store_length = rw (ap (λ (a : Answer). a.param.queue) answer_is) at (answered_sound p store s c).waiting.room in
      let n : length (numbers_of done.queue) ≡ lengths_of (events_of done.queue) = numbers-length done.queue (done_fit s) in
      rw answer_is (packed-length done.queue (omega arith))

pub at_most_129 : (p : Param) (store : List Float) (c : Call) → Sound p → (answered p store c).steps ≤ 129
unfolding answered answered_as
at_most_129 p store c s = go (verdict_of p store c) refl
  where
    go : (v : Result Unit Refusal) → verdict_of p store c ≡ v → (answered p store c).steps ≤ 129
    go (Ok _) e = steps_few p store c e s.waiting.few
    go (Err r) e = rw e (omega arith)

-- ---- a parameter that comes from the calls

pub data Reached : Param → Type 0 where
  begun : (b : Bounds) (r : AutomationRate) (n : ℕ) → Reached (made b r n)
  asked : (p : Param) (store : List Float) (c : Command) → Reached p → Reached (called p store c).param
  played : (p : Param) (store : List Float) (c : Call) → Reached p → Reached (answered p store c).param

pub reached_sound : {p : Param} → Reached p → Sound p
reached_sound (begun b r n) = made_sound b r n
reached_sound (asked p store c h) = called_sound p store (reached_sound h) c
reached_sound (played p store c h) = answered_sound p store (reached_sound h) c
