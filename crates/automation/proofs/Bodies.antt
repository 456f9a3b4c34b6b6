-- A body's branches, each the rules' turn: over what was filled and what the callees gave. Assumes nothing.
use Rattle.std.proofs.Common.{Option, Some, None}
use Rattle.std.specs.Option.{option_map_or}
use mathlib.Core.Path.{◌≡◌, refl, sym, ap, ◌∙◌}
use mathlib.Core.Bool.{Bool, true, false, cond}
use mathlib.Core.List.{List, []}
use Prim.Native.Nat.{ℕ, ◌-◌, ◌≤◌, ◌<◌, ◌^◌}
use native.Mathlib.Numerals.{add-one}
use native.Mathlib.Omega.{arith}
use lib.ListN.{length, get_or}
use lib.Seq.{drop-cons}
use lib.Ieee as Ieee
use lib.Ieee.{Float, nan, binary64}
use Rattle.rules.specs.declared.BlockInfos.{BlockInfos}
use Rattle.rules.specs.declared.Event.{Event}
use Rattle.rules.specs.declared.Finished.{Finished}
use Rattle.rules.specs.Numbers.{plus_zero, end_place}
use Rattle.rules.specs.Samples.{linear_sample, exponential_sample, is_ratio, ratio_of, target_sample, curve_sample, last_number}
use Rattle.rules.specs.Queue.{Waiting, alone, hold_or}
use Rattle.rules.specs.Walk as Rules
use Rattle.rules.specs.Walk.{last_or, start_of, step_time, step_turn, step_from, span_turn, fill, with_values, value_at_end, linear_turn, exponential_turn, from_start, target_turn, target_run, target_left, end_by_next, end_by_hold, snaps, curve_turn}
use Rattle.laws.proofs.Walks.{end_most}
use Rattle.timeline.specs.Heads.{waiting_as}
use Rattle.fills.specs.Filled.{Room, Filled, Flushed}
use Rattle.automation.specs.declared.Walk.{Walk}
use Rattle.automation.specs.declared.Turn.{Turn}
use Rattle.automation.specs.Walks.{walk_as, turn_as, Ready, Turns, with_filled, with_intrinsic, with_last, turned_to_step, consumed_with, stopped_with, went_on_with, ended_at}

-- room for a fill up to an end place
pub ready_room : {f : BlockInfos} {w : Walk} {b : List Float} → Ready f w b → (t : Float) {n : ℕ} → n ≡ end_place f t → Room w.filled n b
ready_room {f} r t e = record { filled = r.filled; upto = omega (arith, end_most f t, r.room); most = r.most }

-- a body leans on the places filled and on the count of events consumed, and on nothing else of a walk
pub ready_as : {f : BlockInfos} {w : Walk} {b : List Float} → Ready f w b → {u : Walk} → u.filled ≡ w.filled → u.finished ≡ w.finished → Ready f u b
ready_as r e h = record { filled = rw e r.filled; room = r.room; most = r.most; finished = rw h r.finished }

pub filled_at : {f : BlockInfos} {place m : ℕ} {sample : Float → Float} {k : ℕ} {b : List Float} {n : ℕ} {c : List Float} → place ≡ m → Filled f place sample k b n c → Filled f m sample k b n c
filled_at e g = rw e at g

-- nothing is done: the head e waits
pub stays : {w : Walk} {b numbers : List Float} {e : Event} → w.filled ≤ length b
    → Turns b numbers (Rules.stop (walk_as w b) (waiting_as e numbers)) (stopped_with w e) b
unfolding turn_as
stays h = record { turn = refl; filled = h; whole = refl }

-- ---- steps

-- A step's body behind its fill, from the walk w in the buffer b on: it ends at its time; the walk is u, the buffer c.
pub record Stepped (f : BlockInfos) (w : Walk) (b : List Float) (v t end : Float) (u : Walk) (c : List Float) : Type 0 where
  pub n : ℕ
  pub end_is : end ≡ step_time f t
  pub filled : Filled f (end_place f end) (λ x. w.intrinsic) w.filled b n c
  pub walk_is : u ≡ with_filled n w

module _ {f : BlockInfos} {w : Walk} {b : List Float} {v t end : Float} {u : Walk} {c : List Float} (s : Stepped f w b v t end u c) where
  pub step_stops : Ieee.lt f.next end ≡ true → Turns b [] (step_turn f (walk_as w b) v t) (stopped_with u (Event.Step v t)) c
  unfolding turn_as step_turn step_from fill with_values
  step_stops h =
      rw s.walk_is (record { turn = rw (← s.end_is, h, s.filled.values); filled = s.filled.small; whole = s.filled.whole })

  pub step_goes : Ieee.lt f.next end ≡ false → Turns b [] (step_turn f (walk_as w b) v t) (went_on_with (consumed_with end v u)) c
  unfolding turn_as step_turn step_from fill with_values Rules.consumed
  step_goes h =
      rw s.walk_is (record { turn = rw (← s.end_is, h, s.filled.values, add-one); filled = s.filled.small; whole = s.filled.whole })

-- ---- ramps and curves

-- A span's body behind its fill: its turn is the rules' span of the event e, with v the value with which it ends if not held; it ends at `end`; the walk is u, the
-- buffer c.
pub record Spanned (f : BlockInfos) (b numbers : List Float) (e : Event) (turn : Rules.Turn) (v : Float) (h : Option Float) (sample : Float → Float) (end : Float) (u : Walk) (c : List Float)
    : Type 0 where
  pub before : Walk
  pub time : Float
  pub n : ℕ
  pub turn_is : turn ≡ span_turn f (walk_as before b) (waiting_as e numbers) time v h sample
  pub end_is : end ≡ hold_or h time
  pub filled : Filled f (end_place f end) sample before.filled b n c
  pub walk_is : u ≡ with_filled n before
  pub few : before.finished < 2 ^ 32

module _ {f : BlockInfos} {b numbers : List Float} {e : Event} {turn : Rules.Turn} {v : Float} {h : Option Float} {sample : Float → Float} {end : Float} {u : Walk} {c : List Float}
    (s : Spanned f b numbers e turn v h sample end u c) where
  pub span_few : u.finished < 2 ^ 32
  span_few = rw s.walk_is s.few

  pub span_stops : Ieee.le f.next end ≡ true → {r : Float} → r ≡ sample f.next → Turns b numbers turn (stopped_with (with_intrinsic r u) e) c
  unfolding turn_as span_turn fill with_values Rules.with_intrinsic
  span_stops g q =
      rw (s.turn_is, s.walk_is)
      (record { turn = rw (← s.end_is, g, s.filled.values, q); filled = s.filled.small; whole = s.filled.whole })

  span_goes : Ieee.le f.next end ≡ false → {r : Float} → r ≡ value_at_end h v sample → Turns b numbers turn (went_on_with (consumed_with end r u)) c
  unfolding turn_as span_turn fill with_values Rules.consumed
  span_goes g q =
      rw (s.turn_is, s.walk_is)
      (record { turn = rw (← s.end_is, g, s.filled.values, q, add-one); filled = s.filled.small; whole = s.filled.whole })

  pub span_ends : Ieee.le f.next end ≡ false → h ≡ None → {r : Float} → r ≡ v → Turns b numbers turn (went_on_with (consumed_with end r u)) c
  unfolding value_at_end
  span_ends g m q = span_goes g (rw m q)

  pub span_held : Ieee.le f.next end ≡ false → {k : Float} → h ≡ Some k → {r : Float} → r ≡ sample end
      → Turns b numbers turn (went_on_with (consumed_with end r u)) c
  unfolding value_at_end hold_or
  span_held g {k} m q = let z : end ≡ k = rw m at s.end_is in span_goes g (q ∙ rw (z, m))

  pub span_answers : {r : Turn} → r ≡ ended_at f u e end h v sample → Turns b numbers turn r c
  span_answers {r} a = rw a (go (Ieee.le f.next end) refl h refl)
    where
      go : (t : Bool) → Ieee.le f.next end ≡ t → (k : Option Float) → h ≡ k
          → Turns b numbers turn (cond t (stopped_with (with_intrinsic (sample f.next) u) e) (went_on_with (consumed_with end (option_map_or (λ (x : Float). sample end) k v) u))) c
      go true g k m = span_stops g refl
      go false g None m = span_ends g m refl
      go false g (Some x) m = span_held g m refl

-- ---- targets

-- A target's run behind its fill, from the walk w in the buffer b on: `ended` says where it ends, if it does in this block; the walk is u, the buffer c.
pub record Targeted (f : BlockInfos) (w : Walk) (b : List Float) (ended : Option Float) (sample : Float → Float) (end : Float) (u : Walk) (c : List Float) : Type 0 where
  pub n : ℕ
  pub end_is : end ≡ hold_or ended f.next
  pub filled : Filled f (end_place f end) sample w.filled b n c
  pub walk_is : u ≡ with_filled n w

module _ {f : BlockInfos} {w : Walk} {b : List Float} {ended : Option Float} {sample : Float → Float} {end : Float} {u : Walk} {c : List Float}
    (s : Targeted f w b ended sample end u c) {r : Float} (value : r ≡ sample end) where
  pub target_ends : {k : Float} → ended ≡ Some k → (e : Event) (target : Float)
      → Turns b [] (target_run f (walk_as w b) (alone e) target sample ended) (went_on_with (consumed_with end r u)) c
  unfolding turn_as target_run fill with_values Rules.consumed hold_or
  target_ends {k} m e target =
      let z : end ≡ k = rw m at s.end_is in
      rw s.walk_is
      (record { turn = rw (m, ← z, s.filled.values, value, add-one); filled = s.filled.small; whole = s.filled.whole })

  -- where it does not end in the block
  module _ (m : ended ≡ None) where
    at_next : end ≡ f.next
    unfolding hold_or
    at_next = rw m at s.end_is

    value_next : r ≡ sample f.next
    value_next = value ∙ ap sample at_next

    filled_next : Filled f (end_place f f.next) sample w.filled b s.n c
    filled_next = rw at_next at s.filled

    pub target_leaves : (e : Event) (target : Float) {t : Turn} {d : List Float} → Turns c [] (target_left f (walk_as u c) (alone e) target r) t d
        → Turns b [] (target_run f (walk_as w b) (alone e) target sample ended) t d
    unfolding target_run fill with_values
    target_leaves e target t =
        record {
          turn = t.turn ∙ sym (rw (m, ← value_next, ← filled_next.values, s.walk_is));
          filled = t.filled;
          whole = t.whole ∙ filled_next.whole;
        }

-- v is the value at the next block
module _ (f : BlockInfos) (w : Walk) (b : List Float) (e : Event) (target v : Float) where
  pub left-stays : snaps target v ≡ false → w.filled ≤ length b → Turns b [] (target_left f (walk_as w b) (alone e) target v) (stopped_with (with_intrinsic v w) e) b
  unfolding turn_as target_left Rules.with_intrinsic
  left-stays g h = record { turn = rw g; filled = h; whole = refl }

  pub left-snaps : snaps target v ≡ true → w.filled ≤ length b → {c : List Float} → Flushed target w.filled b c
      → Turns b [] (target_left f (walk_as w b) (alone e) target v) (stopped_with (with_intrinsic target w) (Event.Step target f.next)) c
  unfolding turn_as target_left with_values Rules.with_intrinsic
  left-snaps g h flushed = record { turn = rw (g, flushed.values); filled = omega (arith, flushed.whole); whole = flushed.whole }

-- a curve's last number, as code reads it
pub last_read : (xs : List Float) → 2 ≤ length xs → get_or xs (length xs - 1) nan ≡ last_number xs
unfolding last_number
last_read xs h =
    let i : length xs - 1 < length xs = omega arith in
    let e = sym (drop-cons xs (length xs - 1) nan i) ∙ drop-cons xs (length xs - 1) plus_zero i in
    cc

-- ---- which of these a body is

module _ (f : BlockInfos) (w : Walk) (b : List Float) {from : Finished} (is : from ≡ last_or f w.intrinsic w.last) (x : Waiting) (v t : Float) (h : Option Float) where
  pub linear_is : linear_turn f (walk_as w b) x v t h ≡ span_turn f (walk_as (with_last from w) b) x t v h (linear_sample from v (Ieee.sub binary64 t from.time))
  unfolding linear_turn start_of Rules.with_last
  linear_is = rw (← is)

  pub exponential_is : is_ratio (ratio_of from v) ≡ true
      → exponential_turn f (walk_as w b) x v t h ≡ span_turn f (walk_as (with_last from w) b) x t v h (exponential_sample from v (Ieee.sub binary64 t from.time))
  unfolding exponential_turn start_of Rules.with_last
  exponential_is r = rw (← is, r)

  pub exponential_steps : is_ratio (ratio_of from v) ≡ false
      → exponential_turn f (walk_as w b) x v t h ≡ step_turn f (walk_as (turned_to_step (with_last from w)) b) v (hold_or h t)
  unfolding exponential_turn start_of Rules.with_last Rules.with_turned Rules.counted
  exponential_steps r = rw (← is, r, add-one, add-one)

  module _ (k : Float) (n : Option Event) where
    pub target_waits : Ieee.lt f.next t ≡ true → target_turn f (walk_as w b) x v t k h n ≡ Rules.stop (walk_as (with_last from w) b) x
    unfolding target_turn start_of Rules.with_last
    target_waits g = rw (← is, g)

    pub target_is : Ieee.lt f.next t ≡ false
        → target_turn f (walk_as w b) x v t k h n
        ≡ target_run f (walk_as (with_last from w) b) x v (from_start t w.intrinsic (target_sample from.value v t k)) (end_by_hold f h (end_by_next f t n))
    unfolding target_turn start_of Rules.with_last
    target_is g = rw (← is, g)

module _ (f : BlockInfos) (w : Walk) (b : List Float) (x : Waiting) (s d : Float) (h : Option Float) where
  pub curve_waits : Ieee.lt f.next s ≡ true → curve_turn f (walk_as w b) x s d h ≡ Rules.stop (walk_as w b) x
  unfolding curve_turn
  curve_waits g = rw g

  pub curve_is : Ieee.lt f.next s ≡ false
      → curve_turn f (walk_as w b) x s d h
      ≡ span_turn f (walk_as w b) x (Ieee.add binary64 s d) (last_number x.numbers) h (from_start s w.intrinsic (curve_sample x.numbers s d))
  unfolding curve_turn
  curve_is g = rw g
