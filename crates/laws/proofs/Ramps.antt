-- Ramps of no length (02, C-18): such a ramp is at its end value at every time, and a block that leaves it waiting leaves that value, not a NaN. Assumes nothing.
use Rattle.std.proofs.Common.{Option, Some, None, Ok}
use mathlib.Core.Path.{◌≡◌, refl, ap}
use mathlib.Core.Bool.{Bool, true, false, not, cond}
use mathlib.Core.List.{List, [], ◌∷◌}
use Prim.Native.Nat.{ℕ, ◌-◌, ◌*◌, ◌<◌}
use native.Mathlib.Nat.{mul-pos}
use native.Mathlib.Omega.{arith}
use lib.Dec.{ltb}
use borrow.Author.Tests.{le-ltb}
use lib.Ieee as Ieee
use lib.Ieee.{Float, nan, inf, fin, Format, binary32, binary64, round, up, down}
use lib.Ieee.Order.{round_mono}
use Rattle.rules.specs.declared.Event.{Event}
use Rattle.rules.specs.declared.Finished.{Finished}
use Rattle.rules.specs.declared.BlockInfos.{BlockInfos}
use Rattle.rules.specs.Numbers.{plus_zero, is_finite, is_zero}
use Rattle.rules.specs.Samples.{has_no_length, ramp_sample, linear_sample, exponential_sample, is_ratio, ratio_of}
use Rattle.rules.specs.Queue.{Waiting, attached, events_of, head_of, hold_or, filed_under, is_ramp}
use Rattle.rules.specs.Walk.{Walk, Walked, Turn, stop, on, walked, next, ended, turn, turn_of, linear_turn, exponential_turn, span_turn, step_turn, step_from, step_time, target_turn, target_run, target_left, end_by_next, end_by_hold, snaps, curve_turn, start_of, last_or, counted, with_last, with_intrinsic, with_values, fill, consumed}
use Rattle.rules.specs.Block.{Param, Call, infos_of, rests_for, walk_from, values_before, rendered_as, rendered, answer_of, answered, verdict_of}
use Rattle.laws.specs.Sound.{is_clear, are_clear, Sound}
use Rattle.laws.proofs.Tests.{never, told}
use Rattle.laws.proofs.Order.{down_pos, finite_number, number_le, le_not_lt}
use Rattle.laws.proofs.Results.{taken-parts}
use Rattle.laws.proofs.Clear.{all-parts, linear_parts, exponential_parts}
use Rattle.laws.proofs.Walks.{Turns, stops, goes, by_cond, Whatever}
use Rattle.laws.proofs.Answers.{answer_is}

-- ---- the sample

module _ (v d : Float) (along : Float → Float) where
  pub ramp_ended : has_no_length d ≡ true → ramp_sample v d along ≡ (λ t. v)
  unfolding ramp_sample
  ramp_ended h = ap (λ (b : Bool). λ (t : Float). cond b v (along t)) h

  pub ramp_along : has_no_length d ≡ false → ramp_sample v d along ≡ along
  unfolding ramp_sample
  ramp_along h = ap (λ (b : Bool). λ (t : Float). cond b v (along t)) h

module _ (from : Finished) (v d : Float) (h : has_no_length d ≡ true) where
  pub linear_ended : linear_sample from v d ≡ (λ t. v)
  unfolding linear_sample
  linear_ended = ramp_ended v d _ h

  pub exponential_ended : exponential_sample from v d ≡ (λ t. v)
  unfolding exponential_sample
  exponential_ended = ramp_ended v d _ h

-- ---- a ramp at the last event's own time has no length

none_rounds : (f : Format) → round f false 0 1 ≡ plus_zero
unfolding round
none_rounds binary32 = refl
none_rounds binary64 = refl

rounds_to_none : (f : Format) (d : ℕ) → 0 < d → Ieee.le (round f false 0 d) plus_zero ≡ true
rounds_to_none f d h = told _ (rw (none_rounds f) at (round_mono f 0 d 0 1 h (omega arith) (omega arith)))

pub same_time : (f : Format) (t : Float) → is_finite t ≡ true → has_no_length (Ieee.sub f t t) ≡ true
unfolding has_no_length Ieee.sub Ieee.add Ieee.neg Ieee.sum is_finite
same_time f nan h = never h
same_time f (inf s) h = never h
same_time f (fin s m e) h = go s
  where
    none_left : (n : ℕ) → Ieee.le (round f false (n - n) (down e * down e)) plus_zero ≡ true
    none_left n =
        let z : n - n ≡ 0 = omega arith in
        rw z (rounds_to_none f (down e * down e) (mul-pos (down_pos e) (down_pos e)))

    not_less : (n : ℕ) → ltb n n ≡ false
    not_less n = le-ltb n n (omega arith)

    go : (s : Bool) → Ieee.le (Ieee.sum f s (m * up e * down e) (not s) (m * up e * down e) (down e * down e)) plus_zero ≡ true
    go true = rw (not_less (m * up e * down e)) (none_left (m * up e * down e))
    go false = rw (not_less (m * up e * down e)) (none_left (m * up e * down e))

-- ---- what a walk leaves that comes to such a ramp

-- a ramp to v at t, not held; an exponential one that has a ratio from where the event l ended, else it is a step
pub data Ramp (l : Finished) (v t : Float) : Event → Type 0 where
  linear : Ramp l v t (Event.Linear v t None)
  exponential : is_ratio (ratio_of l v) ≡ true → Ramp l v t (Event.Exponential v t None)

-- The walk w comes to the ramp x with the event l finished, whatever was before, at either rate; the ramp does not end before the block.
module _ (f : BlockInfos) (w : Walk) (x : Waiting) (xs : List Waiting) {l : Finished} (last : w.last ≡ Some l) {v t : Float}
    (none : has_no_length (Ieee.sub binary64 t l.time) ≡ true) (over : Ieee.le f.next t ≡ true) where
  turn_leaves_end : (e : Event) → Ramp l v t e → (next f xs (λ u. walked f u xs) (turn_of f (counted w) x (head_of xs) e)).walk.intrinsic ≡ v
  unfolding turn_of linear_turn exponential_turn span_turn start_of last_or counted hold_or next ended fill with_values with_intrinsic
  turn_leaves_end e linear = rw (last, over, linear_ended l v _ none)
  turn_leaves_end e (exponential r) = rw (last, r, over, exponential_ended l v _ none)

  pub walk_leaves_end : Ramp l v t x.event → (walked f w (x ∷ xs)).walk.intrinsic ≡ v
  unfolding walked turn
  walk_leaves_end r = turn_leaves_end x.event r

-- ---- what a block leaves: 02's complaint, "A ramp filed at the very time of the event before it .. where that time is a block's end"

-- a step to u at t, the ramp x behind it, and t the block's end
rendered_leaves_end : (f : BlockInfos) (i : Float) (l : Option Finished) (u v t : Float) (ns : List Float) (x : Waiting) (xs : List Waiting) → is_finite t ≡ true
    → is_zero t ≡ false → f.next ≡ t → Ramp (record { time = t; value = u }) v t x.event
    → (rendered f i l (record { event = Event.Step u t; numbers = ns } ∷ x ∷ xs)).walk.intrinsic ≡ v
unfolding rendered rendered_as rests_for head_of is_ramp filed_under walked next turn turn_of step_turn step_from step_time consumed
rendered_leaves_end f i l u v t ns x xs p z is r =
    let here : Ieee.le f.next t ≡ true = rw is (number_le t (finite_number t p)) in
    let due : Ieee.lt f.next t ≡ false = rw is (le_not_lt t t (number_le t (finite_number t p))) in
    rw (due, z, due) (walk_leaves_end f _ x xs refl (same_time binary64 t p) here r)

-- The events wait in a parameter, of either rate. That t is not 0 is asked for: no block of f64 numbers ends there, but the rules' floats have no smallest one.
module _ (p : Param) (sound : Sound p) (u v t : Float) (e : Event) (rest : List Event) (waits : p.queue ≡ Event.Step u t ∷ e ∷ rest)
    (ramp : Ramp (record { time = t; value = u }) v t e) (z : is_zero t ≡ false) where
  clear : is_clear e ≡ true
  clear =
      let all : are_clear (Event.Step u t ∷ e ∷ rest) ≡ true = rw waits at sound.waiting.clear in
      (all-parts is_clear e rest (all-parts is_clear (Event.Step u t) (e ∷ rest) all).1).0

  parts : (e : Event) → Ramp (record { time = t; value = u }) v t e → is_clear e ≡ true → (is_finite v ≡ true) × (is_finite t ≡ true)
  parts e linear h = let a = linear_parts v t None h in (a.0, (taken-parts t a.1.time).0)
  parts e (exponential r) h = let a = exponential_parts v t None h in (a.0, (taken-parts t a.2.time).0)

  -- the intrinsic value is the ramp's end value, which is a number
  pub ramp_of_no_length : (store : List Float) (c : Call) → verdict_of p store c ≡ Ok tt → (infos_of p.rate c).next ≡ t
      → ((answered p store c).param.intrinsic ≡ v) × (is_finite v ≡ true)
  unfolding answer_of attached
  ramp_of_no_length store c fine is =
      let a = parts e ramp clear in (
        rw (answer_is p store c fine, waits) (rendered_leaves_end (infos_of p.rate c) p.intrinsic p.last u v t _ _ _ a.1 z is ramp),
        a.0,
      )

-- ---- after every block, whatever the events before were: where a ramp of no length waits first, the intrinsic value is its end value

-- of a ramp to v at t, the last event and the intrinsic value
abbrev pub EndsThere : Float → Float → Option Finished → Float → Type 0
EndsThere v t last i = (l : Finished) → last ≡ Some l → has_no_length (Ieee.sub binary64 t l.time) ≡ true → i ≡ v

-- of a head
abbrev pub AtItsEnd : Event → Option Finished → Float → Type 0
AtItsEnd (Event.Step v t) last i = Unit {0}
AtItsEnd (Event.Linear v t h) last i = EndsThere v t last i
AtItsEnd (Event.Exponential v t h) last i = EndsThere v t last i
AtItsEnd (Event.Target v t c h) last i = Unit {0}
AtItsEnd (Event.Curve s d n h) last i = Unit {0}

abbrev pub HeadAtItsEnd : List Event → Option Finished → Float → Type 0
HeadAtItsEnd [] last i = Unit {0}
HeadAtItsEnd (e ∷ es) last i = AtItsEnd e last i

abbrev StopsAtEnd : Walk → Waiting → Type 0
StopsAtEnd w x = AtItsEnd x.event w.last w.intrinsic

same_last : {k l : Finished} → Some k ≡ Some l → k ≡ l
same_last e = cc

module _ (f : BlockInfos) (x : Waiting) (n : Option Event) where
  step_at_end : (w : Walk) (v t : Float) → Turns StopsAtEnd Whatever (step_turn f w v t)
  unfolding step_turn step_from
  step_at_end w v t = by_cond (Ieee.lt f.next (step_time f t)) (stops tt) (goes tt)

  span_at_end : (w : Walk) (t v : Float) (h : Option Float) (sample : Float → Float) → AtItsEnd x.event w.last (sample f.next)
      → Turns StopsAtEnd Whatever (span_turn f w x t v h sample)
  unfolding span_turn fill with_values with_intrinsic
  span_at_end w t v h sample g = by_cond (Ieee.le f.next (hold_or h t)) (stops g) (goes tt)

  -- the head's own event is no ramp
  module _ (no-ramp : (last : Option Finished) (i : Float) → AtItsEnd x.event last i) where
    run-at_end : (w : Walk) (target : Float) (sample : Float → Float) (e : Option Float) → Turns StopsAtEnd Whatever (target_run f w x target sample e)
    unfolding target_run target_left
    run-at_end w target sample None = by_cond (snaps target (sample f.next)) (stops tt) (stops (no-ramp _ _))
    run-at_end w target sample (Some end) = goes tt

  -- from the event l on, which is the last one: either ramp's sample
  ends_there : (sample : Finished → Float → Float → Float → Float) → ((l : Finished) (v d : Float) → has_no_length d ≡ true → sample l v d ≡ (λ s. v))
      → (l : Finished) (v t : Float) → EndsThere v t (Some l) (sample l v (Ieee.sub binary64 t l.time) f.next)
  ends_there sample ended l v t k e none = ap (λ (s : Float → Float). s f.next) (ended l v (Ieee.sub binary64 t l.time) (rw (same_last e) none))

  turn-at_end : (w : Walk) (e : Event) → x.event ≡ e → Turns StopsAtEnd Whatever (turn_of f w x n e)
  unfolding turn_of linear_turn exponential_turn target_turn curve_turn with_last
  turn-at_end w (Event.Step v t) is = step_at_end w v t
  turn-at_end w (Event.Linear v t h) is = span_at_end (with_last (start_of f w) w) t v h _ (rw is (ends_there linear_sample linear_ended (start_of f w) v t))
  turn-at_end w (Event.Exponential v t h) is =
      by_cond
      (is_ratio (ratio_of (start_of f w) v))
      (span_at_end (with_last (start_of f w) w) t v h _ (rw is (ends_there exponential_sample exponential_ended (start_of f w) v t)))
      (step_at_end _ v (hold_or h t))
  turn-at_end w (Event.Target v t c h) is =
      by_cond (Ieee.lt f.next t) (stops (rw is tt)) (run-at_end (λ last i. rw is tt) _ v _ (end_by_hold f h (end_by_next f t n)))
  turn-at_end w (Event.Curve s d c h) is = by_cond (Ieee.lt f.next s) (stops (rw is tt)) (span_at_end w _ _ h _ (rw is tt))

module _ (f : BlockInfos) where
  abbrev LeavesAtEnd : Walked → Type 0
  LeavesAtEnd done = HeadAtItsEnd (events_of done.queue) done.walk.last done.walk.intrinsic

  next-at_end : (xs : List Waiting) (rest : Walk → Walked) → ((w : Walk) → LeavesAtEnd (rest w)) → (t : Turn) → Turns StopsAtEnd Whatever t → LeavesAtEnd (next f xs rest t)
  unfolding next ended fill with_values events_of
  next-at_end xs rest more (stop w x) (stops g) = g
  next-at_end xs rest more (on w) (goes g) = more w

  walk_at_end : (ws : List Waiting) (w : Walk) → LeavesAtEnd (walked f w ws)
  unfolding walked ended fill with_values events_of turn
  walk_at_end [] w = tt
  walk_at_end (x ∷ xs) w =
      next-at_end xs (λ u. walked f u xs) (walk_at_end xs) (turn f w x (head_of xs)) (turn-at_end f x (head_of xs) (counted w) x.event refl)

  -- a block that rests has no ramp as its head
  rest_at_end : (e : Event) → rests_for f (Some e) ≡ true → (last : Option Finished) (i : Float) → AtItsEnd e last i
  unfolding rests_for is_ramp
  rest_at_end (Event.Step v t) r last i = tt
  rest_at_end (Event.Linear v t h) r last i = never r
  rest_at_end (Event.Exponential v t h) r last i = never r
  rest_at_end (Event.Target v t c h) r last i = tt
  rest_at_end (Event.Curve s d n h) r last i = tt

  module _ (i : Float) (l : Option Finished) where
    still_at_end : (ws : List Waiting) → rests_for f (head_of ws) ≡ true → HeadAtItsEnd (events_of ws) l i
    unfolding head_of events_of
    still_at_end [] r = tt
    still_at_end (x ∷ xs) r = rest_at_end x.event r l i

    rendered_as-at_end : (b : Bool) (ws : List Waiting) → rests_for f (head_of ws) ≡ b → LeavesAtEnd (rendered_as b f i l ws)
    unfolding rendered_as
    rendered_as-at_end true ws r = still_at_end ws r
    rendered_as-at_end false ws r = walk_at_end ws (walk_from i l (values_before f.rate i) 0)

    rendered-at_end : (ws : List Waiting) → LeavesAtEnd (rendered f i l ws)
    unfolding rendered
    rendered-at_end ws = rendered_as-at_end (rests_for f (head_of ws)) ws refl

pub waits_at_its_end : (p : Param) (store : List Float) (c : Call) → verdict_of p store c ≡ Ok tt
    → HeadAtItsEnd (answered p store c).param.queue (answered p store c).param.last (answered p store c).param.intrinsic
unfolding answer_of
waits_at_its_end p store c fine = rw (answer_is p store c fine) (rendered-at_end (infos_of p.rate c) p.intrinsic p.last (attached p.queue store))
