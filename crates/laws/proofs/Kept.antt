-- A parameter's invariant is kept by every call: made, scheduled, cancelled, held, and a block; and by all but the block, that no event lies inside a curve. Assumes
-- nothing.
use Rattle.std.proofs.Common.{Some, None, Result, Ok, Err}
use mathlib.Core.Path.{◌≡◌, refl, sym, ap, subst}
use mathlib.Core.Bool.{Bool, true, false, cond, not}
use mathlib.Core.List.{List, ◌∷◌}
use Prim.Native.Nat.{ℕ, ◌+◌, ◌≤◌, ◌<◌}
use native.Mathlib.Omega.{arith}
use lib.ListN.{length}
use borrow.Author.Tests.{le-leb}
use lib.Ieee as Ieee
use lib.Ieee.{Float, binary64}
use Rattle.rules.specs.declared.Event.{Event}
use Rattle.rules.specs.declared.Bounds.{Bounds}
use Rattle.rules.specs.declared.AutomationRate.{AutomationRate}
use Rattle.rules.specs.declared.Edition.{Edition}
use Rattle.rules.specs.declared.BlockInfos.{BlockInfos}
use Rattle.rules.specs.declared.Refusal.{Refusal}
use Rattle.rules.specs.Numbers.{most_events, store_length, ceiling_of, plus_zero, is_finite, is_zero, is_positive, is_negative, taken_time, wide}
use Rattle.rules.specs.Queue.{Waiting, hold_or, filed_under, covers, is_filed_inside, any_inside, length_of, lengths_of, events_of, attached, inserted, arrived, target_event}
use Rattle.rules.specs.Refusals.{Row, row, lowest, all_finite, are_bounds, is_period, making_rows}
use Rattle.rules.specs.Block.{Param, fresh, edition_of, made_as, made, called_as, scheduled_as, Command, set, step, linear, exponential, target, curve, cancel, hold, called, Call, infos_of, answer_of, answered_as, verdict_of, answered}
use Rattle.laws.specs.Sound.{is_from_zero, is_taken, is_taken_if_any, is_held_by, is_held_from, is_span, is_clear, is_due, all, are_due, SoundQueue, is_last_clear, has_played, is_end_of, are_block_times, Sound}
use Rattle.laws.specs.Apart.{is_apart, are_apart}
use Rattle.laws.proofs.Tests.{and}
use Rattle.laws.proofs.Order.{le_not_lt}
use Rattle.laws.proofs.Results.{fused_from_zero, fused_from, wide_from_zero, taken-parts, taken_number, time_taken, above_zero}
use Rattle.laws.proofs.Clear.{all-put, finite_due, all_due, CurveParts, curve_whole}
use Rattle.laws.proofs.Reach.{none_in, free}
use Rattle.laws.proofs.Rows.{Scheduled, Curved, value_answered, exponential_answered, target_answered, curve_answered, cancel_answered, block_answered}
use Rattle.laws.proofs.Events.{events_attached, events_inserted}
use Rattle.laws.proofs.Queues.{empty_sound, arrived_sound, cancelled_sound, cancelled_due, held_sound, held_due}
use Rattle.laws.proofs.Apart.{arrived-apart, cancelled-apart, held-apart}
use Rattle.laws.proofs.Walks.{rendered_leaves}
use Rattle.laws.proofs.Leaves.{rest_sound, rendered_last}

-- ---- times of a block

module _ (r : AutomationRate) (c : Call) (h : is_finite c.time ≡ true) (z : is_negative c.time ≡ false) where
  pub block_taken : is_taken (infos_of r c).time ≡ true
  unfolding infos_of
  block_taken = time_taken c.time h z

  pub next_from_zero : is_finite c.period ≡ true → is_positive c.period ≡ true → is_from_zero (infos_of r c).next ≡ true
  unfolding infos_of
  next_from_zero p q = fused_from_zero binary64 (wide c.count) c.period (taken_time c.time) (wide_from_zero c.count) p q (time_taken c.time h z)

  next_ends : is_finite c.period ≡ true → is_positive c.period ≡ true → are_block_times (Some (infos_of r c).time) (Some (infos_of r c).next) ≡ true
  unfolding are_block_times is_end_of
  next_ends p q =
      and
      block_taken
      (and
      (next_from_zero p q)
      (unfold infos_of in ap not (le_not_lt _ _ (fused_from binary64 (wide c.count) c.period (taken_time c.time) (wide_from_zero c.count) p q (time_taken c.time h z)))))

-- ---- making

-- whatever is made is fresh
made_as-fresh : (v : Result Unit Refusal) (b : Bounds) (r : AutomationRate) (e : Edition) → let p = made_as v b r e in p ≡ fresh p.bounds p.rate p.edition
unfolding made_as
made_as-fresh (Ok _) b r e = refl
made_as-fresh (Err why) b r e = refl

pub made-fresh : (b : Bounds) (r : AutomationRate) (n : ℕ) → let p = made b r n in p ≡ fresh p.bounds p.rate p.edition
unfolding made
made-fresh b r n = made_as-fresh (lowest (making_rows b n)) b r (edition_of n)

no_range : are_bounds (record { min = plus_zero; default = plus_zero; max = plus_zero }) ≡ true
unfolding are_bounds all_finite is_finite Ieee.le Ieee.lt Ieee.eq
no_range = refl

made_as_bounds : (b : Bounds) (r : AutomationRate) (e : Edition) (rows : List Row) (t : Bool) → are_bounds b ≡ t
    → are_bounds (made_as (lowest (row Refusal.Bounds (not t) ∷ rows)) b r e).bounds ≡ true
unfolding lowest made_as
made_as_bounds b r e rows true h = go (lowest rows)
  where
    go : (v : Result Unit Refusal) → are_bounds (made_as v b r e).bounds ≡ true
    go (Ok _) = h
    go (Err why) = no_range
made_as_bounds b r e rows false h = no_range

pub made_sound : (b : Bounds) (r : AutomationRate) (n : ℕ) → Sound (made b r n)
unfolding made making_rows is_last_clear are_block_times all
made_sound b r n =
    subst Sound (sym (made-fresh b r n)) (record { waiting = empty_sound; due = refl; bounded = made_as_bounds b r (edition_of n) _ (are_bounds b) refl; last = refl; block = refl })

-- ---- scheduling and cancelling

zero_taken : taken_time plus_zero ≡ plus_zero
unfolding taken_time is_zero Ieee.eq
zero_taken = refl

-- what a call may let into a queue
record Fit (e : Event) (q : List Event) : Type 0 where
  clear : is_clear e ≡ true
  time : is_finite (filed_under e) ≡ true
  free : all (is_apart e) q ≡ true
  few : length q < most_events
  room : lengths_of q + length_of e ≤ store_length

-- a time that was let in
scheduled-taken : (q : List Event) (t : Float) → Scheduled q t → is_taken (taken_time t) ≡ true
scheduled-taken q t g = time_taken t g.time g.from_zero

module _ (p : Param) (store : List Float) (s : Sound p) where
  abbrev played : Bool
  played = has_played p.last_block

  -- what a call leaves of the queue, and of the parameter
  record Leaves (q : List Event) : Type 0 where
    queue : SoundQueue q
    due : are_due played q ≡ true
    apart : are_apart p.queue ≡ true → are_apart q ≡ true

  record Keeps (r : Param) : Type 0 where
    sound : Sound r
    apart : are_apart p.queue ≡ true → are_apart r.queue ≡ true

  refused_keeps : Keeps p
  refused_keeps = record { sound = s; apart = λ a. a }

  -- an event that is let in
  arrived_fit : (e : Event) → Fit e p.queue → Leaves (arrived e p.queue)
  arrived_fit e g =
      record {
        queue = arrived_sound e p.queue g.clear g.free g.few g.room s.waiting;
        due = unfold arrived in all-put (is_due played) _ e p.queue (finite_due played e g.time) s.due;
        apart = arrived-apart e p.queue g.free;
      }

  scheduled_keeps : (v : Result Unit Refusal) (e : Event) → (v ≡ Ok tt → Fit e p.queue) → Keeps (scheduled_as v p store e).param
  unfolding scheduled_as
  scheduled_keeps (Ok _) e h =
      let a = arrived_fit e (h refl) in
      record { sound = record { waiting = a.queue; due = a.due; bounded = s.bounded; last = s.last; block = s.block }; apart = a.apart }
  scheduled_keeps (Err r) e h = refused_keeps

  called_as_keeps : (v : Result Unit Refusal) (ws : List Waiting) (i : Float) → (v ≡ Ok tt → Leaves (events_of ws)) → Keeps (called_as v p store ws i).param
  unfolding called_as
  called_as_keeps (Ok _) ws i h =
      let a = h refl in
      record { sound = record { waiting = a.queue; due = a.due; bounded = s.bounded; last = s.last; block = s.block }; apart = a.apart }
  called_as_keeps (Err r) ws i h = refused_keeps

  abbrev waits : List Waiting
  waits = attached p.queue store

  waits_sound : SoundQueue (events_of waits)
  waits_sound = rw (events_attached p.queue store) s.waiting

  waits_due : are_due played (events_of waits) ≡ true
  waits_due = rw (events_attached p.queue store) s.due

  waits_apart : are_apart p.queue ≡ true → are_apart (events_of waits) ≡ true
  waits_apart a = rw (events_attached p.queue store) a

  -- an event with no numbers
  plain_fit : (e : Event) (t : Float) → is_clear e ≡ true → filed_under e ≡ taken_time t → ((u : Float) → covers u e ≡ false) → length_of e ≡ 0 → Scheduled p.queue t
      → Fit e p.queue
  plain_fit e t c is o z g =
      let r : lengths_of p.queue ≤ store_length = s.waiting.room in
      record {
        clear = c;
        time = rw is (taken-parts (taken_time t) (scheduled-taken p.queue t g)).0;
        free = free e p.queue (rw is g.outside) (none_in e o p.queue);
        few = g.few;
        room = omega arith;
      }

  step_fit : (v t : Float) → is_finite v ≡ true → Scheduled p.queue t → Fit (Event.Step v (taken_time t)) p.queue
  unfolding length_of is_clear filed_under covers
  step_fit v t n g = plain_fit (Event.Step v (taken_time t)) t (and n (taken-parts (taken_time t) (scheduled-taken p.queue t g)).1) refl (λ u. refl) refl g

  -- a ramp that is not held
  span_fit : (t : Float) → Scheduled p.queue t → is_span (taken_time t) None ≡ true
  unfolding is_span is_taken_if_any is_held_by
  span_fit t g = and (scheduled-taken p.queue t g) refl

  linear_fit : (v t : Float) → is_finite v ≡ true → Scheduled p.queue t → Fit (Event.Linear v (taken_time t) None) p.queue
  unfolding length_of is_clear filed_under hold_or covers
  linear_fit v t n g = plain_fit (Event.Linear v (taken_time t) None) t (and n (span_fit t g)) refl (λ u. refl) refl g

  exponential_fit : (v t : Float) → is_finite v ≡ true → is_zero v ≡ false → Scheduled p.queue t
      → Fit (Event.Exponential v (taken_time t) None) p.queue
  unfolding length_of is_clear filed_under hold_or covers
  exponential_fit v t n z g =
      plain_fit (Event.Exponential v (taken_time t) None) t (and n (and (ap not z) (span_fit t g))) refl (λ u. refl) refl g

  running_fit : (v t c : Float) → is_finite v ≡ true → is_period c ≡ true → Scheduled p.queue t
      → Fit (Event.Target v (taken_time t) c None) p.queue
  unfolding length_of is_clear is_taken_if_any filed_under covers
  running_fit v t c n k g =
      plain_fit (Event.Target v (taken_time t) c None) t (and n (and (scheduled-taken p.queue t g) (and k refl))) refl (λ u. refl) refl g

  target_fit : (v t c : Float) → is_finite v ≡ true → is_finite c ≡ true → is_negative c ≡ false → Scheduled p.queue t
      → Fit (target_event v (taken_time t) c) p.queue
  unfolding target_event is_period
  target_fit v t c n k l g = go (is_zero c) refl
    where
      go : (b : Bool) → is_zero c ≡ b → Fit (cond b (Event.Step v (taken_time t)) (Event.Target v (taken_time t) c None)) p.queue
      go true z = step_fit v t n g
      go false z = running_fit v t c n (unfold is_period in and k (above_zero c k l z)) g

  curve_fit : (t d : Float) (xs : List Float) → Curved p.queue store t d xs → Fit (Event.Curve (taken_time t) d (length xs) None) p.queue
  unfolding is_taken_if_any is_held_from is_held_by is_period filed_under length_of covers any_inside is_filed_inside
  curve_fit t d xs g =
      let n : is_taken (taken_time t) ≡ true = scheduled-taken p.queue t g.scheduled in
      let c : CurveParts (taken_time t) d (length xs) None =
      record { start = n; duration = and g.duration g.positive; hold = refl; from = refl; by = refl; enough = le-leb 2 (length xs) g.enough } in
      record {
        clear = curve_whole (taken_time t) d (length xs) None c;
        time = (taken-parts (taken_time t) n).0;
        free = free (Event.Curve (taken_time t) d (length xs) None) p.queue g.scheduled.outside g.crossed;
        few = g.scheduled.few;
        room = g.room;
      }

  inserted_fit : (w : Waiting) → Fit w.event p.queue → Leaves (events_of (inserted w waits))
  inserted_fit w g = rw (events_inserted w waits, events_attached p.queue store) (arrived_fit w.event g)

  called_keeps : (c : Command) → Keeps (called p store c).param
  unfolding called
  called_keeps (set v) = scheduled_keeps _ _ (λ h. let g = value_answered p.queue v plus_zero h in rw zero_taken at (step_fit v plus_zero g.0 g.1))
  called_keeps (step v t) = scheduled_keeps _ _ (λ h. let g = value_answered p.queue v t h in step_fit v t g.0 g.1)
  called_keeps (linear v t) = scheduled_keeps _ _ (λ h. let g = value_answered p.queue v t h in linear_fit v t g.0 g.1)
  called_keeps (exponential v t) =
      scheduled_keeps _ _ (λ h. let g = exponential_answered p.queue v t h in exponential_fit v t g.0 g.1 g.2)
  called_keeps (target v t c) =
      scheduled_keeps _ _ (λ h. let g = target_answered p.queue v t c h in target_fit v t c g.0 g.1 g.2 g.3)
  called_keeps (curve t d xs) =
      called_as_keeps _ _ _ (λ h. inserted_fit _ (curve_fit t d xs (curve_answered p.queue store t d xs h)))
  called_keeps (cancel c) =
      called_as_keeps _ _ _ (λ h.
      record {
        queue = cancelled_sound (taken_time c) waits waits_sound;
        due = cancelled_due played (taken_time c) waits waits_sound.ordered waits_due;
        apart = λ a. cancelled-apart (taken_time c) waits waits_sound.ordered (waits_apart a);
      })
  called_keeps (hold c) =
      called_as_keeps _ _ _
      (λ h.
      let g = cancel_answered store c h in
      let k : is_taken (taken_time c) ≡ true = time_taken c g.time g.from_zero in
      record {
        queue = held_sound (taken_time c) k waits waits_sound;
        due = held_due (taken_time c) k played waits waits_sound waits_due;
        apart = λ a. held-apart (taken_time c) k waits waits_sound (waits_apart a);
      })

  pub called_sound : (c : Command) → Sound (called p store c).param
  called_sound c = (called_keeps c).sound

  -- where none lies inside a curve, none does after a call that is no block
  pub called-apart : (c : Command) → are_apart p.queue ≡ true → are_apart (called p store c).param.queue ≡ true
  called-apart c a = (called_keeps c).apart a

  -- ---- a block

  played_as : (v : Result Unit Refusal) (c : Call) → verdict_of p store c ≡ v → Sound (answered_as v p store c).param
  unfolding answered_as answer_of verdict_of has_played
  played_as (Ok _) c e =
      let g = block_answered (ceiling_of p.edition) p.last_block store c.time c.period c.count c.input c.output e in
      let f : BlockInfos = infos_of p.rate c in
      let now : is_taken f.time ≡ true = block_taken p.rate c g.time g.from_zero in
      let later : is_from_zero f.next ≡ true = next_from_zero p.rate c g.time g.from_zero g.period_finite g.period_positive in
      record {
        waiting = rest_sound f waits _ later (rendered_leaves f p.intrinsic p.last waits) waits_sound;
        due = all_due _;
        bounded = s.bounded;
        last = rendered_last f (taken_number f.time now) p.intrinsic p.last waits waits_sound.clear s.last;
        block = next_ends p.rate c g.time g.from_zero g.period_finite g.period_positive;
      }
  played_as (Err r) c e = s

  pub answered_sound : (c : Call) → Sound (answered p store c).param
  unfolding answered
  answered_sound c = played_as (verdict_of p store c) c refl
