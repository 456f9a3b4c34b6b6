-- What a look sees of each thing that a body of the rules does to a walk. Assumes nothing.
use Rattle.std.proofs.Common.{Option, Some, None}
use mathlib.Core.Path.{◌≡◌, refl, sym, ap, ◌∙◌}
use mathlib.Core.Bool.{Bool, true, false, cond, ◌&&◌}
use mathlib.Core.List.{List, [], ◌∷◌, ◌++◌}
use Prim.Native.Nat.{ℕ, zero, suc, ◌+◌, ◌-◌, ◌≤◌, ◌<◌}
use native.Mathlib.Numerals.{add-one}
use native.Mathlib.Omega.{arith}
use lib.Dec.{leb, ltb}
use lib.ListN.{length, get_or, length-append, get_or-append, get_or-eq_default}
use lib.Seq.{get_or-append-add}
use borrow.Author.Tests.{ltb-false, leb-true, leb-false, le-leb}
use lib.Ieee as Ieee
use lib.Ieee.{Float, binary64}
use Rattle.rules.specs.declared.AutomationRate.{AutomationRate}
use Rattle.rules.specs.declared.AutomationRate.TheVariants as Rate
use Rattle.rules.specs.declared.BlockInfos.{BlockInfos}
use Rattle.rules.specs.declared.Event.{Event}
use Rattle.rules.specs.Numbers.{plus_zero, is_zero, is_subnormal, end_place, run, time_at, filled}
use Rattle.rules.specs.Samples.{is_ratio, ratio_of, last_number}
use Rattle.rules.specs.Queue.{Waiting, hold_or, filed_under}
use Rattle.rules.specs.Walk.{Walk, stop, on, fill, with_values, with_intrinsic, with_last, with_turned, counted, consumed, flushed, flushed_for, last_or, start_of, step_time, step_from, step_turn, span_turn, linear_turn, exponential_turn, end_by_next, end_by_hold, snaps, target_left, target_run, target_turn, curve_turn}
use Rattle.laws.proofs.Places.{run_length, fill_a, fill_k, flushed_for-length}
use Rattle.timeline.specs.Heads.{waiting_as}
use Rattle.plain.specs.declared.Look.{Look}
use Rattle.plain.specs.declared.Turn.{Turn}
use Rattle.plain.specs.Seen.{filled_of, seen, seen_turn, sample_from, sample_of, sample_seen, time_after, ran, begun_turn, counted_as, started_as}

-- ---- one value of many

-- behind the first list
behind_at : (xs ys : List Float) (n : ℕ) → length xs ≤ n → get_or (xs ++ ys) n plus_zero ≡ get_or ys (n - length xs) plus_zero
behind_at xs ys n h =
    let z : n ≡ length xs + (n - length xs) = omega arith in
    ap (λ (k : ℕ). get_or (xs ++ ys) k plus_zero) z ∙ get_or-append-add xs ys (n - length xs) plus_zero

-- a sample of a run is the one at its own time
run_at : (sample : Float → Float) (period : Float) (k : ℕ) (t : Float) (i : ℕ) → i < k → get_or (run sample period k t) i plus_zero ≡ sample (time_after period i t)
unfolding run time_after
run_at sample period zero t i h = absurd (omega arith)
run_at sample period (suc k) t zero h = refl
run_at sample period (suc k) t (suc i) h = run_at sample period k (Ieee.add binary64 t period) i (omega arith)

-- ---- a fill

module _ (f : BlockInfos) (to : ℕ) (sample : Float → Float) (w : Walk) (n : ℕ) where
  abbrev before : List Float
  before = w.values

  abbrev after : List Float
  after = filled f to sample before

  abbrev k : ℕ
  k = filled_of f.rate f.count (length before)

  -- what is seen of the walk, with other numbers for the places filled and the value found
  abbrev with : ℕ → Float → Look
  with m v = record { infos = f; place = n; found = v; filled = m; intrinsic = w.intrinsic; last = w.last; steps = w.steps }

  fill_none : f.rate ≡ Rate.K → seen f n (fill f to sample w) ≡ seen f n w
  unfolding seen fill with_values
  fill_none r = rw (fill_k f to sample before r)

  module _ (r : f.rate ≡ Rate.A) where
    abbrev behind : List Float
    behind = run sample f.dt (to - length before) (time_at f (length before))

    is : after ≡ before ++ behind
    is = fill_a f to sample before r

    many : length after ≡ length before + (to - length before)
    many = ap length is ∙ length-append before behind ∙ ap (λ (m : ℕ). length before + m) (run_length sample f.dt (to - length before) (time_at f (length before)))

    so_far : k ≡ length before
    unfolding filled_of
    so_far = rw r

    seen-filled : {m : ℕ} {v : Float} → length after ≡ m → get_or after n plus_zero ≡ v → seen f n (fill f to sample w) ≡ with m v
    unfolding seen fill with_values filled_of
    seen-filled l g = rw (l, g, r)

    -- the place is none of those that are filled now
    not_among : (length before ≤ n → to ≤ n) → get_or after n plus_zero ≡ get_or before n plus_zero
    not_among o = ap (λ (l : List Float). get_or l n plus_zero) is ∙ go (leb (length before) n) refl
      where
        go : (b : Bool) → leb (length before) n ≡ b → get_or (before ++ behind) n plus_zero ≡ get_or before n plus_zero
        go false h = get_or-append before behind plus_zero n (leb-false (length before) n h)
        go true h =
            let m : length before ≤ n = leb-true (length before) n h in
            behind_at before behind n m
            ∙ get_or-eq_default behind plus_zero (omega (arith, o m, run_length sample f.dt (to - length before) (time_at f (length before))))
            ∙ sym (get_or-eq_default before plus_zero m)

    passed : to ≤ length before → seen f n (fill f to sample w) ≡ seen f n w
    unfolding seen
    passed h =
        let all : length after ≡ length before = many ∙ omega arith in
        seen-filled all (not_among (λ m. omega arith)) ∙ rw so_far

  -- all are filled up to there
  pub fill_passed : to ≤ f.count → to ≤ k → seen f n (fill f to sample w) ≡ seen f n w
  fill_passed few h = go f.rate refl
    where
      go : (r : AutomationRate) → f.rate ≡ r → seen f n (fill f to sample w) ≡ seen f n w
      go Rate.A r = passed r (omega (arith, so_far r))
      go Rate.K r = fill_none r

  -- they are not: then the rate is A
  module _ (few : to ≤ f.count) (h : k < to) where
    at_a : f.rate ≡ Rate.A
    at_a = go f.rate refl
      where
        go : (r : AutomationRate) → f.rate ≡ r → r ≡ Rate.A
        go Rate.A r = refl
        go Rate.K r = let z : k ≡ f.count = unfold filled_of in rw r in absurd (omega arith)

    filled_to : length after ≡ to
    filled_to = many at_a ∙ omega (arith, so_far at_a)

    pub fill_other : (leb k n && ltb n to) ≡ false → seen f n (fill f to sample w) ≡ with to (get_or before n plus_zero)
    fill_other o = seen-filled at_a filled_to (not_among at_a (λ m. ltb-false n to (rw (le-leb k n (omega (arith, so_far at_a))) at o)))

    pub fill-found : k ≤ n → n < to → seen f n (fill f to sample w) ≡ with to (sample (time_after f.dt (n - k) (time_at f k)))
    fill-found a b =
        rw (so_far at_a)
        (seen-filled at_a filled_to
        (ap (λ (l : List Float). get_or l n plus_zero) (is at_a) ∙ behind_at before (behind at_a) n (omega (arith, so_far at_a))
        ∙ run_at sample f.dt (to - length before) (time_at f (length before)) (n - length before) (omega (arith, so_far at_a))))

-- ---- a flush

flushed_at : (xs : List Float) (n : ℕ) → get_or (flushed xs) n plus_zero ≡ cond (is_subnormal (get_or xs n plus_zero)) plus_zero (get_or xs n plus_zero)
unfolding flushed is_subnormal
flushed_at [] n = refl
flushed_at (x ∷ xs) zero = refl
flushed_at (x ∷ xs) (suc n) = flushed_at xs n

module _ (f : BlockInfos) (target : Float) (w : Walk) (n : ℕ) where
  abbrev value : Float
  value = get_or w.values n plus_zero

  abbrev flushes : Walk
  flushes = with_values (flushed_for target w.values) w

  abbrev found_as : Float → Look
  found_as v =
      record { infos = f; place = n; found = v; filled = filled_of f.rate f.count (length w.values); intrinsic = w.intrinsic; last = w.last; steps = w.steps }

  seen-flushed : {v : Float} → get_or (flushed_for target w.values) n plus_zero ≡ v → seen f n flushes ≡ found_as v
  unfolding seen with_values
  seen-flushed e = rw (e, flushed_for-length target w.values)

  -- the target is 0, and the value subnormal
  pub flush_found : is_zero target ≡ true → is_subnormal value ≡ true → seen f n flushes ≡ found_as plus_zero
  unfolding flushed_for
  flush_found z s = seen-flushed (rw z (flushed_at w.values n ∙ rw s))

  -- one of both is not
  pub flush_none : is_zero target ≡ false → seen f n flushes ≡ seen f n w
  unfolding flushed_for seen
  flush_none z = seen-flushed (rw z)

  pub flush_other : is_zero target ≡ true → is_subnormal value ≡ false → seen f n flushes ≡ seen f n w
  unfolding flushed_for seen
  flush_other z s = seen-flushed (rw z (flushed_at w.values n ∙ rw s))

-- ---- what a look has of a walk

module _ (f : BlockInfos) (n : ℕ) (w : Walk) {look : Look} (e : look ≡ seen f n w) where
  pub infos_is : look.infos ≡ f
  unfolding seen
  infos_is = ap (λ (l : Look). l.infos) e

  pub place_is : look.place ≡ n
  unfolding seen
  place_is = ap (λ (l : Look). l.place) e

  -- the last event, or the one that is made
  pub starts : last_or look.infos look.intrinsic look.last ≡ start_of f w
  unfolding seen start_of
  starts = ap (λ (l : Look). last_or l.infos l.intrinsic l.last) e

  pub counted_is : counted_as look ≡ seen f n (counted w)
  unfolding seen counted
  counted_is = rw (e, add-one)

  pub started_is : started_as look ≡ seen f n (with_last (start_of f w) w)
  unfolding seen with_last
  started_is = rw (starts, e)

  pub sample_is : (x : Event) (xs : List Float) (t : Float) → sample_seen x xs look t ≡ sample_of x xs f w t
  unfolding seen start_of
  sample_is x xs t = ap (λ (l : Look). sample_seen x xs l t) e

-- ---- a head, filled: it stops, or is consumed

abbrev pub with_intrinsic_as : Float → Look → Look
with_intrinsic_as v l =
    record { infos = l.infos; place = l.place; found = l.found; filled = l.filled; intrinsic = v; last = l.last; steps = l.steps }

abbrev pub found_zero : Look → Look
found_zero l =
    record { infos = l.infos; place = l.place; found = plus_zero; filled = l.filled; intrinsic = l.intrinsic; last = l.last; steps = l.steps }

abbrev pub consumed_as : Float → Float → Look → Look
consumed_as t v l =
    record {
      infos = l.infos;
      place = l.place;
      found = l.found;
      filled = l.filled;
      intrinsic = v;
      last = Some (record { time = t; value = v });
      steps = l.steps;
    }

module _ (f : BlockInfos) (n : ℕ) (w : Walk) (x : Waiting) (end : Float) (v : Float) (sample : Float → Float) {r : Look} (e : r ≡ seen f n (fill f (end_place f end) sample w)) where
  pub run_stops : {b : Bool} → b ≡ true → {i : Float} → i ≡ sample f.next → Turn.Stop (with_intrinsic_as i r) x.event ≡ seen_turn f n (ran f w x end b v sample)
  unfolding ran seen_turn seen with_intrinsic
  run_stops g h = rw (g, h, e)

  pub run_goes : {b : Bool} → b ≡ false → Turn.On (consumed_as end v r) ≡ seen_turn f n (ran f w x end b v sample)
  unfolding ran seen_turn seen consumed
  run_goes g = rw (g, e)

-- ---- which turn of the rules that is

module _ (f : BlockInfos) (n : ℕ) (w : Walk) (xs : List Float) where
  pub step_is : (v t : Float) → seen_turn f n (ran f w (waiting_as (Event.Step v t) xs) (step_time f t) (Ieee.lt f.next (step_time f t)) v (sample_of (Event.Step v t) xs f w)) ≡ seen_turn f n (step_turn f w v t)
  unfolding ran step_turn step_from sample_from
  step_is v t = go (Ieee.lt f.next (step_time f t)) (fill f (end_place f (step_time f t)) (λ s. w.intrinsic) w) (unfold fill with_values in refl)
    where
      go : (b : Bool) (rest : Walk) → rest.intrinsic ≡ w.intrinsic
          → seen_turn f n (cond b (stop (with_intrinsic w.intrinsic rest) (waiting_as (Event.Step v t) xs)) (on (consumed (step_time f t) v rest)))
          ≡ seen_turn f n (cond b (stop rest (waiting_as (Event.Step v t) [])) (on (consumed (step_time f t) v rest)))
      go true rest e = unfold seen_turn seen with_intrinsic in rw (← e)
      go false rest e = refl

  module _ (v t : Float) (h : Option Float) where
    abbrev begun : Walk
    begun = with_last (start_of f w) w

    pub linear_is : let x = waiting_as (Event.Linear v t h) xs in span_turn f begun x t v h (sample_of (Event.Linear v t h) xs f begun) ≡ linear_turn f w x v t h
    unfolding linear_turn sample_from start_of last_or with_last
    linear_is = refl

    pub exponential_is : is_ratio (ratio_of (start_of f w) v) ≡ true
        → let x = waiting_as (Event.Exponential v t h) xs in span_turn f begun x t v h (sample_of (Event.Exponential v t h) xs f begun) ≡ exponential_turn f w x v t h
    unfolding exponential_turn sample_from start_of last_or with_last
    exponential_is r = rw r

    pub exponential_turns : is_ratio (ratio_of (start_of f w) v) ≡ false
        → step_turn f (counted (with_turned begun)) v (hold_or h t) ≡ exponential_turn f w (waiting_as (Event.Exponential v t h) xs) v t h
    unfolding exponential_turn
    exponential_turns r = rw r

    pub target_is : (c : Float) (m : Option Event)
        → let x = waiting_as (Event.Target v t c h) xs in
        begun_turn f begun x v (end_by_hold f h (end_by_next f t m)) (sample_of (Event.Target v t c h) xs f begun) ≡ target_turn f w x v t c h m
    unfolding begun_turn target_turn sample_from filed_under start_of last_or with_last
    target_is c m = refl

  module _ (s d : Float) (k : ℕ) (h : Option Float) where
    abbrev head : Waiting
    head = waiting_as (Event.Curve s d k h) xs

    pub curve_waits : Ieee.lt f.next s ≡ true → {r : Look} → r ≡ seen f n w → Turn.Stop r (Event.Curve s d k h) ≡ seen_turn f n (curve_turn f w head s d h)
    unfolding curve_turn seen_turn
    curve_waits g e = rw (g, e)

    pub curve_is : Ieee.lt f.next s ≡ false → span_turn f w head (Ieee.add binary64 s d) (last_number xs) h (sample_of (Event.Curve s d k h) xs f w) ≡ curve_turn f w head s d h
    unfolding curve_turn sample_from
    curve_is g = rw g

-- a target that has its last event
module _ (f : BlockInfos) (n : ℕ) (w : Walk) (x : Waiting) (target : Float) (sample : Float → Float) where
  pub target_waits : (end : Option Float) → Ieee.lt f.next (filed_under x.event) ≡ true → {r : Look} → r ≡ seen f n w
      → Turn.Stop r x.event ≡ seen_turn f n (begun_turn f w x target end sample)
  unfolding begun_turn seen_turn
  target_waits end g e = rw (g, e)

  module _ (g : Ieee.lt f.next (filed_under x.event) ≡ false) where
    pub target_ends : {m : Option Float} {end : Float} → m ≡ Some end → ran f w x end false (sample end) sample ≡ begun_turn f w x target m sample
    unfolding begun_turn target_run ran
    target_ends is = rw (g, is)

    pub target_stays : {m : Option Float} → m ≡ None → snaps target (sample f.next) ≡ false → (v : Float) → ran f w x f.next true v sample ≡ begun_turn f w x target m sample
    unfolding begun_turn target_run target_left ran
    target_stays is s v = rw (g, is, s)

    pub target_snaps : {m : Option Float} → m ≡ None → snaps target (sample f.next) ≡ true → {r : Look}
        → r ≡ seen f n (with_values (flushed_for target (fill f (end_place f f.next) sample w).values) (fill f (end_place f f.next) sample w))
        → Turn.Stop (with_intrinsic_as target r) (Event.Step target f.next) ≡ seen_turn f n (begun_turn f w x target m sample)
    unfolding begun_turn target_run target_left seen_turn seen with_intrinsic
    target_snaps is s e = rw (g, is, s, e)
