-- Refusals: each call's rows ascend in their ranks, so the first that applies is the lowest. Assumes nothing.
use Rattle.std.proofs.Common.{Option, None, Ok, Err}
use mathlib.Core.Path.{◌≡◌, refl, sym, ap, ◌∙◌}
use mathlib.Core.Bool.{Bool, true, false, not, ◌&&◌, ◌||◌}
use mathlib.Core.List.{List, [], ◌∷◌}
use Prim.Native.Nat.{ℕ, ◌+◌, ◌≤◌, ◌<◌}
use native.Mathlib.Omega.{arith}
use lib.Dec.{leb, ltb, eqb}
use lib.ListN.{length, get_or}
use borrow.Author.Tests.{leb-true, leb-false, ltb-true, ltb-false, eqb-true, eq-eqb, ne_eqb, not-true, not-false}
use lib.Ieee.{Float}
use Rattle.rules.specs.declared.Bounds.{Bounds}
use Rattle.rules.specs.declared.Event.{Event}
use Rattle.rules.specs.declared.Edition.{Edition}
use Rattle.rules.specs.declared.Refusal.{Refusal}
use Rattle.rules.specs.Numbers.{most_events, store_length, ceiling_of, is_finite, is_zero, is_positive, is_negative, taken_time}
use Rattle.rules.specs.Queue.{lengths_of, curve_end, any_covers, any_inside}
use Rattle.rules.specs.Refusals.{Row, row, number_of, rank_of, lowest, all_finite, is_time, is_period, is_count, fits_count, is_block, is_earlier, is_crossed, making_rows, value_rows, exponential_rows, target_rows, curve_rows, cancel_rows, block_rows}
use Rattle.laws.proofs.Tests.{never, both, neither}

-- ---- the rows ascend

unfoldable pub starts_above : ℕ → List Row → Bool
starts_above n [] = true
starts_above n (row r b ∷ rows) = ltb n (rank_of r)

unfoldable pub ascends : List Row → Bool
ascends [] = true
ascends (row r b ∷ rows) = starts_above (rank_of r) rows && ascends rows

pub making_ascends : (b : Bounds) (n : ℕ) → ascends (making_rows b n) ≡ true
unfolding ascends starts_above making_rows rank_of
making_ascends b n = refl

pub value_ascends : (q : List Event) (v t : Float) → ascends (value_rows q v t) ≡ true
unfolding ascends starts_above value_rows rank_of
value_ascends q v t = refl

pub exponential_ascends : (q : List Event) (v t : Float) → ascends (exponential_rows q v t) ≡ true
unfolding ascends starts_above exponential_rows rank_of
exponential_ascends q v t = refl

pub target_ascends : (q : List Event) (v t c : Float) → ascends (target_rows q v t c) ≡ true
unfolding ascends starts_above target_rows rank_of
target_ascends q v t c = refl

pub curve_ascends : (q : List Event) (store : List Float) (t d : Float) (xs : List Float) → ascends (curve_rows q store t d xs) ≡ true
unfolding ascends starts_above curve_rows rank_of
curve_ascends q store t d xs = refl

pub cancel_ascends : (store : List Float) (c : Float) → ascends (cancel_rows store c) ≡ true
unfolding ascends starts_above cancel_rows rank_of
cancel_ascends store c = refl

pub block_ascends : (most : ℕ) (last : Option Float) (store : List Float) (t period : Float) (count : ℕ) (input output : List Float)
    → ascends (block_rows most last store t period count input output) ≡ true
unfolding ascends starts_above block_rows rank_of
block_ascends most last store t period count input output = refl

-- ---- what is given

-- whether a row of the rank n applies
unfoldable pub applies : ℕ → List Row → Bool
applies n [] = false
applies n (row r b ∷ rows) = (b && eqb (rank_of r) n) || applies n rows

-- a refusal that is given applies
pub given_applies : (rows : List Row) (r : Refusal) → lowest rows ≡ Err r → applies (rank_of r) rows ≡ true
unfolding lowest applies
given_applies [] r h = let z : ◌≡◌ {A = ℕ} 0 1 = cc in absurd (omega arith)
given_applies (row q true ∷ rows) r h = let e : q ≡ r = cc in rw (e, eq-eqb (rank_of r) (rank_of r) refl)
given_applies (row q false ∷ rows) r h = given_applies rows r h

-- none below the first rank of rows that ascend
none_below : (rows : List Row) (n m : ℕ) → starts_above m rows ≡ true → ascends rows ≡ true → n ≤ m → applies n rows ≡ false
unfolding starts_above ascends applies
none_below [] n m h a l = refl
none_below (row r b ∷ rows) n m h a l =
    let k : m < rank_of r = ltb-true m (rank_of r) h in
    let a' = both (starts_above (rank_of r) rows) (ascends rows) a in
    rw (ne_eqb (rank_of r) n (λ e. omega arith), none_below rows n (rank_of r) a'.0 a'.1 (omega arith)) (go b)
  where
    go : (b : Bool) → (b && false || false) ≡ false
    go true = refl
    go false = refl

-- and no row of a smaller rank does: of a smaller number, but for 11's place
pub given_lowest : (rows : List Row) (r : Refusal) → ascends rows ≡ true → lowest rows ≡ Err r → (n : ℕ) → n < rank_of r → applies n rows ≡ false
unfolding lowest applies ascends
given_lowest [] r a h n l = refl
given_lowest (row q true ∷ rows) r a h n l =
    let e : q ≡ r = cc in
    let a' = both (starts_above (rank_of q) rows) (ascends rows) a in
    let k : n < rank_of q = rw e l in
    rw (ne_eqb (rank_of q) n (λ e. omega arith), none_below rows n (rank_of q) a'.0 a'.1 (omega arith))
given_lowest (row q false ∷ rows) r a h n l = given_lowest rows r (both (starts_above (rank_of q) rows) (ascends rows) a).1 h n l

-- each number is of one refusal
refusals : List Refusal
refusals =
    Refusal.Bounds ∷ Refusal.Bounds ∷ Refusal.NotFinite ∷ Refusal.BeforeZero ∷ Refusal.NotAbove ∷ Refusal.ZeroTarget ∷ Refusal.ShortCurve ∷ Refusal.QueueFull
    ∷ Refusal.StoreFull ∷ Refusal.BadBlock ∷ Refusal.OutOfOrder ∷ Refusal.Inside ∷ Refusal.UnknownEdition ∷ Refusal.Bounds ∷ Refusal.BadStore ∷ []

numbered : (r : Refusal) → get_or refusals (number_of r) Refusal.Bounds ≡ r
unfolding number_of refusals
numbered Refusal.Bounds = refl
numbered Refusal.NotFinite = refl
numbered Refusal.BeforeZero = refl
numbered Refusal.NotAbove = refl
numbered Refusal.ZeroTarget = refl
numbered Refusal.ShortCurve = refl
numbered Refusal.QueueFull = refl
numbered Refusal.StoreFull = refl
numbered Refusal.BadBlock = refl
numbered Refusal.OutOfOrder = refl
numbered Refusal.Inside = refl
numbered Refusal.UnknownEdition = refl
numbered Refusal.BadStore = refl

pub number_settles : (q r : Refusal) → number_of q ≡ number_of r → q ≡ r
number_settles q r e = sym (numbered q) ∙ ap (λ (n : ℕ). get_or refusals n Refusal.Bounds) e ∙ numbered r

-- and so is each rank: the numbers in the order in which they are given, 11 between 6 and 7
numbers_in_order : List ℕ
numbers_in_order = 0 ∷ 1 ∷ 2 ∷ 3 ∷ 4 ∷ 5 ∷ 6 ∷ 11 ∷ 7 ∷ 8 ∷ 9 ∷ 10 ∷ 12 ∷ 14 ∷ []

ranked : (r : Refusal) → get_or numbers_in_order (rank_of r) 0 ≡ number_of r
unfolding number_of rank_of numbers_in_order
ranked Refusal.Bounds = refl
ranked Refusal.NotFinite = refl
ranked Refusal.BeforeZero = refl
ranked Refusal.NotAbove = refl
ranked Refusal.ZeroTarget = refl
ranked Refusal.ShortCurve = refl
ranked Refusal.QueueFull = refl
ranked Refusal.StoreFull = refl
ranked Refusal.BadBlock = refl
ranked Refusal.OutOfOrder = refl
ranked Refusal.Inside = refl
ranked Refusal.UnknownEdition = refl
ranked Refusal.BadStore = refl

pub rank_settles : (q r : Refusal) → rank_of q ≡ rank_of r → q ≡ r
rank_settles q r e = number_settles q r (sym (ranked q) ∙ ap (λ (n : ℕ). get_or numbers_in_order n 0) e ∙ ranked r)

-- the lowest that applies is given
pub lowest_given : (rows : List Row) (r : Refusal) → ascends rows ≡ true → applies (rank_of r) rows ≡ true → ((n : ℕ) → n < rank_of r → applies n rows ≡ false)
    → lowest rows ≡ Err r
unfolding lowest applies ascends
lowest_given [] r a h least = never h
lowest_given (row q true ∷ rows) r a h least = ap Err (rank_settles q r (go (ltb (rank_of q) (rank_of r)) refl))
  where
    or_false : (b : Bool) → (b || false) ≡ true → b ≡ true
    or_false true h = refl
    or_false false h = never h

    go : (b : Bool) → ltb (rank_of q) (rank_of r) ≡ b → rank_of q ≡ rank_of r
    go true l = never (sym (least (rank_of q) (ltb-true (rank_of q) (rank_of r) l)) ∙ rw (eq-eqb (rank_of q) (rank_of q) refl))
    go false l =
        let a' = both (starts_above (rank_of q) rows) (ascends rows) a in
        let t = none_below rows (rank_of r) (rank_of q) a'.0 a'.1 (ltb-false (rank_of q) (rank_of r) l) in
        eqb-true (rank_of q) (rank_of r) (or_false (eqb (rank_of q) (rank_of r)) (rw t at h))
lowest_given (row q false ∷ rows) r a h least = lowest_given rows r (both (starts_above (rank_of q) rows) (ascends rows) a).1 h least

-- a call is answered where no row applies, and only there
pub answered_none : (rows : List Row) → lowest rows ≡ Ok tt → (n : ℕ) → applies n rows ≡ false
unfolding lowest applies
answered_none [] h n = refl
answered_none (row q true ∷ rows) h n = let z : ◌≡◌ {A = ℕ} 0 1 = cc in absurd (omega arith)
answered_none (row q false ∷ rows) h n = answered_none rows h n

pub none_answered : (rows : List Row) → ((n : ℕ) → applies n rows ≡ false) → lowest rows ≡ Ok tt
unfolding lowest applies
none_answered [] h = refl
none_answered (row q true ∷ rows) h = never (sym (h (rank_of q)) ∙ rw (eq-eqb (rank_of q) (rank_of q) refl))
none_answered (row q false ∷ rows) h = none_answered rows h

-- the first row of an answered call does not apply, nor do the others
pub passes : (r : Refusal) (b : Bool) (rows : List Row) → lowest (row r b ∷ rows) ≡ Ok tt → (b ≡ false) × (lowest rows ≡ Ok tt)
unfolding lowest
passes r true rows h = let z : ◌≡◌ {A = ℕ} 0 1 = cc in absurd (omega arith)
passes r false rows h = (refl, h)

-- ---- what an answered call was given

-- what is scheduled: at a finite time from 0 on, inside no curve, with room in the queue
pub record Scheduled (q : List Event) (t : Float) : Type 0 where
  pub time : is_finite t ≡ true
  pub from_zero : is_negative t ≡ false
  pub outside : any_covers (taken_time t) q ≡ false
  pub few : length q < most_events

pub record Curved (q : List Event) (store : List Float) (t d : Float) (xs : List Float) : Type 0 where
  pub scheduled : Scheduled q t
  pub duration : is_finite d ≡ true
  pub positive : is_positive d ≡ true
  pub numbers : all_finite xs ≡ true
  pub enough : 2 ≤ length xs
  pub crossed : any_inside (taken_time t) (curve_end (taken_time t) d None) q ≡ false
  pub room : lengths_of q + length xs ≤ store_length
  pub lent : length store ≡ store_length

pub record Cancelled (store : List Float) (c : Float) : Type 0 where
  pub time : is_finite c ≡ true
  pub from_zero : is_negative c ≡ false
  pub lent : length store ≡ store_length

pub record Played (most : ℕ) (last : Option Float) (store : List Float) (t period : Float) (count : ℕ) (input output : List Float) : Type 0 where
  pub time : is_finite t ≡ true
  pub from_zero : is_negative t ≡ false
  pub period_finite : is_finite period ≡ true
  pub period_positive : is_positive period ≡ true
  pub some : 1 ≤ count
  pub few : count ≤ most
  pub room : count ≤ length output
  pub input_fits : fits_count input count ≡ true
  pub in_order : is_earlier last t ≡ false
  pub lent : length store ≡ store_length

-- whatever the edition
pub ceiling_most : (e : Edition) → ceiling_of e ≤ 1024
unfolding ceiling_of
ceiling_most Edition.First = omega arith
ceiling_most Edition.Second = omega arith

finite_parts : (x : Float) (xs : List Float) → not (all_finite (x ∷ xs)) ≡ false → (is_finite x ≡ true) × (not (all_finite xs) ≡ false)
unfolding all_finite
finite_parts x xs h = let a = both (is_finite x) (all_finite xs) (not-false _ h) in (a.0, ap not a.1)

module _ (q : List Event) where
  full_false : leb most_events (length q) ≡ false → length q < most_events
  full_false h = leb-false most_events (length q) h

  pub value_answered : (v t : Float) → lowest (value_rows q v t) ≡ Ok tt → (is_finite v ≡ true) × Scheduled q t
  unfolding value_rows
  value_answered v t h =
      let r2 = passes _ _ _ h in
      let r3 = passes _ _ _ r2.1 in
      let r11 = passes _ _ _ r3.1 in
      let r7 = passes _ _ _ r11.1 in
      let fv = finite_parts v (t ∷ []) r2.0 in
      let ft = finite_parts t [] fv.1 in
      (fv.0, record { time = ft.0; from_zero = r3.0; outside = r11.0; few = full_false r7.0 })

  pub exponential_answered : (v t : Float) → lowest (exponential_rows q v t) ≡ Ok tt → (is_finite v ≡ true) × (is_zero v ≡ false) × Scheduled q t
  unfolding exponential_rows
  exponential_answered v t h =
      let r2 = passes _ _ _ h in
      let r3 = passes _ _ _ r2.1 in
      let r5 = passes _ _ _ r3.1 in
      let r11 = passes _ _ _ r5.1 in
      let r7 = passes _ _ _ r11.1 in
      let fv = finite_parts v (t ∷ []) r2.0 in
      let ft = finite_parts t [] fv.1 in
      (fv.0, r5.0, record { time = ft.0; from_zero = r3.0; outside = r11.0; few = full_false r7.0 })

  pub target_answered : (v t c : Float) → lowest (target_rows q v t c) ≡ Ok tt
      → (is_finite v ≡ true) × (is_finite c ≡ true) × (is_negative c ≡ false) × Scheduled q t
  unfolding target_rows
  target_answered v t c h =
      let r2 = passes _ _ _ h in
      let r3 = passes _ _ _ r2.1 in
      let r4 = passes _ _ _ r3.1 in
      let r11 = passes _ _ _ r4.1 in
      let r7 = passes _ _ _ r11.1 in
      let fv = finite_parts v (t ∷ c ∷ []) r2.0 in
      let ft = finite_parts t (c ∷ []) fv.1 in
      let fc = finite_parts c [] ft.1 in
      (fv.0, fc.0, r4.0, record { time = ft.0; from_zero = r3.0; outside = r11.0; few = full_false r7.0 })

  not_crossed : (s d : Float) → is_crossed q s d ≡ false → (any_covers s q ≡ false) × (any_inside s (curve_end s d None) q ≡ false)
  unfolding is_crossed
  not_crossed s d h = neither (any_covers s q) _ h

  pub curve_answered : (store : List Float) (t d : Float) (xs : List Float) → lowest (curve_rows q store t d xs) ≡ Ok tt → Curved q store t d xs
  unfolding curve_rows
  curve_answered store t d xs h =
      let r2 = passes _ _ _ h in
      let r3 = passes _ _ _ r2.1 in
      let r4 = passes _ _ _ r3.1 in
      let r6 = passes _ _ _ r4.1 in
      let r11 = passes _ _ _ r6.1 in
      let out = not_crossed (taken_time t) d r11.0 in
      let r7 = passes _ _ _ r11.1 in
      let r8 = passes _ _ _ r7.1 in
      let r14 = passes _ _ _ r8.1 in
      let ft = finite_parts t (d ∷ xs) r2.0 in
      let fd = finite_parts d xs ft.1 in
      record {
        scheduled = record { time = ft.0; from_zero = r3.0; outside = out.0; few = full_false r7.0 };
        duration = fd.0;
        positive = not-false _ r4.0;
        numbers = not-false _ fd.1;
        enough = ltb-false (length xs) 2 r6.0;
        crossed = out.1;
        room = ltb-false store_length (lengths_of q + length xs) r8.0;
        lent = eqb-true (length store) store_length (not-false _ r14.0);
      }

pub cancel_answered : (store : List Float) (c : Float) → lowest (cancel_rows store c) ≡ Ok tt → Cancelled store c
unfolding cancel_rows
cancel_answered store c h =
    let r2 = passes _ _ _ h in
    let r3 = passes _ _ _ r2.1 in
    let r14 = passes _ _ _ r3.1 in
    record {
      time = (finite_parts c [] r2.0).0;
      from_zero = r3.0;
      lent = eqb-true (length store) store_length (not-false _ r14.0);
    }

pub block_answered : (most : ℕ) (last : Option Float) (store : List Float) (t period : Float) (count : ℕ) (input output : List Float)
    → lowest (block_rows most last store t period count input output) ≡ Ok tt → Played most last store t period count input output
unfolding block_rows is_block is_time is_period is_count
block_answered most last store t period count input output h =
    let r9 = passes _ _ _ h in
    let r10 = passes _ _ _ r9.1 in
    let r14 = passes _ _ _ r10.1 in
    let a = both (is_finite t && not (is_negative t)) _ (not-false _ r9.0) in
    let b = both (is_finite period && is_positive period) _ a.1 in
    let c = both (leb 1 count && leb count most) _ b.1 in
    let d = both (leb count (length output)) _ c.1 in
    let at = both (is_finite t) _ a.0 in
    let ap = both (is_finite period) _ b.0 in
    let ac = both (leb 1 count) _ c.0 in
    record {
      time = at.0;
      from_zero = not-true _ at.1;
      period_finite = ap.0;
      period_positive = ap.1;
      some = leb-true 1 count ac.0;
      few = leb-true count most ac.1;
      room = leb-true count (length output) d.0;
      input_fits = d.1;
      in_order = r10.0;
      lent = eqb-true (length store) store_length (not-false _ r14.0);
    }
