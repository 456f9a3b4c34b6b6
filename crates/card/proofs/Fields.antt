-- A field's bytes: where it is whole and its length is its tag's, its numbers lie inside; what stands behind it counts for nothing. Assumes nothing.
use Rattle.std.proofs.Common.{Result, Ok, Err}
use Rattle.rules.specs.declared.Refusal.{Refusal}
use mathlib.Core.Path.{◌≡◌, refl, sym, ap, ◌∙◌}
use mathlib.Core.Bool.{Bool, true, false, cond, not, ◌&&◌}
use mathlib.Core.List.{List, ◌++◌}
use Prim.Native.Nat.{ℕ, zero, suc, ◌+◌, ◌-◌, ◌*◌, ◌/◌, ◌%◌, ◌≤◌}
use native.Mathlib.Omega.{arith}
use lib.Dec.{leb, eqb}
use lib.ListN.{length, get_or-append, length-append}
use lib.Ieee.{Float}
use borrow.Author.Tests.{leb-true, eqb-true, not-false, le-leb}
use Rattle.rules.specs.Refusals.{lowest, making_rows}
use Rattle.rules.specs.Block.{Command, step, linear, exponential, target, curve, Called, called}
use Rattle.laws.proofs.Tests.{never, both, and}
use Rattle.words.specs.Words.{single_at, double_at, singles_at}
use Rattle.words.proofs.Bytes.{word_front, single_front, double_front, singles_front}
use Rattle.card.specs.declared.Fault.TheVariants as Fault
use Rattle.card.specs.Card.{tag_of, has_head, length_in, field_length, is_whole, is_tag, is_range, fits_tag, numbers_in, bounds_in, event_in, Reader, refused_by, is_wrong, is_misplaced, time_of, ranged_as, taken_as, event_turn, contents_turn, field_turn}

pub and_false : (k : Bool) → (k && false) ≡ false
and_false true = refl
and_false false = refl

-- ---- the tags

pub data Tag : ℕ → Type 0 where
  a_step : Tag 1
  a_linear : Tag 2
  an_exponential : Tag 3
  a_target : Tag 4
  a_curve : Tag 5
  a_range : Tag 6

pub tag : (n : ℕ) → is_tag n ≡ true → Tag n
unfolding is_tag
tag zero h = never h
tag (suc zero) h = a_step
tag (suc (suc zero)) h = a_linear
tag (suc (suc (suc zero))) h = an_exponential
tag (suc (suc (suc (suc zero)))) h = a_target
tag (suc (suc (suc (suc (suc zero))))) h = a_curve
tag (suc (suc (suc (suc (suc (suc zero)))))) h = a_range
tag (suc (suc (suc (suc (suc (suc (suc n))))))) h = let many = suc (suc (suc (suc (suc (suc (suc n)))))) in absurd (omega (arith, leb-true many 6 (both (leb 1 many) (leb many 6) h).1))

-- ---- its lengths

pub least : (tag n : ℕ) → fits_tag tag n ≡ true → 12 ≤ n
unfolding fits_tag
least tag n h = go (eqb tag 4) (eqb tag 5) h
  where
    go : (a b : Bool) → cond a (eqb n 20) (cond b (leb 16 n && eqb (n % 4) 0) (eqb n 12)) ≡ true → 12 ≤ n
    go true b e = let is : n ≡ 20 = eqb-true n 20 e in omega (arith, is)
    go false true e = let is : 16 ≤ n = leb-true 16 n (both (leb 16 n) (eqb (n % 4) 0) e).0 in omega (arith, is)
    go false false e = let is : n ≡ 12 = eqb-true n 12 e in omega (arith, is)

module _ (bs : List ℕ) where
  pub whole_parts : is_whole bs ≡ true → (3 ≤ length bs) × (field_length bs ≤ length bs)
  unfolding is_whole has_head
  whole_parts h =
      let p = both (leb 3 (length bs)) (leb (field_length bs) (length bs)) h in
      (leb-true 3 (length bs) p.0, leb-true (field_length bs) (length bs) p.1)

  pub right_fits : is_whole bs ≡ true → is_wrong bs ≡ false → fits_tag (tag_of bs) (length_in bs) ≡ true
  unfolding is_whole is_wrong
  right_fits w h =
      not-false (fits_tag (tag_of bs) (length_in bs)) (sym (ap (λ (b : Bool). b && not (fits_tag (tag_of bs) (length_in bs))) (both (has_head bs) (leb (field_length bs) (length bs)) w).0) ∙ h)

  -- a field that is whole and has its tag's length
  module _ (w : is_whole bs ≡ true) (h : is_wrong bs ≡ false) where
    pub room : 15 ≤ length bs
    unfolding field_length
    room = omega (arith, least (tag_of bs) (length_in bs) (right_fits w h), (whole_parts w).1)

    pub target_room : tag_of bs ≡ 4 → 23 ≤ length bs
    unfolding field_length fits_tag
    target_room t =
        let is : length_in bs ≡ 20 = eqb-true (length_in bs) 20 (rw t at (right_fits w h)) in
        omega (arith, is, (whole_parts w).1)

    pub curve_room : tag_of bs ≡ 5 → (16 ≤ length_in bs) × (19 + 4 * numbers_in bs ≡ field_length bs)
    unfolding field_length fits_tag numbers_in
    curve_room t =
        let p = both (leb 16 (length_in bs)) (eqb (length_in bs % 4) 0) (rw t at (right_fits w h)) in
        let long : 16 ≤ length_in bs = leb-true 16 (length_in bs) p.0 in
        let even : length_in bs % 4 ≡ 0 = eqb-true (length_in bs % 4) 0 p.1 in
        (long, omega (arith, long, even))

-- ---- its events

module _ (bs : List ℕ) where
  pub step_in : tag_of bs ≡ 1 → event_in bs ≡ step (single_at bs 3) (double_at bs 7)
  unfolding event_in
  step_in t = rw t refl

  pub linear_in : tag_of bs ≡ 2 → event_in bs ≡ linear (single_at bs 3) (double_at bs 7)
  unfolding event_in
  linear_in t = rw t refl

  pub exponential_in : tag_of bs ≡ 3 → event_in bs ≡ exponential (single_at bs 3) (double_at bs 7)
  unfolding event_in
  exponential_in t = rw t refl

  pub target_in : tag_of bs ≡ 4 → event_in bs ≡ target (single_at bs 3) (double_at bs 7) (double_at bs 15)
  unfolding event_in
  target_in t = rw t refl

  pub curve_in_lem : tag_of bs ≡ 5 → event_in bs ≡ curve (double_at bs 3) (double_at bs 11) (singles_at bs 19 (numbers_in bs))
  unfolding event_in
  curve_in_lem t = rw t refl

-- ---- what stands behind it

module _ (bs cs : List ℕ) where
  tag_front : 1 ≤ length bs → tag_of (bs ++ cs) ≡ tag_of bs
  unfolding tag_of
  tag_front h = get_or-append bs cs 0 0 h

  length_front : 3 ≤ length bs → length_in (bs ++ cs) ≡ length_in bs
  unfolding length_in
  length_front h = word_front 2 bs cs 1 h

  pub field_front : 3 ≤ length bs → field_length (bs ++ cs) ≡ field_length bs
  unfolding field_length
  field_front h = ap (λ (n : ℕ). 3 + n) (length_front h)

  pub whole_front : is_whole bs ≡ true → is_whole (bs ++ cs) ≡ true
  unfolding is_whole has_head
  whole_front w =
      let p = whole_parts bs w in
      and (le-leb 3 (length (bs ++ cs)) (simp length-append (omega (arith, p.0))))
      (le-leb (field_length (bs ++ cs)) (length (bs ++ cs)) (rw (field_front p.0) (simp length-append (omega (arith, p.1)))))

  module _ (w : is_whole bs ≡ true) (h : is_wrong bs ≡ false) where
    bounds_front : bounds_in (bs ++ cs) ≡ bounds_in bs
    unfolding bounds_in
    bounds_front =
        rw (single_front bs cs 3 (omega (arith, room bs w h)), single_front bs cs 7 (omega (arith, room bs w h)), single_front bs cs 11 (omega (arith, room bs w h)))

    numbers_front : numbers_in (bs ++ cs) ≡ numbers_in bs
    unfolding numbers_in
    numbers_front = ap (λ (n : ℕ). (n - 16) / 4) (length_front (whole_parts bs w).0)

    same_tag : tag_of (bs ++ cs) ≡ tag_of bs
    same_tag = tag_front (omega (arith, (whole_parts bs w).0))

    value : single_at (bs ++ cs) 3 ≡ single_at bs 3
    value = single_front bs cs 3 (omega (arith, room bs w h))

    time : double_at (bs ++ cs) 7 ≡ double_at bs 7
    time = double_front bs cs 7 (omega (arith, room bs w h))

    event_front : {n : ℕ} → Tag n → tag_of bs ≡ n → is_range bs ≡ false → event_in (bs ++ cs) ≡ event_in bs
    unfolding is_range
    event_front a_step t e = step_in (bs ++ cs) (same_tag ∙ t) ∙ rw (value, time) (sym (step_in bs t))
    event_front a_linear t e = linear_in (bs ++ cs) (same_tag ∙ t) ∙ rw (value, time) (sym (linear_in bs t))
    event_front an_exponential t e = exponential_in (bs ++ cs) (same_tag ∙ t) ∙ rw (value, time) (sym (exponential_in bs t))
    event_front a_target t e =
        target_in (bs ++ cs) (same_tag ∙ t) ∙ rw (value, time, double_front bs cs 15 (omega (arith, target_room bs w h t))) (sym (target_in bs t))
    event_front a_curve t e =
        let long = (curve_room bs w h t).1 in
        let whole = (whole_parts bs w).1 in
        curve_in_lem (bs ++ cs) (same_tag ∙ t)
        ∙ rw (double_front bs cs 3 (omega (arith, room bs w h)), double_front bs cs 11 (omega (arith, long, whole)), numbers_front, singles_front bs cs 19 (numbers_in bs) (omega (arith, long, whole))) (sym (curve_in_lem bs t))
    event_front a_range t e = never (sym (rw t at e))

    ranged_front : (v : Result Unit Refusal) (r : Reader) → ranged_as v (bs ++ cs) r ≡ ranged_as v bs r
    unfolding ranged_as
    ranged_front (Ok _) r = rw (bounds_front, field_front (whole_parts bs w).0) refl
    ranged_front (Err why) r = refl

    taken_front : (v : Result Unit Refusal) (k : Called) (t : Float) (r : Reader) → taken_as v k t (bs ++ cs) r ≡ taken_as v k t bs r
    unfolding taken_as
    taken_front (Ok _) k t r = rw (field_front (whole_parts bs w).0) refl
    taken_front (Err why) k t r = refl

    turn_event : (c : Command) (r : Reader) → event_turn c (bs ++ cs) r ≡ event_turn c bs r
    unfolding event_turn
    turn_event c r = rw (taken_front (called r.param r.store c).verdict (called r.param r.store c) (time_of c) r) refl

    contents_front : is_tag (tag_of bs) ≡ true → (r : Reader) → contents_turn (bs ++ cs) r ≡ contents_turn bs r
    unfolding contents_turn is_range
    contents_front known r = rw (same_tag, bounds_front, ranged_front) (go (eqb (tag_of bs) 6) refl)
      where
        go : (b : Bool) → eqb (tag_of bs) 6 ≡ b
            → cond b (ranged_as (lowest (making_rows (bounds_in bs) r.edition)) bs r) (event_turn (event_in (bs ++ cs)) (bs ++ cs) r)
            ≡ cond b (ranged_as (lowest (making_rows (bounds_in bs) r.edition)) bs r) (event_turn (event_in bs) bs r)
        go true e = refl
        go false e = turn_event (event_in (bs ++ cs)) r ∙ ap (λ (c : Command). event_turn c bs r) (event_front (tag (tag_of bs) known) refl (unfold is_range in e))

  wrong_front : 3 ≤ length bs → is_wrong (bs ++ cs) ≡ is_wrong bs
  unfolding is_wrong has_head
  wrong_front long =
      rw (tag_front (omega (arith, long)), length_front long, le-leb 3 (length bs) long, le-leb 3 (length (bs ++ cs)) (simp length-append (omega (arith, long)))) refl

  -- a turn on a field that is whole looks at its own bytes alone
  pub turn_front : is_whole bs ≡ true → (r : Reader) → field_turn (bs ++ cs) r ≡ field_turn bs r
  unfolding field_turn is_misplaced is_range
  turn_front w r =
      let long = (whole_parts bs w).0 in
      rw (tag_front (omega (arith, long)), wrong_front long, whole_front w, w) (go (is_tag (tag_of bs)) (is_wrong bs) refl refl)
    where
      front : List ℕ → Bool → Bool → Reader
      front cs' a b =
          cond (not a) (refused_by Fault.UnknownTag r)
          (cond b (refused_by Fault.WrongLength r) (cond (cond (eqb (tag_of bs) 6) r.ranged (not r.ranged)) (refused_by Fault.Misplaced r) (contents_turn cs' r)))

      go : (a b : Bool) → is_tag (tag_of bs) ≡ a → is_wrong bs ≡ b → front (bs ++ cs) a b ≡ front bs a b
      go false b known right = refl
      go true true known right = refl
      go true false known right = rw (contents_front w right known r) refl
