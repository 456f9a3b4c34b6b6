-- What stands in an event's field, by its tag. Assumes nothing.
use mathlib.Core.Path.{◌≡◌, refl, ap}
use mathlib.Core.Bool.{true, false}
use mathlib.Core.List.{List}
use Prim.Native.Nat.{ℕ, ◌≤◌, ◌<◌}
use native.Mathlib.Omega.{arith}
use lib.Dec.{leb}
use borrow.Author.Tests.{leb-true, eqb-false}
use Rattle.rules.specs.Numbers.{is_zero}
use Rattle.laws.proofs.Tests.{both}
use Rattle.words.specs.Words.{double_at}
use Rattle.card.specs.Card.{tag_of, is_tag, is_range, event_in, time_of, has_no_constant}
use Rattle.card.proofs.Fields.{Tag, a_step, a_linear, an_exponential, a_target, a_curve, a_range, tag, step_in, linear_in, exponential_in, target_in, curve_in_lem}

module _ (bs : List ℕ) where
  -- an event's tag is from 1 to 5
  event_tag : is_tag (tag_of bs) ≡ true → is_range bs ≡ false → (1 ≤ tag_of bs) × (tag_of bs ≤ 5)
  unfolding is_tag is_range
  event_tag known event =
      let p = both (leb 1 (tag_of bs)) (leb (tag_of bs) 6) known in
      omega (arith, leb-true 1 (tag_of bs) p.0, leb-true (tag_of bs) 6 p.1, eqb-false (tag_of bs) 6 event)

  curve_tag : is_tag (tag_of bs) ≡ true → is_range bs ≡ false → 4 < tag_of bs → tag_of bs ≡ 5
  curve_tag known event h = omega (arith, event_tag known event)

  -- that of a target, where it is none of the others
  pub target_tag : is_tag (tag_of bs) ≡ true → is_range bs ≡ false → (tag_of bs ≡ 5 → ⊥) → (tag_of bs ≡ 1 → ⊥) → (tag_of bs ≡ 2 → ⊥) → (tag_of bs ≡ 3 → ⊥) → tag_of bs ≡ 4
  target_tag known event five one two three = omega (arith, event_tag known event)

  -- the time behind a value
  pub time_behind : is_tag (tag_of bs) ≡ true → tag_of bs ≤ 4 → time_of (event_in bs) ≡ double_at bs 7
  unfolding time_of
  time_behind known h = go (tag (tag_of bs) known) refl h
    where
      go : {n : ℕ} → Tag n → tag_of bs ≡ n → n ≤ 4 → time_of (event_in bs) ≡ double_at bs 7
      go a_step t l = ap time_of (step_in bs t)
      go a_linear t l = ap time_of (linear_in bs t)
      go an_exponential t l = ap time_of (exponential_in bs t)
      go a_target t l = ap time_of (target_in bs t)
      go a_curve t l = absurd (omega arith)
      go a_range t l = absurd (omega arith)

  -- a curve begins with its own
  pub time_first : is_tag (tag_of bs) ≡ true → is_range bs ≡ false → 4 < tag_of bs → time_of (event_in bs) ≡ double_at bs 3
  unfolding time_of
  time_first known event h = ap time_of (curve_in_lem bs (curve_tag known event h))

  pub constant_in : tag_of bs ≡ 4 → has_no_constant (event_in bs) ≡ is_zero (double_at bs 15)
  unfolding has_no_constant
  constant_in t = ap has_no_constant (target_in bs t)

  pub no_constant_in : is_tag (tag_of bs) ≡ true → is_range bs ≡ false → (tag_of bs ≡ 4 → ⊥) → has_no_constant (event_in bs) ≡ false
  unfolding is_range has_no_constant
  no_constant_in known event other = go (tag (tag_of bs) known) refl
    where
      go : {n : ℕ} → Tag n → tag_of bs ≡ n → has_no_constant (event_in bs) ≡ false
      go a_step t = ap has_no_constant (step_in bs t)
      go a_linear t = ap has_no_constant (linear_in bs t)
      go an_exponential t = ap has_no_constant (exponential_in bs t)
      go a_target t = absurd (other t)
      go a_curve t = ap has_no_constant (curve_in_lem bs t)
      go a_range t = absurd (eqb-false (tag_of bs) 6 event t)
