-- `phases::sum_once` meets its contract: the sum is exact (`proofs/Once.antt`). Assumes nothing.
use mathlib.Core.Path.{◌≡◌, refl, sym, ap, subst}
use mathlib.Core.Logic.{◌⊎◌, inl, inr}
use mathlib.Core.Bool.{not}
use Prim.Native.Nat.{ℕ, ◌+◌, ◌-◌, ◌*◌, ◌/◌, ◌%◌, ◌^◌, ◌≤◌, ◌<◌}
use native.Mathlib.Nat.{le_trans, le_of_eq}
use native.Mathlib.Omega.{arith}
use lib.Dec.{T}
use lib.Ieee.{Float, binary32, binary64, add, mul, of_bits, to_bits, fits, is_nan, nan_bits}
use lib.Ieee.Fits.{add-fits, fits_widens}
use lib.Ieee.Bits.{to_bits-lt, of_bits-to_bits}
use lib.Ieee.Scale.{finite}
use Rattle.rules.specs.Numbers.{fused}
use Rattle.phases.specs.Once.{Once, Served}
use Rattle.rounding_laws.proofs.Cut.{even_nan, nan_below, cast_ok}
use Rattle.rounding_laws.proofs.Fuse.{fused_fits}
use Rattle.rounding_laws.proofs.Wide.{Parts, parts_of_lem, mul_no_nan, add_no_nan, pattern_finite}
use Rattle.rounding_laws.proofs.Exact.{field, field_grid, zero_value, short_parts, zero_parts}
use Rattle.phases.proofs.Once.{field_bound, InRange, once_law}
use Rattle.phases.proofs.sum_once.Goals as goal
use Rattle.phases.proofs.sum_once.Goals.{Start}

-- the sum's pattern, rounded
abbrev cut : ℕ → ℕ
cut b = b + 268435455 + b / 2 ^ 29 % 2 - (b + 268435455 + b / 2 ^ 29 % 2) % 2 ^ 29

abbrev whole_sum : Start → Float
whole_sum a = add binary64 (mul binary64 a.args.a a.args.y) a.args.c

abbrev n_of : Start → ℕ
n_of a = to_bits binary64 (whole_sum a)

below : (a : Start) → n_of a < 2 ^ 64
below a = to_bits-lt binary64 (whole_sum a) (add-fits binary64 (mul binary64 a.args.a a.args.y) a.args.c)

in_fits : (n : ℕ) → n < 2 ^ 64 → InRange n → n + 268435456 < 2 ^ 64
in_fits n h (inl z) = omega arith
in_fits n h (inr r) = omega arith

in_nan : (n : ℕ) → n < 2 ^ 64 → InRange n → T (not (nan_bits binary64 (cut n)))
in_nan n h (inl z) = nan_below (cut n) (go n (n / 2 ^ 29 % 2) z (omega arith))
  where
    go : (n p : ℕ) → n % 2 ^ 63 ≡ 0 → p < 2 → (n + 268435455 + p - (n + 268435455 + p) % 2 ^ 29) % 2 ^ 63 ≤ 2047 * 2 ^ 52
    go n p z l = omega arith
in_nan n h (inr r) = even_nan n h r.0 r.1

first_le : (e h g x v bf fy : ℕ) → e ≡ h - 875 → 950 ≤ h → h + 1017 ≤ g + bf → g ≤ x + 897 → bf ≤ fy → fy ≤ v + 897 → e + 874 ≤ x + v + 776
first_le e h g x v bf fy p q r s t u = omega arith

second_le : (e h fc z : ℕ) → e ≡ h - 875 → 950 ≤ h → h ≤ fc + 29 → fc ≤ z + 897 → e + 874 ≤ z + 925
second_le e h fc z p q r s = omega arith

bound_le : (h f : ℕ) → 950 ≤ h → f + 2 ≤ h → f ≤ h - 875 + 873
bound_le h f p q = omega arith

module _ (a : Start) where
  abbrev s : Served a.args.a a.args.c a.args.y
  s = a.requires.served

  abbrev o : Once a.args.a a.args.c s.bx
  o = s.once

  abbrev fit : T (fits binary32 a.args.y)
  fit = s.fit

  fine : T (finite a.args.y)
  fine = subst (λ (v : Float). T (finite v)) (of_bits-to_bits binary64 a.args.y (fits_widens a.args.y fit)) (pattern_finite (to_bits binary64 a.args.y) (less (to_bits binary64 a.args.y) s.upto))
    where
      less : (n : ℕ) → n ≤ 1023 * 2 ^ 52 → n % 2 ^ 63 < 2047 * 2 ^ 52
      less n h = omega arith

  up : field a.args.y ≤ 150 + 873
  up = less (to_bits binary64 a.args.y) s.upto
    where
      less : (n : ℕ) → n ≤ 1023 * 2 ^ 52 → n % 2 ^ 63 / 2 ^ 52 ≤ 1023
      less n h = omega arith

  sum_no_nan : T (not (is_nan (whole_sum a)))
  sum_no_nan = add_no_nan binary64 (mul binary64 a.args.a a.args.y) a.args.c (mul_no_nan binary64 a.args.a a.args.y a.requires.t.2 fine) a.requires.t.3

  both : InRange (n_of a) × (of_bits binary64 (cut (n_of a)) ≡ fused binary32 a.args.a a.args.y a.args.c)
  both =
      let h = o.high in
      let X = take o.few in
      let Y = parts_of_lem a.args.y fit fine in
      let Z = parts_of_lem a.args.c a.requires.t.1 a.requires.t.3 in
      once_law a.args.a a.args.y a.args.c X.0 Y Z (h - 875)
      (field_bound a.args.a a.requires.t.0 a.requires.t.2 X.0 (h - 875) (bound_le h (field a.args.a) o.least o.over))
      (field_bound a.args.y fit fine Y 150 up)
      (field_bound a.args.c a.requires.t.1 a.requires.t.3 Z (h - 875) (bound_le h (field a.args.c) o.least o.over_c))
      (first_le (h - 875) h o.grid X.0.j Y.j (s.bx / 2 ^ 52) (field a.args.y) refl o.least o.room X.1 s.from (field_grid a.args.y fit fine Y))
      (pick Z o.third) (from h o.least) (to h o.most)
    where
      less : (f h : ℕ) → f + 2 ≤ h → h ≤ 1147 → f < 1150
      less f h p q = omega arith

      take : ((to_bits binary64 a.args.a % 2 ^ 63 ≡ 0) × (o.grid ≤ 1196)) ⊎ ((897 ≤ field a.args.a) × ((o.grid ≡ field a.args.a) ⊎ ((o.grid ≡ field a.args.a + 16) × (to_bits binary64 a.args.a % 2 ^ 45 ≡ 0)))) → (P : Parts a.args.a) × (o.grid ≤ P.j + 897)
      take (inl w) = let P = zero_parts a.args.a a.requires.t.0 a.requires.t.2 w.0 in (P.0, le_trans w.1 (le_of_eq (sym (ap (λ (y : ℕ). y + 897) P.1))))
      take (inr (l, inl e)) = let P = parts_of_lem a.args.a a.requires.t.0 a.requires.t.2 in (P, le_trans (le_of_eq e) (field_grid a.args.a a.requires.t.0 a.requires.t.2 P))
      take (inr (l, inr w)) =
          let P = short_parts a.args.a (fits_widens a.args.a a.requires.t.0) w.1 l (less (field a.args.a) o.high o.over o.most) in
          (P.0, le_trans (le_of_eq w.0) P.1)

      from : (h : ℕ) → 950 ≤ h → 75 ≤ h - 875
      from h p = omega arith

      to : (h : ℕ) → h ≤ 1147 → h - 875 ≤ 272
      to h p = omega arith

      pick : (Z : Parts a.args.c) → (to_bits binary64 a.args.c % 2 ^ 63 ≡ 0) ⊎ (o.high ≤ field a.args.c + 29) → (Z.m * 2 ^ Z.j ≡ 0) ⊎ (o.high - 875 + 874 ≤ Z.j + 925)
      pick Z (inl z) = inl (zero_value a.args.c a.requires.t.1 z Z)
      pick Z (inr z) = inr (second_le (o.high - 875) o.high (field a.args.c) Z.j refl o.least z (field_grid a.args.c a.requires.t.1 a.requires.t.3 Z))

pub float_to_bits-n : goal.float_to_bits-n
float_to_bits-n c = sum_no_nan c

pub overflow_add-r : goal.overflow_add-r
overflow_add-r c = omega (arith, in_fits (n_of c) (below c) (both c).0)

pub overflow_add-r-2 : goal.overflow_add-r-2
overflow_add-r-2 c = omega (arith, in_fits (n_of c) (below c) (both c).0)

pub float_from_bits-result : goal.float_from_bits-result
float_from_bits-result c = in_nan (n_of c) (below c) (both c).0

pub float_to_float-result : goal.float_to_float-result
float_to_float-result c =
    let s = (goal.at.float_to_float-result c).Start in
    cast_ok (cut (n_of s)) (fused binary32 c.args.a c.args.y c.args.c) (both s).1 (fused_fits binary32 c.args.a c.args.y c.args.c) (in_nan (n_of s) (below s) (both s).0)

pub returns : goal.returns
returns c = (both (goal.at.returns c).Start).1
