-- The first place at which two lists differ, found place by place; none is given exactly for equal lists. Assumes nothing.
use Rattle.std.proofs.Common.{Option, Some, None, is_some}
use mathlib.Core.Path.{◌≡◌, refl, sym, ap, ◌∙◌, subst}
use mathlib.Core.Bool.{Bool, true, false, not}
use mathlib.Core.List.{List, [], ◌∷◌}
use Prim.Native.Nat.{ℕ, suc, ◌+◌, ◌≤◌, ◌<◌}
use native.Mathlib.Numerals.{add-one}
use native.Mathlib.Omega.{arith}
use lib.Dec.{T}
use lib.ListN.{length, get_or, take, drop, drop_of_length-le}
use lib.Seq.{take-suc, take_all, drop-cons}
use lib.Ieee.{Float, nan, binary32, fits, of_bits, to_bits}
use lib.Ieee.Bits.{of_bits-to_bits}
use borrow.Author.Tests.{eq-eqb, eqb-true}
use Rattle.beside.specs.Beside.{same_value, differs_from, first_difference, Tells, FirstPlace}
use Rattle.beside.proofs.Same.{yes, no}

-- ---- single values

-- floats of the format: the same bits, the same float
pub same_one : {x y : Float} → fits binary32 x ≡ true → fits binary32 y ≡ true → same_value x y ≡ true → x ≡ y
unfolding same_value
same_one {x} {y} fx fy e = sym (back x fx) ∙ ap (of_bits binary32) (eqb-true (to_bits binary32 x) (to_bits binary32 y) e) ∙ back y fy
  where
    back : (z : Float) → fits binary32 z ≡ true → of_bits binary32 (to_bits binary32 z) ≡ z
    back z fit = of_bits-to_bits binary32 z (subst T (sym fit) tt)

-- ---- one place more

-- what the first i of two lists share, and one more
pub one_more : {A : Type 0} (d : A) (i : ℕ) (xs ys : List A) → i < length xs → i < length ys → take i xs ≡ take i ys → get_or xs i d ≡ get_or ys i d → take (i + 1) xs ≡ take (i + 1) ys
one_more {A} d i xs ys hx hy before here = rw (add-one i, take-suc xs i d hx, take-suc ys i d hy, before, here)

module _ (d : Float) (i : ℕ) (xs ys : List Float) (hx : i < length xs) (hy : i < length ys) where
  pub goes_on : same_value (get_or xs i d) (get_or ys i d) ≡ true → differs_from i (drop i xs) (drop i ys) ≡ differs_from (i + 1) (drop (i + 1) xs) (drop (i + 1) ys)
  unfolding differs_from
  goes_on e = rw (drop-cons xs i d hx, drop-cons ys i d hy, add-one i, e)

  pub differs_here : same_value (get_or xs i d) (get_or ys i d) ≡ false → differs_from i (drop i xs) (drop i ys) ≡ Some i
  unfolding differs_from
  differs_here e = rw (drop-cons xs i d hx, drop-cons ys i d hy, e)

-- ---- the end of one list, or of both

pub both_end : (i : ℕ) (xs ys : List Float) → length xs ≤ i → length ys ≤ i → differs_from i (drop i xs) (drop i ys) ≡ None
unfolding differs_from
both_end i xs ys hx hy = rw (drop_of_length-le xs hx, drop_of_length-le ys hy)

pub first_ends : (i : ℕ) (xs ys : List Float) → length xs ≤ i → i < length ys → differs_from i (drop i xs) (drop i ys) ≡ Some i
unfolding differs_from
first_ends i xs ys hx hy = rw (drop_of_length-le xs hx, drop-cons ys i nan hy)

pub second_ends : (i : ℕ) (xs ys : List Float) → i < length xs → length ys ≤ i → differs_from i (drop i xs) (drop i ys) ≡ Some i
unfolding differs_from
second_ends i xs ys hx hy = rw (drop_of_length-le ys hy, drop-cons xs i nan hx)

-- ---- none exactly for equal lists

differs_nowhere : (n : ℕ) (xs : List Float) → differs_from n xs xs ≡ None
unfolding differs_from same_value
differs_nowhere n [] = refl
differs_nowhere n (x ∷ xs) = rw (eq-eqb (to_bits binary32 x) (to_bits binary32 x) refl) (differs_nowhere (suc n) xs)

pub none_for_equal : {xs ys : List Float} → xs ≡ ys → first_difference xs ys ≡ None
none_for_equal {xs} e = rw (sym e) (differs_nowhere 0 xs)

pub all_shared : {A : Type 0} (i : ℕ) (xs ys : List A) → length xs ≤ i → length ys ≤ i → take i xs ≡ take i ys → xs ≡ ys
all_shared i xs ys hx hy e = sym (take_all i xs hx) ∙ e ∙ take_all i ys hy

-- ---- what the code ensures

module _ {xs ys : List Float} where
  pub a_place : {i : ℕ} → first_difference xs ys ≡ Some i → FirstPlace xs ys (Some i)
  a_place e = record { is = sym e; none = λ n. let z : ◌≡◌ {A = ℕ} 0 1 = cc in absurd (omega arith) }

  pub no_place : first_difference xs ys ≡ None → xs ≡ ys → FirstPlace xs ys None
  no_place e same = record { is = sym e; none = λ n. same }

  -- so none is given exactly for equal lists
  pub none_exactly : (r : Option ℕ) (b : Bool) → FirstPlace xs ys r → is_some r ≡ not b → Tells (xs ≡ ys) b
  none_exactly None true p e = yes (p.none refl)
  none_exactly None false p e = let z : ◌≡◌ {A = ℕ} 0 1 = cc in absurd (omega arith)
  none_exactly (Some i) true p e = let z : ◌≡◌ {A = ℕ} 0 1 = cc in absurd (omega arith)
  none_exactly (Some i) false p e = no (λ same. let n : first_difference xs ys ≡ None = none_for_equal same in let f = p.is in let z : ◌≡◌ {A = ℕ} 0 1 = cc in omega arith)

  -- the same of a place that is known
  pub none_exactly_not : {r : Option ℕ} {i : ℕ} → FirstPlace xs ys r → r ≡ Some i → Tells (xs ≡ ys) false
  none_exactly_not {r} p e = none_exactly r false p (ap is_some e)
