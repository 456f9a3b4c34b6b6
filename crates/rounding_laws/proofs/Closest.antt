-- A fraction rounded to the nearest whole number, by the test that code makes: how twice the remainder compares with the divisor. Assumes nothing.
use mathlib.Core.Path.{◌≡◌, refl, sym, ap, ◌∙◌, subst}
use Prim.Native.Nat.{ℕ, suc, ◌+◌, ◌*◌, ◌/◌, ◌%◌, ◌^◌, ◌≤◌, ◌<◌, compare, Ordering}
use native.Mathlib.Nat.{le_refl, le_trans, le_of_eq, one-mul, mul_comm, mod-eq_of_lt, mod-lt, div-div-eq-div-mul, pow-succ', pos_of_ne-zero}
use native.Mathlib.Numerals.{add-one}
use native.Mathlib.Omega.{arith}
use mathlib.Core.Bool.{not}
use lib.Dec.{T, lit<, is_le, compare_is_eq, eqb, leb→le, nleb→lt, eqb→eq, eqb_refl}
use lib.Arith.{lt_of_le-ne, mod-mul}
use lib.Pow.{pow_pos, pow-lt}
use lib.Ieee.{nearest}
use lib.Ieee.Nearest.{closest}

-- ---- what `compare` says
abbrev pub Cmp : Ordering → ℕ → ℕ → Type 0
Cmp Ordering.lt a b = a < b
Cmp Ordering.eq a b = a ≡ b
Cmp Ordering.gt a b = b < a

pub cmp : (a b : ℕ) → Cmp (compare a b) a b
cmp a b = go (compare a b) (leb→le a b) (nleb→lt a b) (eqb→eq a b) (λ (e : a ≡ b). subst (λ (x : ℕ). T (eqb a x)) e (eqb_refl a))
  where
    go : (o : Ordering) → (T (is_le o) → a ≤ b) → (T (not (is_le o)) → b < a) → (T (compare_is_eq o) → a ≡ b) → (a ≡ b → T (compare_is_eq o)) → Cmp o a b
    go Ordering.lt h k e n = lt_of_le-ne (h tt) n
    go Ordering.eq h k e n = e tt
    go Ordering.gt h k e n = k tt

no_both : (a b : ℕ) → a < b → b ≤ a → ⊥
no_both a b h k = omega arith

pub near_lt : (q t u : ℕ) → t < u → nearest q (compare t u) ≡ q
near_lt q t u h = go (compare t u) (cmp t u)
  where
    go : (o : Ordering) → Cmp o t u → nearest q o ≡ q
    go Ordering.lt k = refl
    go Ordering.eq k = absurd (no_both t u h (le_of_eq (sym k)))
    go Ordering.gt k = absurd (no_both t u h (le_trans (below u t k) (le_refl t)))
      where
        below : (x y : ℕ) → x < y → x ≤ y
        below x y g = omega arith

pub near_eq : (q t u : ℕ) → t ≡ u → nearest q (compare t u) ≡ q + q % 2
near_eq q t u h = go (compare t u) (cmp t u)
  where
    go : (o : Ordering) → Cmp o t u → nearest q o ≡ q + q % 2
    go Ordering.lt k = absurd (no_both t u k (le_of_eq (sym h)))
    go Ordering.eq k = refl
    go Ordering.gt k = absurd (no_both u t k (le_of_eq h))

pub near_gt : (q t u : ℕ) → u < t → nearest q (compare t u) ≡ suc q
near_gt q t u h = go (compare t u) (cmp t u)
  where
    below : (x y : ℕ) → x < y → x ≤ y
    below x y g = omega arith

    go : (o : Ordering) → Cmp o t u → nearest q o ≡ suc q
    go Ordering.lt k = absurd (no_both u t h (below t u k))
    go Ordering.eq k = absurd (no_both u t h (le_of_eq k))
    go Ordering.gt k = refl

-- ---- a shift of 1, as the machine has it, and of d
pub one_shl : (s : ℕ) → s < 64 → 1 * 2 ^ s % 2 ^ 64 ≡ 2 ^ s
one_shl s h = ap (λ (x : ℕ). x % 2 ^ 64) (one-mul (2 ^ s)) ∙ mod-eq_of_lt (pow-lt h)

-- ---- by the half: h is d / 2 ^ n, cut, of which the last bit is the first that is dropped
module _ (d n : ℕ) where
  abbrev H : ℕ
  H = 2 ^ n

  abbrev q : ℕ
  q = d / H / 2

  abbrev rest : ℕ
  rest = d / H % 2 * H + d % H

  halved : closest d (2 ^ suc n) ≡ nearest q (compare (rest * 2) (2 * H))
  halved =
      ap (closest d) (pow-succ' 2 n)
      ∙ ap (λ (x : ℕ). nearest x (compare (d % (2 * H) * 2) (2 * H))) (ap (λ (x : ℕ). d / x) (mul_comm 2 H) ∙ sym (div-div-eq-div-mul d H 2))
      ∙ ap (λ (x : ℕ). nearest q (compare (x * 2) (2 * H))) (mod-mul d (lit< tt) (pow_pos n))

  pub closest_below : d / H % 2 ≡ 0 → closest d (2 ^ suc n) ≡ q
  closest_below z = halved ∙ near_lt q (rest * 2) (2 * H) (let r = mod-lt d (pow_pos n) in rw z (omega arith))

  first : (d / H % 2 ≡ 0 → ⊥) → d / H % 2 ≡ 1
  first z = omega arith

  pub closest_tie : (d / H % 2 ≡ 0 → ⊥) → d % H ≡ 0 → closest d (2 ^ suc n) ≡ q + q % 2
  closest_tie z e = halved ∙ near_eq q (rest * 2) (2 * H) (let o = one-mul H in rw (first z) (omega arith))

  pub closest_above : (d / H % 2 ≡ 0 → ⊥) → (d % H ≡ 0 → ⊥) → closest d (2 ^ suc n) ≡ q + 1
  closest_above z e = halved ∙ near_gt q (rest * 2) (2 * H) (let o = one-mul H in let p = pos_of_ne-zero e in rw (first z) (omega arith)) ∙ sym (add-one q)
