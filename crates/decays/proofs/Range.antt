-- Where a falling power lies: 2 ^ 32 where no digit is set, else below, and well above 2 ^ 31. Assumes nothing.
use mathlib.Core.Path.{◌≡◌, refl, sym, ap, ◌∙◌}
use mathlib.Core.Bool.{Bool, true, false, cond, ◌&&◌, false≢true}
use mathlib.Core.List.{List, [], ◌∷◌}
use Prim.Native.Nat.{ℕ, suc, ◌+◌, ◌*◌, ◌/◌, ◌%◌, ◌^◌, ◌≤◌, ◌<◌}
use native.Mathlib.Nat.{le_refl, le_trans, mul-le-mul_left, mul-le-mul_right, mod-eq_of_lt}
use native.Mathlib.Omega.{arith}
use borrow.Author.Tests.{leb-true, eqb-false}
use lib.Dec.{leb, eqb}
use lib.ListN.{length}
use lib.Pow.{mod-pow-add}
use Rattle.rules.specs.Kernels.{parts, root_from, root, table_from, table, falling_from, falling}

-- ---- no number of the table is above its last one

small : List ℕ → Bool
small [] = true
small (c ∷ cs) = leb c 4294967117 && small cs

table_small : small table ≡ true
unfolding small table table_from root root_from
table_small = refl

both : (a b : Bool) → (a && b) ≡ true → (a ≡ true) × (b ≡ true)
both true true h = (refl, refl)
both true false h = absurd (false≢true h)
both false b h = absurd (false≢true h)

module _ (c : ℕ) (cs : List ℕ) (h : small (c ∷ cs) ≡ true) where
  first : c ≤ 4294967117
  unfolding small
  first = leb-true c 4294967117 (both (leb c 4294967117) (small cs) h).0

  rest : small cs ≡ true
  unfolding small
  rest = (both (leb c 4294967117) (small cs) h).1

-- ---- one digit

shrinks : (r c : ℕ) → c ≤ 4294967117 → r * c / 2 ^ 32 ≤ r
shrinks r c h = let l : r * c ≤ r * 4294967117 = mul-le-mul_left r h in omega arith

grows : (s r c : ℕ) → s ≤ r → s * c / 2 ^ 32 ≤ r * c / 2 ^ 32
grows s r c h = let l : s * c ≤ r * c = mul-le-mul_right c h in omega arith

clear : (a k : ℕ) → eqb (a / 2 ^ k % 2) 1 ≡ false → a % 2 ^ suc k ≡ a % 2 ^ k
clear a k h =
    let e : suc k ≡ 1 + k = omega arith in
    let n : a / 2 ^ k % 2 ≡ 1 → ⊥ = eqb-false (a / 2 ^ k % 2) 1 h in
    let z : a / 2 ^ k % 2 ≡ 0 = omega arith in
    let m : a % 2 ^ (1 + k) ≡ (a / 2 ^ k % 2 ^ 1) * 2 ^ k + a % 2 ^ k = mod-pow-add a 1 k in
    ap (λ (j : ℕ). a % 2 ^ j) e ∙ m ∙ ap (λ (j : ℕ). j * 2 ^ k + a % 2 ^ k) z ∙ omega arith

-- ---- all digits

-- what is left where each digit is set
least : List ℕ → ℕ → ℕ
least [] r = r
least (c ∷ cs) r = least cs (r * c / 2 ^ 32)

module _ (a : ℕ) where
  from_most : (cs : List ℕ) (r : ℕ) → small cs ≡ true → falling_from cs a r ≤ r
  unfolding falling_from
  from_most [] r h = le_refl r
  from_most (c ∷ cs) r h = go (eqb (a / 2 ^ length cs % 2) 1) (λ s. from_most cs s (rest c cs h))
    where
      go : (b : Bool) → ((s : ℕ) → falling_from cs a s ≤ s) → falling_from cs a (cond b (r * c / 2 ^ 32) r) ≤ r
      go true more = le_trans (more (r * c / 2 ^ 32)) (shrinks r c (first c cs h))
      go false more = more r

  from_least : (cs : List ℕ) (s r : ℕ) → s ≤ r → small cs ≡ true → least cs s ≤ falling_from cs a r
  unfolding falling_from least
  from_least [] s r l h = l
  from_least (c ∷ cs) s r l h = go (eqb (a / 2 ^ length cs % 2) 1) (λ x. from_least cs (s * c / 2 ^ 32) x)
    where
      go : (b : Bool) → ((x : ℕ) → s * c / 2 ^ 32 ≤ x → small cs ≡ true → least cs (s * c / 2 ^ 32) ≤ falling_from cs a x) → least cs (s * c / 2 ^ 32) ≤ falling_from cs a (cond b (r * c / 2 ^ 32) r)
      go true more = more (r * c / 2 ^ 32) (grows s r c l) (rest c cs h)
      go false more = more r (le_trans (shrinks s c (first c cs h)) l) (rest c cs h)

  -- the first digit that is set takes 2 ^ 32 to a number of the table
  from_set : (cs : List ℕ) → small cs ≡ true → (a % 2 ^ length cs ≡ 0 → ⊥) → falling_from cs a (2 ^ 32) ≤ 4294967117
  unfolding falling_from
  from_set [] h n = absurd (n (omega arith))
  from_set (c ∷ cs) h n = go (eqb (a / 2 ^ length cs % 2) 1) refl (from_set cs (rest c cs h))
    where
      go : (b : Bool) → eqb (a / 2 ^ length cs % 2) 1 ≡ b → ((a % 2 ^ length cs ≡ 0 → ⊥) → falling_from cs a (2 ^ 32) ≤ 4294967117) → falling_from cs a (cond b (2 ^ 32 * c / 2 ^ 32) (2 ^ 32)) ≤ 4294967117
      go true e more =
          let f = first c cs h in
          let l : 2 ^ 32 * c / 2 ^ 32 ≤ 4294967117 = omega arith in
          le_trans (from_most cs (2 ^ 32 * c / 2 ^ 32) (rest c cs h)) l
      go false e more = more (λ z. n (clear a (length cs) e ∙ z))

table-length : length table ≡ 24
unfolding table table_from
table-length = refl

table_least : least table (2 ^ 32) ≡ 2147483710
unfolding least table table_from root root_from
table_least = refl

-- ---- the falling power

pub falling_low : (a : ℕ) → 2147483668 ≤ falling a
unfolding falling
falling_low a = omega (arith, from_least a table (2 ^ 32) (2 ^ 32) (le_refl (2 ^ 32)) table_small, table_least)

pub falling_high : (a : ℕ) → falling a ≤ 2 ^ 32
unfolding falling
falling_high a = from_most a table (2 ^ 32) table_small

pub falling-set : (a : ℕ) → a < parts → (a ≡ 0 → ⊥) → falling a ≤ 4294967117
unfolding falling
falling-set a h n = from_set a table table_small (rw table-length (λ z. n (sym (mod-eq_of_lt h) ∙ z)))

pub falling_zero : falling 0 ≡ 2 ^ 32
unfolding falling falling_from table table_from root root_from
falling_zero = refl
