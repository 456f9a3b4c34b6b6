-- Falling powers and products by parts of the table, and by the digits that matter. Assumes nothing.
use mathlib.Core.Path.{◌≡◌, refl, sym, ap, ◌∙◌}
use mathlib.Core.Bool.{cond}
use mathlib.Core.List.{List, [], ◌∷◌, ◌++◌}
use Prim.Native.Nat.{ℕ, zero, suc, ◌+◌, ◌-◌, ◌*◌, ◌/◌, ◌%◌, ◌^◌, ◌≤◌, ◌<◌}
use native.Mathlib.Nat.{add_comm}
use native.Mathlib.Omega.{arith}
use lib.Dec.{eqb}
use lib.ListN.{length, get_or, length-append}
use lib.Pow.{shr-shr, field, mod-mod-pow}
use Rattle.rules.specs.Kernels.{falling_from}
use Rattle.powers.specs.Estimates.{product_from, entries}

-- ---- the digits before those of ys are those of a / 2 ^ length ys
pub falling-append : (xs ys : List ℕ) (a r : ℕ) → falling_from (xs ++ ys) a r ≡ falling_from ys a (falling_from xs (a / 2 ^ length ys) r)
unfolding falling_from
falling-append [] ys a r = refl
falling-append (x ∷ xs) ys a r =
    let e : a / 2 ^ length (xs ++ ys) ≡ a / 2 ^ length ys / 2 ^ length xs = ap (λ (n : ℕ). a / 2 ^ n) (length-append xs ys ∙ add_comm (length xs) (length ys)) ∙ sym (shr-shr a (length ys) (length xs)) in
    rw (falling_from, e) (falling-append xs ys a (cond (eqb (a / 2 ^ length ys / 2 ^ length xs % 2) 1) (r * x / 2 ^ 32) r))

-- ---- only the last digits matter
digit : (a n k : ℕ) → k < n → a % 2 ^ n / 2 ^ k % 2 ≡ a / 2 ^ k % 2
digit a n k h =
    let e : n ≡ n - k - 1 + 1 + k = omega arith in
    ap (λ (j : ℕ). a % 2 ^ j / 2 ^ k % 2) e ∙ ap (λ (x : ℕ). x % 2) (field a (n - k - 1 + 1) k) ∙ mod-mod-pow (a / 2 ^ k) (n - k - 1) 1

module _ (a n : ℕ) where
  pub falling_last : (cs : List ℕ) (r : ℕ) → length cs ≤ n → falling_from cs (a % 2 ^ n) r ≡ falling_from cs a r
  unfolding falling_from
  falling_last [] r h = refl
  falling_last (c ∷ cs) r h = rw (digit a n (length cs) h) (falling_last cs (cond (eqb (a / 2 ^ length cs % 2) 1) (r * c / 2 ^ 32) r) (omega arith))

  pub product_last : (cs : List ℕ) → length cs ≤ n → product_from cs (a % 2 ^ n) ≡ product_from cs a
  unfolding product_from
  product_last [] h = refl
  product_last (c ∷ cs) h = rw (digit a n (length cs) h) (ap (λ (x : ℕ). cond (eqb (a / 2 ^ length cs % 2) 1) c (2 ^ 32) * x) (product_last cs (omega arith)))

-- ---- an entry
pub entry_at : (f : ℕ → ℕ) (k j i : ℕ) → i < k → get_or (entries f k j) i 0 ≡ f (j + i)
unfolding entries
entry_at f zero j i h = absurd (omega arith)
entry_at f (suc k) j zero h = let e : j + 0 ≡ j = omega arith in rw e
entry_at f (suc k) j (suc i) h = let e : suc j + i ≡ j + suc i = omega arith in entry_at f k (suc j) i (omega arith) ∙ ap f e

pub entries-length : (f : ℕ → ℕ) (k j : ℕ) → length (entries f k j) ≡ k
unfolding entries
entries-length f zero j = refl
entries-length f (suc k) j = ap suc (entries-length f k (suc j))
