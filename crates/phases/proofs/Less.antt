-- a - b of two whole numbers, which may be below 0. Assumes nothing.
use mathlib.Core.Path.{◌≡◌, refl, sym, ap, ◌∙◌}
use mathlib.Core.Bool.{Bool, true, false}
use Prim.Native.Nat.{ℕ, suc, ◌+◌, ◌-◌, ◌*◌, ◌^◌, ◌≤◌, ◌<◌}
use native.Mathlib.Nat.{mul_assoc, mul-one}
use native.Mathlib.Omega.{arith}
use borrow.Author.Tests.{ltb-true, ltb-false, lt-ltb, le-ltb}
use lib.Dec.{ltb}
use lib.IntN.{pos, negsuc, sub_ℕ, ◌+ℤ◌, ◌*ℤ◌}
use lib.Signed.{mag}
use lib.Pow.{pow-add}
use lib.Ieee.{up, down}
use Rattle.rules.specs.Kernels.{parts}

pub neg_sub : (a b : ℕ) → a < b → sub_ℕ a b ≡ negsuc (b - suc a)
neg_sub a b h = rw (lt-ltb a b h)

pub pos_sub : (a b : ℕ) → b ≤ a → sub_ℕ a b ≡ pos (a - b)
pos_sub a b h = rw (le-ltb a b h)

pub sub_mag : (a b n : ℕ) → a < n → b ≤ n → mag (sub_ℕ a b) < n
sub_mag a b n h k = go (ltb a b) refl
  where
    go : (x : Bool) → ltb a b ≡ x → mag (sub_ℕ a b) < n
    go true t = let l : a < b = ltb-true a b t in rw (neg_sub a b l) (omega arith)
    go false t = let l : b ≤ a = ltb-false a b t in rw (pos_sub a b l) (omega arith)

pub sub_same : (a b c d : ℕ) → a + d ≡ c + b → sub_ℕ a b ≡ sub_ℕ c d
sub_same a b c d e = go (ltb a b) refl
  where
    go : (x : Bool) → ltb a b ≡ x → sub_ℕ a b ≡ sub_ℕ c d
    go true t =
        let h : a < b = ltb-true a b t in
        let k : b - suc a ≡ d - suc c = omega arith in
        neg_sub a b h ∙ ap negsuc k ∙ sym (neg_sub c d (omega arith))
    go false t =
        let h : b ≤ a = ltb-false a b t in
        let k : a - b ≡ c - d = omega arith in
        pos_sub a b h ∙ ap pos k ∙ sym (pos_sub c d (omega arith))

-- (a - b) * N + l
pub sub_more : (a b l : ℕ) → sub_ℕ a b *ℤ pos parts +ℤ pos l ≡ sub_ℕ (a * parts + l) (b * parts)
sub_more a b l = go (ltb a b) refl
  where
    go : (x : Bool) → ltb a b ≡ x → sub_ℕ a b *ℤ pos parts +ℤ pos l ≡ sub_ℕ (a * parts + l) (b * parts)
    go true t =
        let h : a < b = ltb-true a b t in
        let k : suc (b - suc a) * parts ≡ suc (b * parts - a * parts - 1) = omega arith in
        rw (neg_sub a b h, k) (sub_same l (suc (b * parts - a * parts - 1)) (a * parts + l) (b * parts) (omega arith))
    go false t =
        let h : b ≤ a = ltb-false a b t in
        let k : (a - b) * parts + l ≡ a * parts + l - b * parts = omega arith in
        rw (pos_sub a b h) (ap pos k ∙ sym (pos_sub (a * parts + l) (b * parts) (omega arith)))

-- m * 2 ^ (a - b)
pub sub_value : (m a b : ℕ) → m * up (sub_ℕ a b) * 2 ^ b ≡ m * 2 ^ a * down (sub_ℕ a b)
sub_value m a b = go (ltb a b) refl
  where
    split : (i j k : ℕ) → i + j ≡ k → m * 2 ^ i * 2 ^ j ≡ m * 2 ^ k
    split i j k e = mul_assoc m (2 ^ i) (2 ^ j) ∙ ap (λ (x : ℕ). m * x) (sym (pow-add 2 i j) ∙ ap (λ (x : ℕ). 2 ^ x) e)

    go : (x : Bool) → ltb a b ≡ x → m * up (sub_ℕ a b) * 2 ^ b ≡ m * 2 ^ a * down (sub_ℕ a b)
    go true t = let h : a < b = ltb-true a b t in rw (neg_sub a b h, mul-one m) (sym (split a (suc (b - suc a)) b (omega arith)))
    go false t = let h : b ≤ a = ltb-false a b t in rw (pos_sub a b h, mul-one (m * 2 ^ a)) (split (a - b) b a (omega arith))
