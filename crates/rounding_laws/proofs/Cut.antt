-- What code does with the bit pattern of an `f64` to round it to an `f32`: a sum, and the low 29 bits cut. Assumes nothing.
use mathlib.Core.Path.{◌≡◌, refl, sym, ap, ◌∙◌, subst}
use mathlib.Core.Logic.{◌⊎◌, inl, inr}
use Prim.Native.Nat.{ℕ, suc, ◌+◌, ◌-◌, ◌*◌, ◌/◌, ◌%◌, ◌^◌, ◌≤◌, ◌<◌}
use native.Mathlib.Nat.{le_trans, le_of_eq, le_of_lt, lt_of_lt_of_le, lt_of_le_of_lt, le_of_suc-le-suc, lt_of_mul-lt-mul_right, mul-pos, mul_comm, mul_assoc, mul-le-mul_right, mul-lt-mul_of_pos_right}
use native.Mathlib.Omega.{arith}
use mathlib.Core.Bool.{Bool, true, false, not, ◌&&◌, cond, false≢true}
use lib.Dec.{T, leb}
use borrow.Author.Tests.{leb-true, leb-false}
use lib.Pow.{pow-add, pow_pos}
use lib.Ieee.{Float, nan, inf, fin, up, down, eq, binary32, binary64, round, of_bits, to_bits, nan_bits, is_nan, fits}
use lib.Arith.{le→nltb}
use lib.Ieee.Fits.{and_i, round-fits, nan-fits, inf-fits}
use lib.Ieee.Bits.{of_bits-to_bits, nan_bits_is, nan_bits_above}
use lib.Ieee.Exact.{HasValue}
use lib.Ieee.Nearest.{closest}
use Rattle.rules.specs.Numbers.{narrowed}
use Rattle.rounding_laws.specs.Cut.{plain_cut, even_cut}
use Rattle.rounding_laws.proofs.Pack.{Drops}
use Rattle.rounding_laws.proofs.Powers.{pow_lt_back, or_less}
use Rattle.rounding_laws.proofs.Pattern.{own, own_drops, most_own, least_own, over, reads_own}
use Rattle.rounding_laws.proofs.Decode.{narrowed_value, normal_value}
use Rattle.rounding_laws.proofs.Sticky.{closest_between}
use Rattle.rounding_laws.proofs.Twice.{twice, exactly, plain_cut_lem, even_cut_lem, twice_round}

-- ---- the pattern b of a fraction rounded to an `f64`: how many digits are dropped, and the kept number
abbrev kept : ℕ → ℕ → ℕ → ℕ
kept num den k = closest (num * 2 ^ 1074) (den * 2 ^ k)

pub record Pattern (s : Bool) (num den b : ℕ) : Type 0 where
  pub k : ℕ
  pub drops : Drops 53 (num * 2 ^ 1074) den k
  pub reads : b ≡ cond s (2 ^ 63) 0 + (k * 2 ^ 52 + kept num den k)
  pub small : k < 2046
  pub most : kept num den k ≤ 2 ^ 53
  pub least : (k ≡ 0) ⊎ (2 ^ 52 ≤ kept num den k)

pub inf_bits : (s : Bool) → to_bits binary64 (inf s) % 2 ^ 63 ≡ 2047 * 2 ^ 52
unfolding to_bits
inf_bits true = refl
inf_bits false = refl

pub pattern : (s : Bool) (num den : ℕ) → 0 < den → to_bits binary64 (round binary64 s num den) % 2 ^ 63 < 2047 * 2 ^ 52 → Pattern s num den (to_bits binary64 (round binary64 s num den))
pattern s num den D f = elim (or_less 2047 (suc k)) [
  | inl h ↦ absurd (clash (to_bits binary64 (round binary64 s num den) % 2 ^ 63) f (ap (λ (v : Float). to_bits binary64 v % 2 ^ 63) (over binary64 s num den D h) ∙ inf_bits s))
  | inr h ↦ record { k = k; drops = own_drops binary64 s num den D; reads = reads_own binary64 s num den D h; small = le_of_suc-le-suc h; most = most_own binary64 s num den D; least = least_own binary64 s num den D }
]
  where
    k : ℕ
    k = own binary64 s num den D

    clash : (y : ℕ) → y < 2047 * 2 ^ 52 → y ≡ 2047 * 2 ^ 52 → ⊥
    clash y h e = omega arith

-- ---- its digits in the range of `f32`'s normal numbers

module _ (k q : ℕ) (K : k < 2046) (m : q ≤ 2 ^ 53) where
  within : (s : Bool) (b : ℕ) → b ≡ cond s (2 ^ 63) 0 + (k * 2 ^ 52 + q) → (k ≡ 0) ⊎ (2 ^ 52 ≤ q) → 898 * 2 ^ 52 ≤ b % 2 ^ 63 → b % 2 ^ 63 < 1149 * 2 ^ 52
      → (k - 896 + 896 ≡ k) × (k - 896 < 253) × (2 ^ 52 ≤ q)
  within true b e (inl z) lo hi = absurd (omega arith)
  within false b e (inl z) lo hi = absurd (omega arith)
  within true b e (inr g) lo hi = (omega arith, omega arith, g)
  within false b e (inr g) lo hi = (omega arith, omega arith, g)

  plain_is : (s : Bool) (b : ℕ) → b ≡ cond s (2 ^ 63) 0 + (k * 2 ^ 52 + q) → plain_cut b ≡ cond s (2 ^ 63) 0 + (k * 2 ^ 52 + (q + 2 ^ 28) / 2 ^ 29 * 2 ^ 29)
  plain_is true b e = omega arith
  plain_is false b e = omega arith

  plain_rest : (s : Bool) (b : ℕ) → b ≡ cond s (2 ^ 63) 0 + (k * 2 ^ 52 + q) → (q + 2 ^ 28) % 2 ^ 29 ≡ (b + 2 ^ 28) % 2 ^ 29
  plain_rest true b e = omega arith
  plain_rest false b e = omega arith

half_way : (q : ℕ) → q % 2 ^ 29 ≡ 2 ^ 28 → (q + 2 ^ 28) % 2 ^ 29 ≡ 0
half_way q h = omega arith

-- a fraction rounded to the `f64` with the pattern b, which is no midpoint
pub plain_law : (s : Bool) (num den b : ℕ) → 0 < den → b ≡ to_bits binary64 (round binary64 s num den) → 898 * 2 ^ 52 ≤ b % 2 ^ 63 → b % 2 ^ 63 < 1149 * 2 ^ 52 → ((b + 2 ^ 28) % 2 ^ 29 ≡ 0 → ⊥)
    → of_bits binary64 (plain_cut b) ≡ round binary32 s num den
plain_law s num den b D e lo hi n = go (pattern s num den D (subst (λ (y : ℕ). y % 2 ^ 63 < 2047 * 2 ^ 52) e (wider (b % 2 ^ 63) hi)))
  where
    wider : (y : ℕ) → y < 1149 * 2 ^ 52 → y < 2047 * 2 ^ 52
    wider y h = omega arith

    go : Pattern s num den (to_bits binary64 (round binary64 s num den)) → of_bits binary64 (plain_cut b) ≡ round binary32 s num den
    go P =
        let k = P.k in
        let q = kept num den k in
        let r : b ≡ cond s (2 ^ 63) 0 + (k * 2 ^ 52 + q) = e ∙ P.reads in
        let w = within k q P.small P.most s b r P.least lo hi in
        let j = k - 896 in
        let n' : (q + 2 ^ 28) % 2 ^ 29 ≡ 0 → ⊥ = λ z. n (sym (plain_rest k q P.small P.most s b r) ∙ z) in
        let c : closest q (2 ^ 29) ≡ (q + 2 ^ 28) / 2 ^ 29 = plain_cut_lem q n' in
        let t : closest (num * 2 ^ 1074) (den * 2 ^ k * 2 ^ 29) ≡ closest q (2 ^ 29) = twice (num * 2 ^ 1074) (den * 2 ^ k) (mul-pos D (pow_pos k)) (λ z. n' (half_way q z)) in
        ap (of_bits binary64) (plain_is k q P.small P.most s b r ∙ ap (λ (y : ℕ). cond s (2 ^ 63) 0 + (k * 2 ^ 52 + y * 2 ^ 29)) (sym c) ∙ ap (λ (y : ℕ). cond s (2 ^ 63) 0 + (y * 2 ^ 52 + closest q (2 ^ 29) * 2 ^ 29)) (sym w.0))
        ∙ twice_round s num den j q D (subst (λ (y : ℕ). Drops 53 (num * 2 ^ 1074) den y) (sym w.0) P.drops) w.1 w.2 P.most (ap (λ (y : ℕ). closest (num * 2 ^ 1074) (den * 2 ^ y * 2 ^ 29)) w.0 ∙ t)

-- ---- an `f64` as it is
module _ (k q : ℕ) (lo : 2 ^ 52 ≤ q) (hi : q < 2 ^ 53) where
  whole_drops : Drops 53 (q * 2 ^ k * 2 ^ 1074) (2 ^ 1074) k
  whole_drops = (
    mul-lt-mul_of_pos_right (lt_of_lt_of_le (mul-lt-mul_of_pos_right hi (pow_pos k)) (le_of_eq (sym (pow-add 2 53 k)))) (pow_pos 1074),
    inr (mul-le-mul_right (2 ^ 1074) (le_trans (le_of_eq (pow-add 2 52 k)) (mul-le-mul_right (2 ^ k) lo))),
  )

  whole-kept : closest (q * 2 ^ k * 2 ^ 1074) (2 ^ 1074 * 2 ^ k * 2 ^ 29) ≡ closest q (2 ^ 29)
  whole-kept = exactly (q * 2 ^ k * 2 ^ 1074) (2 ^ 1074 * 2 ^ k) q (mul-pos (pow_pos 1074) (pow_pos k)) (mul_assoc q (2 ^ k) (2 ^ 1074) ∙ ap (λ (y : ℕ). q * y) (mul_comm (2 ^ k) (2 ^ 1074)))

-- the pattern b by its fields
bits_fields : (b : ℕ) → b < 2 ^ 64 → 898 * 2 ^ 52 ≤ b % 2 ^ 63 → b % 2 ^ 63 < 1149 * 2 ^ 52
    → (b % 2 ^ 63 / 2 ^ 52 ≡ suc (b % 2 ^ 63 / 2 ^ 52 - 1)) × (b % 2 ^ 63 / 2 ^ 52 - 1 - 896 + 896 ≡ b % 2 ^ 63 / 2 ^ 52 - 1) × (b % 2 ^ 63 / 2 ^ 52 - 1 - 896 < 253)
bits_fields b B lo hi = (omega arith, omega arith, omega arith)

bits_even : (s : Bool) (b k q : ℕ) → b ≡ cond s (2 ^ 63) 0 + (k * 2 ^ 52 + q) → even_cut b ≡ cond s (2 ^ 63) 0 + (k * 2 ^ 52 + (q + 268435455 + q / 2 ^ 29 % 2) / 2 ^ 29 * 2 ^ 29)
bits_even s b k q e =
    ap (λ (p : ℕ). b + 268435455 + p - (b + 268435455 + p) % 2 ^ 29) (parity s b e) ∙ sums s b (q / 2 ^ 29 % 2) e
  where
    parity : (s : Bool) (b : ℕ) → b ≡ cond s (2 ^ 63) 0 + (k * 2 ^ 52 + q) → b / 2 ^ 29 % 2 ≡ q / 2 ^ 29 % 2
    parity true b e = omega arith
    parity false b e = omega arith

    sums : (s : Bool) (b p : ℕ) → b ≡ cond s (2 ^ 63) 0 + (k * 2 ^ 52 + q) → b + 268435455 + p - (b + 268435455 + p) % 2 ^ 29 ≡ cond s (2 ^ 63) 0 + (k * 2 ^ 52 + (q + 268435455 + p) / 2 ^ 29 * 2 ^ 29)
    sums true b p e = omega arith
    sums false b p e = omega arith

bits_split : (b : ℕ) → b < 2 ^ 64 → 898 * 2 ^ 52 ≤ b % 2 ^ 63 → (s : Bool) → leb (2 ^ 63) b ≡ s → b ≡ cond s (2 ^ 63) 0 + ((b % 2 ^ 63 / 2 ^ 52 - 1) * 2 ^ 52 + (2 ^ 52 + b % 2 ^ 52))
bits_split b B lo true e = let l = leb-true (2 ^ 63) b e in omega arith
bits_split b B lo false e = let l = leb-false (2 ^ 63) b e in omega arith

pub even_law : (x : Float) → T (fits binary64 x) → (b : ℕ) → b ≡ to_bits binary64 x → b < 2 ^ 64 → 898 * 2 ^ 52 ≤ b % 2 ^ 63 → b % 2 ^ 63 < 1149 * 2 ^ 52
    → of_bits binary64 (even_cut b) ≡ narrowed x
even_law x fit b e B lo hi =
    ap (of_bits binary64) (bits_even s b k q (bits_split b B lo s refl) ∙ ap (λ (y : ℕ). cond s (2 ^ 63) 0 + (k * 2 ^ 52 + y * 2 ^ 29)) (sym (even_cut_lem q)) ∙ ap (λ (y : ℕ). cond s (2 ^ 63) 0 + (y * 2 ^ 52 + closest q (2 ^ 29) * 2 ^ 29)) (sym w.1))
    ∙ twice_round s (q * 2 ^ k) (2 ^ 1074) (k - 896) q (pow_pos 1074) (subst (λ (y : ℕ). Drops 53 (q * 2 ^ k * 2 ^ 1074) (2 ^ 1074) y) (sym w.1) (whole_drops k q q_lo q_hi)) w.2 q_lo (le_of_lt q_hi)
    (ap (λ (y : ℕ). closest (q * 2 ^ k * 2 ^ 1074) (2 ^ 1074 * 2 ^ y * 2 ^ 29)) w.1 ∙ whole-kept k q q_lo q_hi)
    ∙ sym (narrowed_value x s (q * 2 ^ k) (2 ^ 1074) (pow_pos 1074)
    (subst (λ (v : Float). HasValue v s (q * 2 ^ k) (2 ^ 1074)) (ap (of_bits binary64) e ∙ of_bits-to_bits binary64 x fit) (normal_value binary64 b k (field_lt (b % 2 ^ 63 / 2 ^ 52) hi') w.0)))
  where
    s : Bool
    s = leb (2 ^ 63) b

    k : ℕ
    k = b % 2 ^ 63 / 2 ^ 52 - 1

    q : ℕ
    q = 2 ^ 52 + b % 2 ^ 52

    w : (b % 2 ^ 63 / 2 ^ 52 ≡ suc k) × (k - 896 + 896 ≡ k) × (k - 896 < 253)
    w = bits_fields b B lo hi

    q_lo : 2 ^ 52 ≤ q
    q_lo = omega arith

    q_hi : q < 2 ^ 53
    q_hi = omega arith

    hi' : b % 2 ^ 63 / 2 ^ 52 < 1149
    hi' = omega arith

    field_lt : (y : ℕ) → y < 1149 → suc (y - 1) < 2047
    field_lt y h = omega arith

-- ---- what the machine asks of such a pattern
pub no_nan_eq : (x : Float) → eq x x ≡ true → T (not (is_nan x))
unfolding is_nan eq
no_nan_eq nan h = absurd (false≢true h)
no_nan_eq (inf s) h = tt
no_nan_eq (fin s m e) h = tt

pub nan_below : (n : ℕ) → n % 2 ^ 63 ≤ 2047 * 2 ^ 52 → T (not (nan_bits binary64 n))
nan_below n h = subst (λ (b : Bool). T (not b)) (sym (nan_bits_above binary64 n)) (le→nltb (2047 * 2 ^ 52) (n % 2 ^ 63) h)

near : (b n : ℕ) → b < 2 ^ 64 → 898 * 2 ^ 52 ≤ b % 2 ^ 63 → b % 2 ^ 63 < 1149 * 2 ^ 52 → n ≤ b + 2 ^ 28 → b ≤ n + 2 ^ 28 → n % 2 ^ 63 ≤ 2047 * 2 ^ 52
near b n B lo hi g h = omega arith

pub plain_nan : (b : ℕ) → b < 2 ^ 64 → 898 * 2 ^ 52 ≤ b % 2 ^ 63 → b % 2 ^ 63 < 1149 * 2 ^ 52 → T (not (nan_bits binary64 (plain_cut b)))
plain_nan b B lo hi = nan_below (plain_cut b) (near b (plain_cut b) B lo hi (omega arith) (omega arith))

pub even_nan : (b : ℕ) → b < 2 ^ 64 → 898 * 2 ^ 52 ≤ b % 2 ^ 63 → b % 2 ^ 63 < 1149 * 2 ^ 52 → T (not (nan_bits binary64 (even_cut b)))
even_nan b B lo hi = nan_below (even_cut b) (go b (b / 2 ^ 29 % 2) B lo hi (omega arith))
  where
    go : (b p : ℕ) → b < 2 ^ 64 → 898 * 2 ^ 52 ≤ b % 2 ^ 63 → b % 2 ^ 63 < 1149 * 2 ^ 52 → p < 2 → (b + 268435455 + p - (b + 268435455 + p) % 2 ^ 29) % 2 ^ 63 ≤ 2047 * 2 ^ 52
    go b p B lo hi h = near b (b + 268435455 + p - (b + 268435455 + p) % 2 ^ 29) B lo hi (omega arith) (omega arith)

pub cast_ok : (n : ℕ) (y : Float) → of_bits binary64 n ≡ y → T (fits binary32 y) → T (not (nan_bits binary64 n)) → T (fits binary32 (of_bits binary64 n) && not (is_nan (of_bits binary64 n)))
cast_ok n y e t m =
    and_i (fits binary32 (of_bits binary64 n)) (not (is_nan (of_bits binary64 n))) (subst (λ (v : Float). T (fits binary32 v)) (sym e) t) (subst (λ (b : Bool). T (not b)) (nan_bits_is binary64 n) m)

pub narrowed_fits : (x : Float) → T (fits binary32 (narrowed x))
unfolding narrowed
narrowed_fits nan = nan-fits binary32
narrowed_fits (inf s) = inf-fits binary32 s
narrowed_fits (fin s m e) = round-fits binary32 s (m * up e) (down e)

-- ---- a fraction that the `f64` with the pattern b holds exactly
exact_kept : (a b w : ℕ) → 0 < b → a ≡ w * b → closest a b ≡ w
exact_kept a b w B e = closest_between a b w B (omega arith) (omega arith)

pub even_sum_law : (s : Bool) (num den b : ℕ) → 0 < den → b ≡ to_bits binary64 (round binary64 s num den) → 898 * 2 ^ 52 ≤ b % 2 ^ 63 → b % 2 ^ 63 < 1149 * 2 ^ 52
    → ((k : ℕ) → suc k ≤ b % 2 ^ 63 / 2 ^ 52 → Drops 53 (num * 2 ^ 1074) den k → (w : ℕ) × (num * 2 ^ 1074 ≡ w * (den * 2 ^ k)))
    → of_bits binary64 (even_cut b) ≡ round binary32 s num den
even_sum_law s num den b D e lo hi ex = go (pattern s num den D (subst (λ (y : ℕ). y % 2 ^ 63 < 2047 * 2 ^ 52) e (wider (b % 2 ^ 63) hi)))
  where
    wider : (y : ℕ) → y < 1149 * 2 ^ 52 → y < 2047 * 2 ^ 52
    wider y h = omega arith

    fields_ge : (s : Bool) (b k q : ℕ) → k < 2046 → q ≤ 2 ^ 53 → 2 ^ 52 ≤ q → b ≡ cond s (2 ^ 63) 0 + (k * 2 ^ 52 + q) → suc k ≤ b % 2 ^ 63 / 2 ^ 52
    fields_ge true b k q K h g r = omega arith
    fields_ge false b k q K h g r = omega arith

    go : Pattern s num den (to_bits binary64 (round binary64 s num den)) → of_bits binary64 (even_cut b) ≡ round binary32 s num den
    go P =
        let k = P.k in
        let q = kept num den k in
        let r : b ≡ cond s (2 ^ 63) 0 + (k * 2 ^ 52 + q) = e ∙ P.reads in
        let w = within k q P.small P.most s b r P.least lo hi in
        let j = k - 896 in
        let x = ex k (fields_ge s b k q P.small P.most w.2 r) P.drops in
        let same : q ≡ x.0 = exact_kept (num * 2 ^ 1074) (den * 2 ^ k) x.0 (mul-pos D (pow_pos k)) x.1 in
        let t : closest (num * 2 ^ 1074) (den * 2 ^ k * 2 ^ 29) ≡ closest q (2 ^ 29) = exactly (num * 2 ^ 1074) (den * 2 ^ k) q (mul-pos D (pow_pos k)) (x.1 ∙ ap (λ (y : ℕ). y * (den * 2 ^ k)) (sym same)) in
        ap (of_bits binary64) (bits_even s b k q r ∙ ap (λ (y : ℕ). cond s (2 ^ 63) 0 + (k * 2 ^ 52 + y * 2 ^ 29)) (sym (even_cut_lem q)) ∙ ap (λ (y : ℕ). cond s (2 ^ 63) 0 + (y * 2 ^ 52 + closest q (2 ^ 29) * 2 ^ 29)) (sym w.0))
        ∙ twice_round s num den j q D (subst (λ (y : ℕ). Drops 53 (num * 2 ^ 1074) den y) (sym w.0) P.drops) w.1 w.2 P.most (ap (λ (y : ℕ). closest (num * 2 ^ 1074) (den * 2 ^ y * 2 ^ 29)) w.0 ∙ t)

-- ---- where the fraction's size alone shows the pattern's range
pub size_law : (s : Bool) (num den F : ℕ) → 0 < den → num * 2 ^ 1074 < 2 ^ (52 + F) * den → 2 ^ 949 * den ≤ num * 2 ^ 1074 → F ≤ 1147
    → (898 * 2 ^ 52 ≤ to_bits binary64 (round binary64 s num den) % 2 ^ 63) × (to_bits binary64 (round binary64 s num den) % 2 ^ 63 < 1149 * 2 ^ 52)
size_law s num den F D hi lo f = last s (to_bits binary64 (round binary64 s num den)) k (kept num den k) big small (least_is (least_own binary64 s num den D)) (most_own binary64 s num den D) (reads_own binary64 s num den D (under k small))
  where
    k : ℕ
    k = own binary64 s num den D

    d : Drops 53 (num * 2 ^ 1074) den k
    d = own_drops binary64 s num den D

    big : 896 < k
    big = less k (pow_lt_back 949 (53 + k) (lt_of_mul-lt-mul_right den (lt_of_le_of_lt lo d.0)))
      where
        less : (k : ℕ) → 949 < 53 + k → 896 < k
        less k h = omega arith

    small : k < 1147
    small = go d.1
      where
        none : (k : ℕ) → k ≡ 0 → k < 1147
        none k e = omega arith

        less : (k F : ℕ) → 52 + k < 52 + F → F ≤ 1147 → k < 1147
        less k F h g = omega arith

        go : (k ≡ 0) ⊎ (2 ^ (52 + k) * den ≤ num * 2 ^ 1074) → k < 1147
        go (inl z) = none k z
        go (inr g) = less k F (pow_lt_back (52 + k) (52 + F) (lt_of_mul-lt-mul_right den (lt_of_le_of_lt g hi))) f

    under : (k : ℕ) → k < 1147 → suc k < 2047
    under k h = omega arith

    least_is : (k ≡ 0) ⊎ (2 ^ 52 ≤ kept num den k) → 2 ^ 52 ≤ kept num den k
    least_is (inl z) = absurd (never k big z)
      where
        never : (k : ℕ) → 896 < k → k ≡ 0 → ⊥
        never k h e = omega arith
    least_is (inr g) = g

    last : (s : Bool) (b k q : ℕ) → 896 < k → k < 1147 → 2 ^ 52 ≤ q → q ≤ 2 ^ 53 → b ≡ cond s (2 ^ 63) 0 + (k * 2 ^ 52 + q) → (898 * 2 ^ 52 ≤ b % 2 ^ 63) × (b % 2 ^ 63 < 1149 * 2 ^ 52)
    last true b k q l h m n e = (omega arith, omega arith)
    last false b k q l h m n e = (omega arith, omega arith)
