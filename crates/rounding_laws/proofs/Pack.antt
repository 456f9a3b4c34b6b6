-- `round` by the number of digits it drops: where k is that number and q the kept number, rounded, the result's bit pattern is the sign, and k * hid + q. Over either format. Assumes nothing.
use mathlib.Core.Path.{◌≡◌, refl, sym, ap, ◌∙◌, subst}
use mathlib.Core.Logic.{◌⊎◌, inl, inr}
use Prim.Native.Nat.{ℕ, suc, ◌+◌, ◌-◌, ◌*◌, ◌/◌, ◌%◌, ◌^◌, ◌≤◌, ◌<◌, compare}
use native.Mathlib.Nat.{le_refl, le_trans, le_of_eq, lt_of_lt_of_le, lt_of_not-le, not-le_of_lt, eq-or-lt_of_le, add-zero, mul-pos, mul_comm, mul_assoc, mul_right_comm, pow-succ', mul-le-mul_right, add-sub_of_le, suc-mul, div-lt_iff_lt-mul, le-div_iff_mul-le}
use native.Mathlib.Omega.{arith}
use mathlib.Core.Bool.{Bool, true, false, not, cond}
use lib.Dec.{T, ltb, ltb→lt, nltb→le, not_T, lit≤}
use lib.Pow.{pow-add, pow_pos, pow_mono}
use lib.Ieee.{Float, inf, Format, binary32, binary64, prec, emax, low, size, odd, units, round, hid, ones, top, of_fields, of_bits}
use lib.Ieee.Digits.{size-lt, size-le, size_reaches}
use lib.Ieee.Fits.{nearest-le, core, round_is, round-fits, two, two-le_pos, reach}
use lib.Ieee.Bits.{cond_no, of_bits-fits}
use lib.Ieee.Exact.{HasValue, units_val}
use lib.Ieee.Nearest.{closest, nearest-ge}
use Rattle.rounding_laws.proofs.Value.{value_unique, under_overflow, fields, fields_value, at_ones}

-- ---- a format's digits leave room in 64 bits
pub most_digits : (f : Format) → prec f ≤ 61
most_digits binary32 = lit≤ tt
most_digits binary64 = lit≤ tt

-- ---- which k is the number of dropped digits
pub size_gt : (n j : ℕ) → 2 ^ j ≤ n → j < size n
size_gt n j h = lt_of_not-le (λ (g : size n ≤ j). not-le_of_lt (lt_of_lt_of_le (size-lt n) (pow_mono g)) h)

none_over : (z p k : ℕ) → z ≤ p + k → k ≡ 0 → z - p ≡ k
none_over z p k h e = omega arith

some_over : (z p k : ℕ) → 0 < p → z ≤ p + k → p - 1 + k < z → z - p ≡ k
some_over z p k P h g = omega arith

-- n / den, in units, has p + k digits; or k is 0, and it has at most p
abbrev pub Drops : ℕ → ℕ → ℕ → ℕ → Type 0
Drops p n den k = (n < 2 ^ (p + k) * den) × ((k ≡ 0) ⊎ (2 ^ (p - 1 + k) * den ≤ n))

drop_is : (p n den k : ℕ) → 0 < p → 0 < den → Drops p n den k → size (n / den) - p ≡ k
drop_is p n den k P D h =
    let hi : size (n / den) ≤ p + k = size-le (n / den) (p + k) ((div-lt_iff_lt-mul D).1 h.0) in
    elim h.1 [
      | inl z ↦ none_over (size (n / den)) p k hi z
      | inr g ↦ some_over (size (n / den)) p k P hi (size_gt (n / den) (p - 1 + k) ((le-div_iff_mul-le D).1 g))
    ]

pub round_at : (f : Format) (s : Bool) (num den k : ℕ) → 0 < den → Drops (prec f) (num * 2 ^ low f) den k
    → round f s num den ≡ units f s (closest (num * 2 ^ low f) (den * 2 ^ k)) k
round_at f s num den k D h =
    round_is f s num den ∙ ap (λ (x : ℕ). core f s (num * 2 ^ low f) den x) (drop_is (prec f) (num * 2 ^ low f) den k (two-le_pos (prec f) (two f)) D h)

-- ---- the kept number
pub kept_le : (p n den k : ℕ) → 0 < den → n < 2 ^ (p + k) * den → closest n (den * 2 ^ k) ≤ 2 ^ p
kept_le p n den k D h =
    let u = den * 2 ^ k in
    le_trans (nearest-le (n / u) (compare (n % u * 2) u))
    ((div-lt_iff_lt-mul (mul-pos D (pow_pos k))).1
    (subst (λ (x : ℕ). n < x) (ap (λ (x : ℕ). x * den) (pow-add 2 p k) ∙ mul_assoc (2 ^ p) (2 ^ k) den ∙ ap (λ (x : ℕ). 2 ^ p * x) (mul_comm (2 ^ k) den)) h))

pub kept_ge : (p n den k : ℕ) → 0 < den → 2 ^ (p - 1 + k) * den ≤ n → 2 ^ (p - 1) ≤ closest n (den * 2 ^ k)
kept_ge p n den k D h =
    let u = den * 2 ^ k in
    le_trans
    ((le-div_iff_mul-le (mul-pos D (pow_pos k))).1
    (subst (λ (x : ℕ). x ≤ n) (ap (λ (x : ℕ). x * den) (pow-add 2 (p - 1) k) ∙ mul_assoc (2 ^ (p - 1)) (2 ^ k) den ∙ ap (λ (x : ℕ). 2 ^ (p - 1) * x) (mul_comm (2 ^ k) den)) h))
    (nearest-ge (n / u) (compare (n % u * 2) u))

-- ---- the pattern k * hid + q
pred_suc : (p : ℕ) → 2 ≤ p → suc (p - 1) ≡ p
pred_suc p h = omega arith

pub twice_hid : (f : Format) → 2 ^ prec f ≡ 2 * hid f
twice_hid f = ap (λ (x : ℕ). 2 ^ x) (sym (pred_suc (prec f) (two f))) ∙ pow-succ' 2 (prec f - 1)

zero_lt_ones : (e : ℕ) → 0 < 2 * e + 1
zero_lt_ones e = omega arith

lt_suc : (a b : ℕ) → a < b → a < suc b
lt_suc a b h = omega arith

mid : (a h q : ℕ) → h ≤ q → a + h + (q - h) ≡ a + q
mid a h q l = omega arith

rest_lt : (h q : ℕ) → h ≤ q → q < 2 * h → q - h < h
rest_lt h q l g = omega arith

top_is : (a h q : ℕ) → q ≡ 2 * h → a + h + h + 0 ≡ a + q
top_is a h q e = omega arith

-- what the pattern stands for: q * 2 ^ k units, or at the very top an infinity
abbrev pub Stands : Format → Bool → ℕ → ℕ → Type 0
Stands f s k q = HasValue (of_bits f (cond s (top f) 0 + (k * hid f + q))) s (q * 2 ^ k) (2 ^ low f) ⊎ ((of_bits f (cond s (top f) 0 + (k * hid f + q)) ≡ inf s) × (q ≡ 2 * hid f) × (suc (suc k) ≡ ones f))

pub stands : (f : Format) (s : Bool) (k q : ℕ) → suc k < ones f → q ≤ 2 * hid f → (k ≡ 0) ⊎ (hid f ≤ q) → Stands f s k q
stands f s k q K Q h = go (ltb q (hid f)) (ltb→lt q (hid f)) (nltb→le q (hid f))
  where
    low_case : q < hid f → k ≡ 0 → HasValue (of_bits f (cond s (top f) 0 + (k * hid f + q))) s (q * 2 ^ k) (2 ^ low f)
    low_case l z =
        subst (λ (k : ℕ). HasValue (of_bits f (cond s (top f) 0 + (k * hid f + q))) s (q * 2 ^ k) (2 ^ low f)) (sym z)
        (subst (λ (v : Float). HasValue v s (q * 2 ^ 0) (2 ^ low f)) (sym (fields f s 0 q (lt_suc 0 (ones f) (zero_lt_ones (emax f))) l)) (fields_value f s 0 q (zero_lt_ones (emax f))))

    pick : q < hid f → (k ≡ 0) ⊎ (hid f ≤ q) → k ≡ 0
    pick l (inl z) = z
    pick l (inr g) = absurd (not-le_of_lt l g)

    mid_case : hid f ≤ q → q < 2 * hid f → HasValue (of_bits f (cond s (top f) 0 + (k * hid f + q))) s (q * 2 ^ k) (2 ^ low f)
    mid_case l g =
        let is : suc k * hid f + (q - hid f) ≡ k * hid f + q = ap (λ (x : ℕ). x + (q - hid f)) (suc-mul k (hid f)) ∙ mid (k * hid f) (hid f) q l in
        subst (λ (n : ℕ). HasValue (of_bits f (cond s (top f) 0 + n)) s (q * 2 ^ k) (2 ^ low f)) is
        (subst (λ (v : Float). HasValue v s (q * 2 ^ k) (2 ^ low f)) (sym (fields f s (suc k) (q - hid f) (lt_suc (suc k) (ones f) K) (rest_lt (hid f) q l g)))
        (subst (λ (d : ℕ). HasValue (of_fields f s (suc k) (q - hid f)) s (d * 2 ^ k) (2 ^ low f)) (add-sub_of_le l) (fields_value f s (suc k) (q - hid f) K)))

    top_case : q ≡ 2 * hid f → Stands f s k q
    top_case e =
        let is : suc (suc k) * hid f + 0 ≡ k * hid f + q = ap (λ (x : ℕ). x + 0) (suc-mul (suc k) (hid f) ∙ ap (λ (x : ℕ). x + hid f) (suc-mul k (hid f))) ∙ top_is (k * hid f) (hid f) q e in
        let read : of_bits f (cond s (top f) 0 + (k * hid f + q)) ≡ of_fields f s (suc (suc k)) 0 =
        ap (λ (n : ℕ). of_bits f (cond s (top f) 0 + n)) (sym is) ∙ fields f s (suc (suc k)) 0 (lt_suc_of_le (suc k) (ones f) K) (pow_pos (prec f - 1)) in
        elim (eq-or-lt_of_le K) [
          | inl o ↦ inr (read ∙ at_ones f s (suc (suc k)) 0 o, e, o)
          | inr o ↦
              inl
              (subst (λ (v : Float). HasValue v s (q * 2 ^ k) (2 ^ low f)) (sym read)
              (subst (λ (d : ℕ). HasValue (of_fields f s (suc (suc k)) 0) s d (2 ^ low f))
              (ap (λ (x : ℕ). x * 2 ^ suc k) (add-zero (hid f)) ∙ ap (λ (x : ℕ). hid f * x) (pow-succ' 2 k) ∙ sym (mul_assoc (hid f) 2 (2 ^ k)) ∙ ap (λ (x : ℕ). x * 2 ^ k) (mul_comm (hid f) 2 ∙ sym e))
              (fields_value f s (suc (suc k)) 0 o)))
        ]
      where
        lt_suc_of_le : (a b : ℕ) → a < b → suc a < suc b
        lt_suc_of_le a b h = omega arith

    go : (b : Bool) → (T b → q < hid f) → (T (not b) → hid f ≤ q) → Stands f s k q
    go true l g = inl (low_case (l tt) (pick (l tt) h))
    go false l g = elim (eq-or-lt_of_le Q) [ inl e ↦ top_case e | inr m ↦ inl (mid_case (g tt) m) ]

-- ---- the law
last_k : (p e k : ℕ) → 2 ≤ p → suc (suc k) ≡ 2 * e + 1 → p + k ≡ e + p - 2 + suc e
last_k p e k P h = omega arith

pub units_inf : (f : Format) (s : Bool) (q k : ℕ) → 2 ^ (low f + suc (emax f)) ≤ q * 2 ^ k → units f s q k ≡ inf s
unfolding units
units_inf f s q k h = cond_no (ltb (q * 2 ^ k) (2 ^ (low f + suc (emax f)))) (odd (suc (prec f)) s q k (low f)) (inf s) (not_T (ltb (q * 2 ^ k) (2 ^ (low f + suc (emax f)))) (λ t. not-le_of_lt (ltb→lt (q * 2 ^ k) (2 ^ (low f + suc (emax f))) t) h))

pub pack_round : (f : Format) (s : Bool) (num den k q : ℕ) → 0 < den → suc k < ones f → Drops (prec f) (num * 2 ^ low f) den k → q ≡ closest (num * 2 ^ low f) (den * 2 ^ k)
    → of_bits f (cond s (top f) 0 + (k * hid f + q)) ≡ round f s num den
pack_round f s num den k q D K h e =
    let n = num * 2 ^ low f in
    let is : round f s num den ≡ units f s q k = round_at f s num den k D h ∙ ap (λ (x : ℕ). units f s x k) (sym e) in
    let q-le : q ≤ 2 * hid f = subst (λ (x : ℕ). x ≤ 2 * hid f) (sym e) (subst (λ (x : ℕ). closest n (den * 2 ^ k) ≤ x) (twice_hid f) (kept_le (prec f) n den k D h.0)) in
    let q-ge : (k ≡ 0) ⊎ (hid f ≤ q) = elim h.1 [ inl z ↦ inl z | inr g ↦ inr (subst (λ (x : ℕ). hid f ≤ x) (sym e) (kept_ge (prec f) n den k D g)) ] in
    elim (stands f s k q K q-le q-ge) [
      | inl v ↦
          let b = cond s (top f) 0 + (k * hid f + q) in
          value_unique f (of_bits f b) (round f s num den) s (q * 2 ^ k) (2 ^ low f) (of_bits-fits f b) (round-fits f s num den) (pow_pos (low f)) v
          (subst (λ (x : Float). HasValue x s (q * 2 ^ k) (2 ^ low f)) (sym is) (units_val f s q k (under_overflow f (of_bits f b) s (q * 2 ^ k) (of_bits-fits f b) v)))
      | inr w ↦
          w.0
          ∙ sym (is ∙ units_inf f s q k (le_of_eq (sym (ap (λ (x : ℕ). x * 2 ^ k) (w.1 ∙ sym (twice_hid f)) ∙ sym (pow-add 2 (prec f) k) ∙ ap (λ (x : ℕ). 2 ^ x) (last_k (prec f) (emax f) k (two f) w.2)))))
    ]

-- ---- the infinities
pub fields_inf : (f : Format) (s : Bool) → of_bits f (cond s (top f) 0 + ones f * hid f) ≡ inf s
fields_inf f s =
    ap (λ (x : ℕ). of_bits f (cond s (top f) 0 + x)) (sym (add-zero (ones f * hid f))) ∙ fields f s (ones f) 0 (le_refl (suc (ones f))) (pow_pos (prec f - 1)) ∙ at_ones f s (ones f) 0 refl

above : (z p L : ℕ) → 0 < p → p ≤ L → L < z → p - 1 + (z - p) < z
above z p L P h g = omega arith

enough : (z p L : ℕ) → 0 < p → p ≤ L → L < z → L ≤ p - 1 + (z - p)
enough z p L P h g = omega arith

far : (p e : ℕ) → 2 ≤ p → p ≤ suc e → p ≤ e + p - 2 + suc e
far p e a b = omega arith

-- from 2 ^ (emax + 1) on a fraction rounds to an infinity
pub round_inf : (f : Format) (s : Bool) (num den : ℕ) → 0 < den → 2 ^ suc (emax f) * den ≤ num → round f s num den ≡ inf s
round_inf f s num den D h =
    let p = prec f in
    let P : 0 < p = two-le_pos p (two f) in
    let L = low f + suc (emax f) in
    let n = num * 2 ^ low f in
    let w = n / den in
    let k = size w - p in
    let big : 2 ^ L * den ≤ n =
    le_trans (le_of_eq (ap (λ (x : ℕ). x * den) (pow-add 2 (low f) (suc (emax f)) ∙ mul_comm (2 ^ low f) (2 ^ suc (emax f))) ∙ mul_right_comm (2 ^ suc (emax f)) (2 ^ low f) den)) (mul-le-mul_right (2 ^ low f) h) in
    let L-lt : L < size w = size_gt w L ((le-div_iff_mul-le D).1 big) in
    let p-le : p ≤ L = far p (emax f) (two f) (reach f) in
    let q-ge : 2 ^ (p - 1) ≤ closest n (den * 2 ^ k) = kept_ge p n den k D ((le-div_iff_mul-le D).0 (size_reaches w (p - 1 + k) (above (size w) p L P p-le L-lt))) in
    round_is f s num den
    ∙ units_inf f s (closest n (den * 2 ^ k)) k
    (le_trans (pow_mono (enough (size w) p L P p-le L-lt)) (le_trans (le_of_eq (pow-add 2 (p - 1) k)) (mul-le-mul_right (2 ^ k) q-ge)))
