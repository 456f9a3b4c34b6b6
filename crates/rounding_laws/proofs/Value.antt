-- A float by its value: two floats of a format with the same sign and the same size are one, and what size a bit pattern has. Over either format. Assumes nothing.
use mathlib.Core.Path.{◌≡◌, refl, sym, ap, ◌∙◌, subst}
use Prim.Native.Nat.{ℕ, zero, suc, ◌+◌, ◌*◌, ◌/◌, ◌%◌, ◌^◌, ◌<◌}
use native.Mathlib.Nat.{lt_irrefl, zero-lt-suc, zero-add, zero-mul, one-mul, mul-one, mul-pos, mul_comm, mul_assoc, mul_left_comm, mul_right_comm, pow-suc, pow-succ', eq_of_mul-eq-mul_right, lt_of_mul-lt-mul_right, mul-lt-mul_of_pos_right, le-add_right, add-mod_left, mod-eq_of_lt, mul-add-mod_self_left}
use native.Mathlib.Omega.{arith}
use mathlib.Core.Bool.{Bool, true, false, not, ◌&&◌, cond}
use lib.IntN.{ℤ, pos, negsuc}
use lib.Dec.{T, leb, ltb, eqb, eqb→eq, ltb→lt, le→leb, not_T}
use lib.Arith.{digits_lt, digits_div, digits_mod, lt→nleb}
use lib.Pow.{pow-add, pow_pos}
use lib.Ieee.{Float, nan, inf, fin, Format, prec, emax, low, up, down, odd, fits, hid, ones, top, of_fields, of_bits}
use lib.Ieee.Fits.{and_l, and_r, up_pos, down_pos, eq→eqb}
use lib.Ieee.Bits.{is_true, is_false, cond_no}
use lib.Ieee.Exact.{HasValue, odd_sign}
use lib.Ieee.Scale.{finite}

-- ---- an odd number times a power of two is so in one way
even_odd : (m t : ℕ) → m % 2 ≡ 1 → m ≡ 2 * t → ⊥
even_odd m t o h = omega arith

odd_pow : (m n a b : ℕ) → m % 2 ≡ 1 → n % 2 ≡ 1 → m * 2 ^ a ≡ n * 2 ^ b → (m ≡ n) × (a ≡ b)
odd_pow m n zero zero o p h = (sym (mul-one m) ∙ h ∙ mul-one n, refl)
odd_pow m n zero (suc b) o p h = absurd (even_odd m (n * 2 ^ b) o (sym (mul-one m) ∙ h ∙ ap (λ (x : ℕ). n * x) (pow-succ' 2 b) ∙ mul_left_comm n 2 (2 ^ b)))
odd_pow m n (suc a) zero o p h = absurd (even_odd n (m * 2 ^ a) p (sym (mul-one n) ∙ sym h ∙ ap (λ (x : ℕ). m * x) (pow-succ' 2 a) ∙ mul_left_comm m 2 (2 ^ a)))
odd_pow m n (suc a) (suc b) o p h =
    let r = odd_pow m n a b o p (eq_of_mul-eq-mul_right 2 (zero-lt-suc 1) (m * 2 ^ a) (n * 2 ^ b)
    (mul_assoc m (2 ^ a) 2 ∙ ap (λ (x : ℕ). m * x) (sym (pow-suc 2 a)) ∙ h ∙ ap (λ (x : ℕ). n * x) (pow-suc 2 b) ∙ sym (mul_assoc n (2 ^ b) 2))) in
    (r.0, ap suc r.1)

no_sum : (a b : ℕ) → a + suc b ≡ 0 → ⊥
no_sum a b h = omega arith

same_suc : (a b : ℕ) → suc a ≡ suc b → a ≡ b
same_suc a b h = omega arith

cross_odd : (m n : ℕ) (e g : ℤ) → m % 2 ≡ 1 → n % 2 ≡ 1 → m * up e * down g ≡ n * up g * down e → (m ≡ n) × (e ≡ g)
cross_odd m n (pos a) (pos b) o p h =
    let r = odd_pow m n a b o p (sym (mul-one (m * 2 ^ a)) ∙ h ∙ mul-one (n * 2 ^ b)) in (r.0, ap pos r.1)
cross_odd m n (pos a) (negsuc b) o p h =
    absurd (no_sum a b (odd_pow m n (a + suc b) 0 o p (ap (λ (x : ℕ). m * x) (pow-add 2 a (suc b)) ∙ sym (mul_assoc m (2 ^ a) (2 ^ suc b)) ∙ h ∙ mul-one (n * 1))).1)
cross_odd m n (negsuc a) (pos b) o p h =
    absurd (no_sum b a (sym (odd_pow m n 0 (b + suc a) o p (sym (mul-one (m * 1)) ∙ h ∙ mul_assoc n (2 ^ b) (2 ^ suc a) ∙ ap (λ (x : ℕ). n * x) (sym (pow-add 2 b (suc a))))).1))
cross_odd m n (negsuc a) (negsuc b) o p h =
    let r = odd_pow m n (suc b) (suc a) o p (ap (λ (x : ℕ). x * 2 ^ suc b) (sym (mul-one m)) ∙ h ∙ ap (λ (x : ℕ). x * 2 ^ suc a) (mul-one n)) in
    (r.0, ap negsuc (same_suc a b (sym r.1)))

-- ---- of a value that fits: m is odd, or it is 0 with the exponent 0
is_odd : (f : Format) (s : Bool) (m : ℕ) (e : ℤ) → T (fits f (fin s (suc m) e)) → suc m % 2 ≡ 1
unfolding fits
is_odd f s m e t =
    eqb→eq (suc m % 2) 1 (and_l (eqb (suc m % 2) 1) (ltb (suc m) (2 ^ prec f)) (and_l (eqb (suc m % 2) 1 && ltb (suc m) (2 ^ prec f)) (leb (down e) (2 ^ low f))
    (and_l (eqb (suc m % 2) 1 && ltb (suc m) (2 ^ prec f) && leb (down e) (2 ^ low f)) (ltb (suc m * up e) (2 ^ suc (emax f) * down e)) t)))

two_up : (p : ℕ) → 0 < p → 2 * p ≡ 1 → ⊥
two_up p h e = omega arith

flat : (e : ℤ) → up e * down e ≡ 1 → e ≡ pos 0
flat (pos zero) h = refl
flat (pos (suc k)) h = absurd (two_up (2 ^ k) (pow_pos k) (sym (pow-succ' 2 k) ∙ sym (mul-one (2 ^ suc k)) ∙ h))
flat (negsuc k) h = absurd (two_up (2 ^ k) (pow_pos k) (sym (pow-succ' 2 k) ∙ sym (one-mul (2 ^ suc k)) ∙ h))

pub zero_exp : (f : Format) (s : Bool) (e : ℤ) → T (fits f (fin s zero e)) → e ≡ pos 0
unfolding fits
zero_exp f s e t = flat e (eqb→eq (up e * down e) 1 t)

-- ---- two floats of one sign and one size are one float
cross : (x y de dd a c : ℕ) → 0 < c → x * c ≡ a * de → y * c ≡ a * dd → x * dd ≡ y * de
cross x y de dd a c C p q =
    eq_of_mul-eq-mul_right c C (x * dd) (y * de)
    (mul_right_comm x dd c ∙ ap (λ (z : ℕ). z * dd) p ∙ mul_right_comm a de dd ∙ ap (λ (z : ℕ). z * de) (sym q) ∙ mul_right_comm y c de)

not_zero : (m : ℕ) (e : ℤ) (w : ℕ) → 0 < w → 0 ≡ suc m * up e * w → ⊥
not_zero m e w W h = lt_irrefl 0 (subst (λ (x : ℕ). 0 < x) (sym h) (mul-pos (mul-pos (zero-lt-suc m) (up_pos e)) W))

none : (e : ℤ) (w : ℕ) → zero * up e * w ≡ 0
none e w = ap (λ (x : ℕ). x * w) (zero-mul (up e)) ∙ zero-mul w

pub value_unique : (f : Format) (x y : Float) (s : Bool) (a c : ℕ) → T (fits f x) → T (fits f y) → 0 < c → HasValue x s a c → HasValue y s a c → x ≡ y
value_unique f nan y s a c p q C v w = absurd v
value_unique f (inf t) y s a c p q C v w = absurd v
value_unique f (fin t m e) nan s a c p q C v w = absurd w
value_unique f (fin t m e) (inf u) s a c p q C v w = absurd w
value_unique f (fin t zero e) (fin u zero g) s a c p q C v w = λ i. fin ((v.0 ∙ sym w.0) i) zero ((zero_exp f t e p ∙ sym (zero_exp f u g q)) i)
value_unique f (fin t zero e) (fin u (suc n) g) s a c p q C v w =
    absurd (not_zero n g (down e) (down_pos e) (sym (none e (down g)) ∙ cross (zero * up e) (suc n * up g) (down e) (down g) a c C v.1 w.1))
value_unique f (fin t (suc m) e) (fin u zero g) s a c p q C v w =
    absurd (not_zero m e (down g) (down_pos g) (sym (none g (down e)) ∙ sym (cross (suc m * up e) (zero * up g) (down e) (down g) a c C v.1 w.1)))
value_unique f (fin t (suc m) e) (fin u (suc n) g) s a c p q C v w =
    let r = cross_odd (suc m) (suc n) e g (is_odd f t m e p) (is_odd f u n g q) (cross (suc m * up e) (suc n * up g) (down e) (down g) a c C v.1 w.1) in
    λ i. fin ((v.0 ∙ sym w.0) i) (r.0 i) (r.1 i)

pub value_finite : (x : Float) (s : Bool) (a c : ℕ) → HasValue x s a c → T (finite x)
value_finite nan s a c v = absurd v
value_finite (inf t) s a c v = absurd v
value_finite (fin t m e) s a c v = tt

-- ---- a value that fits is below 2 ^ (emax + 1)
scaled : (x a d l w : ℕ) → 0 < d → 0 < l → x * l ≡ a * d → x < w * d → a < l * w
scaled x a d l w D L e h =
    lt_of_mul-lt-mul_right d
    (subst (λ (z : ℕ). z < l * w * d) e (subst (λ (z : ℕ). x * l < z) (mul_right_comm w d l ∙ ap (λ (z : ℕ). z * d) (mul_comm w l)) (mul-lt-mul_of_pos_right h L)))

pub under_overflow : (f : Format) (x : Float) (s : Bool) (a : ℕ) → T (fits f x) → HasValue x s a (2 ^ low f) → a < 2 ^ (low f + suc (emax f))
unfolding fits
under_overflow f nan s a p v = absurd v
under_overflow f (inf t) s a p v = absurd v
under_overflow f (fin t zero e) s a p v =
    subst (λ (z : ℕ). a < z) (sym (pow-add 2 (low f) (suc (emax f))))
    (scaled (zero * up e) a (down e) (2 ^ low f) (2 ^ suc (emax f)) (down_pos e) (pow_pos (low f)) v.1
    (subst (λ (z : ℕ). z < 2 ^ suc (emax f) * down e) (sym (zero-mul (up e))) (mul-pos (pow_pos (suc (emax f))) (down_pos e))))
under_overflow f (fin t (suc m) e) s a p v =
    subst (λ (z : ℕ). a < z) (sym (pow-add 2 (low f) (suc (emax f))))
    (scaled (suc m * up e) a (down e) (2 ^ low f) (2 ^ suc (emax f)) (down_pos e) (pow_pos (low f)) v.1
    (ltb→lt (suc m * up e) (2 ^ suc (emax f) * down e) (and_r (eqb (suc m % 2) 1 && ltb (suc m) (2 ^ prec f) && leb (down e) (2 ^ low f)) (ltb (suc m * up e) (2 ^ suc (emax f) * down e)) p)))

-- ---- what a pattern stands for: the digits, with the leading one, times a power of two, in units of the format's smallest value
abbrev pub digits : Format → ℕ → ℕ → ℕ
digits f zero t = t
digits f (suc x) t = hid f + t

abbrev pub power : ℕ → ℕ
power zero = 0
power (suc x) = x

lt→neqb : (a b : ℕ) → a < b → T (not (eqb a b))
lt→neqb a b h = not_T (eqb a b) (λ t. lt_irrefl b (subst (λ (x : ℕ). x < b) (eqb→eq a b t) h))

pub fields_value : (f : Format) (s : Bool) (x t : ℕ) → x < ones f → HasValue (of_fields f s x t) s (digits f x t * 2 ^ power x) (2 ^ low f)
unfolding of_fields
fields_value f s zero t h = odd_sign (prec f) s t 0 (low f)
fields_value f s (suc x) t h =
    subst (λ (v : Float). HasValue v s ((hid f + t) * 2 ^ x) (2 ^ low f)) (sym (cond_no (eqb (suc x) (ones f)) (cond (eqb t 0) (inf s) nan) (odd (prec f) s (hid f + t) x (low f)) (lt→neqb (suc x) (ones f) h)))
    (odd_sign (prec f) s (hid f + t) x (low f))

pub bits_value : (f : Format) (b : ℕ) → b % top f / hid f < ones f
    → HasValue (of_bits f b) (leb (top f) b) (digits f (b % top f / hid f) (b % hid f) * 2 ^ power (b % top f / hid f)) (2 ^ low f)
unfolding of_bits
bits_value f b h = fields_value f (leb (top f) b) (b % top f / hid f) (b % hid f) h

-- ---- a pattern made of three fields is read as those fields
of_bits_is : (f : Format) (b : ℕ) → of_bits f b ≡ of_fields f (leb (top f) b) (b % top f / hid f) (b % hid f)
unfolding of_bits
of_bits_is f b = refl

same : (f : Format) {s s' : Bool} {x x' t t' : ℕ} → s ≡ s' → x ≡ x' → t ≡ t' → of_fields f s x t ≡ of_fields f s' x' t'
same f {s} {s'} {x} {x'} {t} {t'} p q r = ap (λ (a : Bool). of_fields f a x t) p ∙ ap (λ (a : ℕ). of_fields f s' a t) q ∙ ap (λ (a : ℕ). of_fields f s' x' a) r

pub small : (f : Format) (x t : ℕ) → x < suc (ones f) → t < hid f → x * hid f + t < top f
small f x t X H = subst (λ (a : ℕ). x * hid f + t < a) (mul_comm (suc (ones f)) (hid f)) (digits_lt X H)

pub fields : (f : Format) (s : Bool) (x t : ℕ) → x < suc (ones f) → t < hid f → of_bits f (cond s (top f) 0 + (x * hid f + t)) ≡ of_fields f s x t
fields f s x t X H = go s
  where
    go : (s : Bool) → of_bits f (cond s (top f) 0 + (x * hid f + t)) ≡ of_fields f s x t
    go true =
        of_bits_is f (top f + (x * hid f + t))
        ∙ same f (is_true (leb (top f) (top f + (x * hid f + t))) (le→leb (top f) (top f + (x * hid f + t)) (le-add_right (top f) (x * hid f + t))))
        (ap (λ (a : ℕ). a / hid f) (add-mod_left (top f) (x * hid f + t) ∙ mod-eq_of_lt (small f x t X H)) ∙ digits_div x H)
        (mul-add-mod_self_left (hid f) (suc (ones f)) (x * hid f + t) ∙ digits_mod x H)
    go false =
        ap (λ (a : ℕ). of_bits f a) (zero-add (x * hid f + t))
        ∙ of_bits_is f (x * hid f + t)
        ∙ same f (is_false (leb (top f) (x * hid f + t)) (lt→nleb (top f) (x * hid f + t) (small f x t X H)))
        (ap (λ (a : ℕ). a / hid f) (mod-eq_of_lt (small f x t X H)) ∙ digits_div x H)
        (digits_mod x H)

-- ---- an exponent's field of all ones
pub at_ones : (f : Format) (s : Bool) (x t : ℕ) → x ≡ ones f → of_fields f s x t ≡ cond (eqb t 0) (inf s) nan
unfolding of_fields
at_ones f s zero t e = absurd (none (emax f) e)
  where
    none : (e : ℕ) → 0 ≡ 2 * e + 1 → ⊥
    none e h = omega arith
at_ones f s (suc x) t e = ap (λ (b : Bool). cond b (cond (eqb t 0) (inf s) nan) (odd (prec f) s (hid f + t) x (low f))) (is_true (eqb (suc x) (ones f)) (eq→eqb e))
