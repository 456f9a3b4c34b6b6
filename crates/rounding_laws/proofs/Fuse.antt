-- The operators and `fused` by the values of their operands, and where the plain operators give `fused`. Over either format. Assumes nothing.
use mathlib.Core.Path.{◌≡◌, refl, sym, ap, ◌∙◌, subst}
use mathlib.Core.Bool.{Bool, true, false, cond, true≢false, false≢true}
use Prim.Native.Nat.{ℕ, suc, ◌+◌, ◌-◌, ◌*◌, ◌^◌, ◌≤◌, ◌<◌}
use native.Mathlib.Nat.{le_trans, lt_of_le_of_lt, mul-le-mul_right, mul-lt-mul_of_pos_right, zero-mul, mul-one, one-mul, mul-pos, mul_comm, mul_assoc, mul_left_comm, mul_right_comm, eq_of_mul-eq-mul_right}
use native.Mathlib.Omega.{arith}
use lib.IntN.{ℤ, pos, negsuc, ◌+ℤ◌}
use lib.Dec.{T, ltb, le→leb, lit≤}
use borrow.Author.Tests.{ltb-true, ltb-false}
use lib.Pow.{pow-add, pow_pos}
use lib.Ieee.{Float, nan, inf, fin, Format, binary64, of_int, in_float, prec, emax, low, up, down, unlike, round, sum, add, mul, fits}
use lib.Ieee.Fits.{down_pos, add-fits}
use lib.Ieee.Exact.{HasValue, round_exact}
use lib.Ieee.Back.{round_whole}
use lib.Ieee.Scale.{finite, round_same}
use Rattle.rules.specs.Numbers.{product, fused, wide}
use Rattle.rounding_laws.proofs.Sum.{sum_same}

-- ---- from one fraction to another of the same size
pub rescale : (x : Float) (s : Bool) (w l num den : ℕ) → 0 < l → num * l ≡ w * den → HasValue x s w l → HasValue x s num den
rescale nan s w l num den p h v = v
rescale (inf t) s w l num den p h v = v
rescale (fin t m e) s w l num den p h v = (
  v.0,
  eq_of_mul-eq-mul_right l p (m * up e * den) (num * down e)
      (mul_right_comm (m * up e) den l
      ∙ ap (λ (x : ℕ). x * den) v.1
      ∙ mul_right_comm w (down e) den
      ∙ ap (λ (x : ℕ). x * down e) (sym h)
      ∙ mul_right_comm num l (down e)),
)

-- ---- 2 ^ (e + d) is 2 ^ e * 2 ^ d
-- 2 ^ (a - b), for whole a and b
up_minus : (a b : ℕ) → up (pos a +ℤ negsuc b) * 2 ^ suc b ≡ 2 ^ a * down (pos a +ℤ negsuc b)
up_minus a b = go (ltb a (suc b)) refl
  where
    go : (i : Bool) → ltb a (suc b) ≡ i → up (cond i (negsuc (suc b - suc a)) (pos (a - suc b))) * 2 ^ suc b ≡ 2 ^ a * down (cond i (negsuc (suc b - suc a)) (pos (a - suc b)))
    go true h = mul_comm 1 (2 ^ suc b) ∙ mul-one (2 ^ suc b) ∙ ap (λ (i : ℕ). 2 ^ i) (less a b (ltb-true a (suc b) h)) ∙ pow-add 2 a (suc (suc b - suc a))
      where
        less : (a b : ℕ) → a < suc b → suc b ≡ a + suc (suc b - suc a)
        less a b h = omega arith
    go false h = sym (pow-add 2 (a - suc b) (suc b)) ∙ ap (λ (i : ℕ). 2 ^ i) (more a b (ltb-false a (suc b) h)) ∙ sym (mul-one (2 ^ a))
      where
        more : (a b : ℕ) → suc b ≤ a → a - suc b + suc b ≡ a
        more a b h = omega arith

up_add : (e d : ℤ) → up (e +ℤ d) * (down e * down d) ≡ up e * up d * down (e +ℤ d)
up_add (pos a) (pos b) = ap (λ (i : ℕ). i * 1) (pow-add 2 a b)
up_add (pos a) (negsuc b) = ap (λ (i : ℕ). up (pos a +ℤ negsuc b) * i) (mul_comm 1 (2 ^ suc b) ∙ mul-one (2 ^ suc b)) ∙ up_minus a b ∙ ap (λ (i : ℕ). i * down (pos a +ℤ negsuc b)) (sym (mul-one (2 ^ a)))
up_add (negsuc a) (pos b) = ap (λ (i : ℕ). up (pos b +ℤ negsuc a) * i) (mul-one (2 ^ suc a)) ∙ up_minus b a ∙ ap (λ (i : ℕ). i * down (pos b +ℤ negsuc a)) (sym (mul_comm 1 (2 ^ b) ∙ mul-one (2 ^ b)))
up_add (negsuc a) (negsuc b) = mul_comm 1 (2 ^ suc a * 2 ^ suc b) ∙ mul-one (2 ^ suc a * 2 ^ suc b) ∙ sym (pow-add 2 (suc a) (suc b)) ∙ ap (λ (i : ℕ). 2 ^ i) (sums a b) ∙ sym (mul_comm 1 (2 ^ suc (suc (a + b))) ∙ mul-one (2 ^ suc (suc (a + b))))
  where
    sums : (a b : ℕ) → suc a + suc b ≡ suc (suc (a + b))
    sums a b = omega arith

-- ---- the operators by the values
cross : (A B D E M N F G : ℕ) → M * D ≡ A * F → N * E ≡ B * G → M * N * (D * E) ≡ A * B * (F * G)
cross A B D E M N F G h k =
    let w : M * N * (D * E) ≡ M * D * (N * E) = simp (mul_assoc, mul_comm, mul_left_comm) in
    let v : A * F * (B * G) ≡ A * B * (F * G) = simp (mul_assoc, mul_comm, mul_left_comm) in
    w ∙ ap (λ (i : ℕ). i * (N * E)) h ∙ ap (λ (i : ℕ). A * F * i) k ∙ v

module _ (s t : Bool) (A B D E : ℕ) (P : 0 < D) (Q : 0 < E) where
  pub mul_value : (f : Format) (x y : Float) → HasValue x s A D → HasValue y t B E → mul f x y ≡ round f (unlike s t) (A * B) (D * E)
  unfolding mul
  mul_value f nan y p q = absurd p
  mul_value f (inf i) y p q = absurd p
  mul_value f (fin i m e) nan p q = absurd q
  mul_value f (fin i m e) (inf j) p q = absurd q
  mul_value f (fin i m e) (fin j n d) p q =
      (λ w. round f (unlike (p.0 w) (q.0 w)) (m * up e * (n * up d)) (down e * down d))
      ∙ round_same f (unlike s t) (m * up e * (n * up d)) (down e * down d) (A * B) (D * E) (mul-pos (down_pos e) (down_pos d)) (mul-pos P Q) (cross A B D E (m * up e) (n * up d) (down e) (down d) p.1 q.1)

  pub product_value : (x y : Float) → HasValue x s A D → HasValue y t B E → HasValue (product x y) (unlike s t) (A * B) (D * E)
  unfolding product
  product_value nan y p q = absurd p
  product_value (inf i) y p q = absurd p
  product_value (fin i m e) nan p q = absurd q
  product_value (fin i m e) (inf j) p q = absurd q
  product_value (fin i m e) (fin j n d) p q = (
    λ w. unlike (p.0 w) (q.0 w),
    eq_of_mul-eq-mul_right (down e * down d) (mul-pos (down_pos e) (down_pos d)) (m * n * up (e +ℤ d) * (D * E)) (A * B * down (e +ℤ d))
        (first m n (up (e +ℤ d)) (D * E) (down e * down d)
        ∙ ap (λ (i : ℕ). m * n * (D * E) * i) (up_add e d)
        ∙ second m n (D * E) (up e) (up d) (down (e +ℤ d))
        ∙ ap (λ (i : ℕ). i * down (e +ℤ d)) (cross A B D E (m * up e) (n * up d) (down e) (down d) p.1 q.1)
        ∙ mul_right_comm (A * B) (down e * down d) (down (e +ℤ d))),
  )
    where
      first : (m n u D d : ℕ) → m * n * u * D * d ≡ m * n * D * (u * d)
      first m n u D d = simp (mul_assoc, mul_comm, mul_left_comm)

      second : (m n D u v w : ℕ) → m * n * D * (u * v * w) ≡ m * u * (n * v) * D * w
      second m n D u v w = simp (mul_assoc, mul_comm, mul_left_comm)

pub add_value : (f : Format) (s t : Bool) (A B E : ℕ) → 0 < E → (x y : Float) → HasValue x s A E → HasValue y t B E → add f x y ≡ sum f s A t B E
unfolding add
add_value f s t A B E P nan y p q = absurd p
add_value f s t A B E P (inf i) y p q = absurd p
add_value f s t A B E P (fin i m e) nan p q = absurd q
add_value f s t A B E P (fin i m e) (inf j) p q = absurd q
add_value f s t A B E P (fin i m e) (fin j n d) p q =
    (λ w. sum f (p.0 w) (m * up e * down d) (q.0 w) (n * up d * down e) (down e * down d))
    ∙ sum_same f s t (m * up e * down d) (n * up d * down e) (down e * down d) A B E (mul-pos (down_pos e) (down_pos d)) P (left (m * up e) (down e) (down d) p.1) (right (n * up d) (down e) (down d) q.1)
  where
    left : (M F G : ℕ) → M * E ≡ A * F → M * G * E ≡ A * (F * G)
    left M F G h = mul_right_comm M G E ∙ ap (λ (i : ℕ). i * G) h ∙ mul_assoc A F G

    right : (N F G : ℕ) → N * E ≡ B * G → N * F * E ≡ B * (F * G)
    right N F G h = mul_right_comm N F E ∙ ap (λ (i : ℕ). i * F) h ∙ mul_assoc B G F ∙ ap (λ (i : ℕ). B * i) (mul_comm G F)

-- ---- zero rounds to zero
pub round_zero : (f : Format) (s : Bool) (den : ℕ) → 0 < den → HasValue (round f s 0 den) s 0 den
round_zero f s den D = round_exact f s 0 den 0 0 D (pow_pos (prec f)) (pow_pos (low f + suc (emax f))) (zero-mul (2 ^ low f) ∙ sym (zero-mul den))

pub round_zeros : (f : Format) (s : Bool) (den d e G : ℕ) → 0 < den → d ≡ 0 → round f s 0 den ≡ round f s (d * e) (2 ^ G)
round_zeros f s den d e G D h = round_same f s 0 den (d * e) (2 ^ G) D (pow_pos G) (zero-mul (2 ^ G) ∙ sym (ap (λ (x : ℕ). x * e * den) h ∙ ap (λ (x : ℕ). x * den) (zero-mul e) ∙ zero-mul den))

-- ---- `fused` by the values
module _ (f : Format) (s t u : Bool) (A B C D E : ℕ) (P : 0 < D) (Q : 0 < E) (x y z : Float) (p : HasValue x s A D) (q : HasValue y t B E) (r : HasValue z u C (D * E)) where
  pub fused_value : fused f x y z ≡ sum f (unlike s t) (A * B) u C (D * E)
  unfolding fused
  fused_value = add_value f (unlike s t) u (A * B) C (D * E) (mul-pos P Q) (product x y) z (product_value s t A B D E P Q x y p q) r

  -- a product that is exact
  pub fused_exact : HasValue (round f (unlike s t) (A * B) (D * E)) (unlike s t) (A * B) (D * E) → add f (mul f x y) z ≡ fused f x y z
  fused_exact h =
      add_value f (unlike s t) u (A * B) C (D * E) (mul-pos P Q) (mul f x y) z (subst (λ (v : Float). HasValue v (unlike s t) (A * B) (D * E)) (sym (mul_value s t A B D E P Q f x y p q)) h) r
      ∙ sym fused_value

  -- a product that is zero
  pub fused_zero : A * B ≡ 0 → add f (mul f x y) z ≡ fused f x y z
  fused_zero h = fused_exact (subst (λ (i : ℕ). HasValue (round f (unlike s t) i (D * E)) (unlike s t) i (D * E)) (sym h) (round_zero f (unlike s t) (D * E) (mul-pos P Q)))

-- of numbers taken apart, the first in units of 2 ^ -a, the others of 2 ^ -b
module _ (f : Format) (s t u : Bool) (l m n i j k a b : ℕ) (x y z : Float) (p : HasValue x s (l * 2 ^ i) (2 ^ a)) (q : HasValue y t (m * 2 ^ j) (2 ^ b)) (r : HasValue z u (n * 2 ^ k) (2 ^ b)) where
  third : HasValue z u (n * 2 ^ (k + a)) (2 ^ a * 2 ^ b)
  third =
      rescale z u (n * 2 ^ k) (2 ^ b) (n * 2 ^ (k + a)) (2 ^ a * 2 ^ b) (pow_pos b)
      (ap (λ (i : ℕ). n * i * 2 ^ b) (pow-add 2 k a) ∙ ap (λ (i : ℕ). i * 2 ^ b) (sym (mul_assoc n (2 ^ k) (2 ^ a))) ∙ mul_assoc (n * 2 ^ k) (2 ^ a) (2 ^ b)) r

  product_is : l * 2 ^ i * (m * 2 ^ j) ≡ l * m * 2 ^ (i + j)
  product_is = group l m (2 ^ i) (2 ^ j) ∙ ap (λ (w : ℕ). l * m * w) (sym (pow-add 2 i j))
    where
      group : (l m v w : ℕ) → l * v * (m * w) ≡ l * m * (v * w)
      group l m v w = simp (mul_assoc, mul_comm, mul_left_comm)

  pub fused-parts : sum f (unlike s t) (l * m * 2 ^ (i + j)) u (n * 2 ^ (k + a)) (2 ^ (a + b)) ≡ fused f x y z
  fused-parts =
      ap (λ (w : ℕ). sum f (unlike s t) (l * m * 2 ^ (i + j)) u (n * 2 ^ (k + a)) w) (pow-add 2 a b)
      ∙ ap (λ (w : ℕ). sum f (unlike s t) w u (n * 2 ^ (k + a)) (2 ^ a * 2 ^ b)) (sym product_is)
      ∙ sym (fused_value f s t u (l * 2 ^ i) (m * 2 ^ j) (n * 2 ^ (k + a)) (2 ^ a) (2 ^ b) (pow_pos a) (pow_pos b) x y z p q third)

  pub fused_none : l * m ≡ 0 → add f (mul f x y) z ≡ fused f x y z
  fused_none h =
      fused_zero f s t u (l * 2 ^ i) (m * 2 ^ j) (n * 2 ^ (k + a)) (2 ^ a) (2 ^ b) (pow_pos a) (pow_pos b) x y z p q third
      (product_is ∙ ap (λ (w : ℕ). w * 2 ^ (i + j)) h ∙ zero-mul (2 ^ (i + j)))

  -- where the first is a power of two, the product is the second, moved
  pub fused-power : (d : ℕ) → l * 2 ^ i ≡ 2 ^ d → a ≡ 0 → b ≡ low f → m < 2 ^ prec f → m * 2 ^ (d + j) < 2 ^ (low f + suc (emax f)) → add f (mul f x y) z ≡ fused f x y z
  fused-power d e o w short under =
      fused_exact f s t u (l * 2 ^ i) (m * 2 ^ j) (n * 2 ^ (k + a)) (2 ^ a) (2 ^ b) (pow_pos a) (pow_pos b) x y z p q third
      (round_exact f (unlike s t) (l * 2 ^ i * (m * 2 ^ j)) (2 ^ a * 2 ^ b) m (d + j) (mul-pos (pow_pos a) (pow_pos b)) short under
      (ap (λ (v : ℕ). v * (m * 2 ^ j) * 2 ^ low f) e
      ∙ moved (2 ^ d) m (2 ^ j) (2 ^ low f)
      ∙ ap (λ (v : ℕ). m * v * (1 * 2 ^ low f)) (sym (pow-add 2 d j))
      ∙ ap (λ (v : ℕ). m * 2 ^ (d + j) * (1 * 2 ^ v)) (sym w)
      ∙ ap (λ (v : ℕ). m * 2 ^ (d + j) * (2 ^ v * 2 ^ b)) (sym o)))
    where
      moved : (D m J L : ℕ) → D * (m * J) * L ≡ m * (D * J) * (1 * L)
      moved D m J L = ap (λ (v : ℕ). v * L) (mul_left_comm D m J) ∙ ap (λ (v : ℕ). m * (D * J) * v) (sym (one-mul L))

-- ---- a whole number as an `f64`, and a product of two numbers' digits
pub wide_value : (n : ℕ) → n ≤ 2 ^ 53 → HasValue (wide n) false (n * 2 ^ 0) (2 ^ 0)
unfolding wide of_int
wide_value n h = subst (λ (a : ℕ). HasValue (round binary64 false n 1) false a 1) (sym (mul-one n)) (round_whole binary64 false n h)

pub wide-held : (n : ℕ) → n ≤ 1024 → T (in_float binary64 (pos n))
unfolding in_float
wide-held n h = le→leb n (2 ^ 53) (le_trans h (lit≤ tt))

pub wide_finite : (n : ℕ) → n ≤ 2 ^ 53 → finite (wide n) ≡ true
wide_finite n h = go (wide n) (wide_value n h)
  where
    go : (x : Float) → HasValue x false (n * 2 ^ 0) (2 ^ 0) → finite x ≡ true
    go nan v = absurd v
    go (inf s) v = absurd v
    go (fin s m e) v = refl

pub digits_lt : (a b m n : ℕ) → m ≤ 2 ^ a → n < 2 ^ b → m * n < 2 ^ (a + b)
digits_lt a b m n h k =
    lt_of_le_of_lt (mul-le-mul_right n h) (subst (λ (x : ℕ). 2 ^ a * n < x) (sym (pow-add 2 a b)) (subst (λ (x : ℕ). x < 2 ^ a * 2 ^ b) (mul_comm n (2 ^ a)) (subst (λ (x : ℕ). n * 2 ^ a < x) (mul_comm (2 ^ b) (2 ^ a)) (mul-lt-mul_of_pos_right k (pow_pos a)))))

-- ---- with an operand that is no finite number
pub fused-left : (f : Format) (x y z : Float) → finite x ≡ false → add f (mul f x y) z ≡ fused f x y z
unfolding fused product mul
fused-left f nan y z h = refl
fused-left f (inf s) nan z h = refl
fused-left f (inf s) (inf t) z h = refl
fused-left f (inf s) (fin t n d) z h = refl
fused-left f (fin s m e) y z h = absurd (true≢false h)

pub fused_middle : (f : Format) (x y z : Float) → finite x ≡ true → finite y ≡ false → add f (mul f x y) z ≡ fused f x y z
unfolding fused product mul
fused_middle f nan y z h k = absurd (false≢true h)
fused_middle f (inf s) y z h k = absurd (false≢true h)
fused_middle f (fin s m e) nan z h k = refl
fused_middle f (fin s m e) (inf t) z h k = refl
fused_middle f (fin s m e) (fin t n d) z h k = absurd (true≢false k)

pub fused_right : (f : Format) (x y z : Float) → finite x ≡ true → finite y ≡ true → finite z ≡ false → z ≡ fused f x y z
unfolding fused product add
fused_right f nan y z h k l = absurd (false≢true h)
fused_right f (inf s) y z h k l = absurd (false≢true h)
fused_right f (fin s m e) nan z h k l = absurd (false≢true k)
fused_right f (fin s m e) (inf t) z h k l = absurd (false≢true k)
fused_right f (fin s m e) (fin t n d) nan h k l = refl
fused_right f (fin s m e) (fin t n d) (inf u) h k l = refl
fused_right f (fin s m e) (fin t n d) (fin u v g) h k l = absurd (true≢false l)

-- ---- the result is a value of the format
pub fused_fits : (f : Format) (x y z : Float) → T (fits f (fused f x y z))
unfolding fused
fused_fits f x y z = add-fits f (product x y) z
