-- `lib.Ieee.sum` as one rounding, by the values of its operands; and a sum of which the smaller operand was cut, with what was cut left as a last bit (`Added`): it rounds as the exact sum does. Over either format. Assumes nothing.
use mathlib.Core.Path.{◌≡◌, refl, sym, ap, ◌∙◌, subst}
use mathlib.Core.Logic.{◌⊎◌, inl, inr}
use mathlib.Core.Bool.{Bool, true, false, ◌&&◌, beq, cond}
use Prim.Native.Nat.{ℕ, suc, ◌+◌, ◌-◌, ◌*◌, ◌/◌, ◌%◌, ◌^◌, ◌≤◌, ◌<◌}
use native.Mathlib.Nat.{le_trans, le_of_eq, le_of_lt, lt_of_mul-lt-mul_right, le_of_mul-le-mul_right, add_comm, add-mul, suc-mul, mul-pos, mul-one, mul_comm, mul_assoc, mul_left_comm, mul_right_comm, mul-sub, mul-le-mul_left, mul-le-mul_right, mul-lt-mul_of_pos_right, eq_of_mul-eq-mul_right, sub-add_cancel, div-add-mod', mul-mod_left}
use native.Mathlib.Omega.{arith}
use lib.Dec.{ltb}
use borrow.Author.Tests.{ltb-true, ltb-false, lt-ltb, le-ltb}
use lib.Pow.{pow-add, pow_pos, pow_mono}
use lib.Ieee.{Format, prec, low, hid, round, sum}
use lib.Ieee.Fits.{two}
use lib.Ieee.Scale.{round_same}
use Rattle.rounding_laws.specs.Total.{total_sign, total_size}
use Rattle.rounding_laws.specs.Stuck.{Stuck, Added, extra}
use Rattle.rounding_laws.proofs.Powers.{or_less}
use Rattle.rounding_laws.proofs.Pack.{most_digits}
use Rattle.rounding_laws.proofs.Sticky.{sticky_round}
use Rattle.rounding_laws.proofs.Lead.{shifted_back}

-- ---- a sum is one rounding, whose sign and size do not depend on the format
pub sum_once : (f : Format) (s : Bool) (a : ℕ) (t : Bool) (b c : ℕ) → sum f s a t b c ≡ round f (total_sign s a t b) (total_size (beq s t) a b) c
unfolding sum
sum_once f s a t b c = go (beq s t) (ltb a b) refl
  where
    go : (i j : Bool) → ltb a b ≡ j
        → cond i (round f s (a + b) c) (cond j (round f t (b - a) c) (round f (s && ltb b a) (a - b) c)) ≡ round f (cond i s (cond j t (s && ltb b a))) (cond i (a + b) (a - b + (b - a))) c
    go true j e = refl
    go false true e = let h = ltb-true a b e in ap (λ (x : ℕ). round f t x c) (omega arith)
    go false false e = let h = ltb-false a b e in ap (λ (x : ℕ). round f (s && ltb b a) x c) (omega arith)

-- ---- sign and size by the values: a / c is a' / c', and b / c is b' / c'
pub sub_mul : (a b c : ℕ) → (a - b) * c ≡ a * c - b * c
sub_mul a b c = mul_comm (a - b) c ∙ mul-sub c a b ∙ ap (λ (x : ℕ). x - c * b) (mul_comm c a) ∙ ap (λ (x : ℕ). a * c - x) (mul_comm c b)

pub total_multiple : (like : Bool) (a b c' c a' b' : ℕ) → a * c' ≡ a' * c → b * c' ≡ b' * c → total_size like a b * c' ≡ total_size like a' b' * c
total_multiple true a b c' c a' b' p q = add-mul a b c' ∙ ap (λ (x : ℕ). x + b * c') p ∙ ap (λ (x : ℕ). a' * c + x) q ∙ sym (add-mul a' b' c)
total_multiple false a b c' c a' b' p q = omega (arith, add-mul (a - b) (b - a) c', add-mul (a' - b') (b' - a') c, sub_mul a b c', sub_mul b a c', sub_mul a' b' c, sub_mul b' a' c, p, q)

module _ (a b c a' b' c' : ℕ) (C : 0 < c) (C' : 0 < c') (p : a * c' ≡ a' * c) (q : b * c' ≡ b' * c) where
  less : a < b → a' < b'
  less h = lt_of_mul-lt-mul_right c (subst (λ (z : ℕ). z < b' * c) p (subst (λ (z : ℕ). a * c' < z) q (mul-lt-mul_of_pos_right h C')))

  no_less : b ≤ a → b' ≤ a'
  no_less h = le_of_mul-le-mul_right (subst (λ (z : ℕ). b' * c ≤ z) p (subst (λ (z : ℕ). z ≤ a * c') q (mul-le-mul_right c' h))) C

  ltb_same : ltb a b ≡ ltb a' b'
  ltb_same = go (ltb a b) refl
    where
      go : (i : Bool) → ltb a b ≡ i → i ≡ ltb a' b'
      go true e = sym (lt-ltb a' b' (less (ltb-true a b e)))
      go false e = sym (le-ltb a' b' (no_less (ltb-false a b e)))

pub sign_same : (s t : Bool) (a b c a' b' c' : ℕ) → 0 < c → 0 < c' → a * c' ≡ a' * c → b * c' ≡ b' * c → total_sign s a t b ≡ total_sign s a' t b'
sign_same s t a b c a' b' c' C C' p q =
    ap (λ (x : Bool). cond (beq s t) s (cond x t (s && ltb b a))) (ltb_same a b c a' b' c' C C' p q)
    ∙ ap (λ (x : Bool). cond (beq s t) s (cond (ltb a' b') t (s && x))) (ltb_same b a c b' a' c' C C' q p)

pub sum_same : (f : Format) (s t : Bool) (a b c a' b' c' : ℕ) → 0 < c → 0 < c' → a * c' ≡ a' * c → b * c' ≡ b' * c → sum f s a t b c ≡ sum f s a' t b' c'
sum_same f s t a b c a' b' c' C C' p q =
    sum_once f s a t b c
    ∙ ap (λ (x : Bool). round f x (total_size (beq s t) a b) c) (sign_same s t a b c a' b' c' C C' p q)
    ∙ round_same f (total_sign s a' t b') (total_size (beq s t) a b) c (total_size (beq s t) a' b') c' C C' (total_multiple (beq s t) a b c' c a' b' p q)
    ∙ sym (sum_once f s a' t b' c')

-- ---- and either way round
pub sum_comm : (f : Format) (s t : Bool) (a b c : ℕ) → sum f s a t b c ≡ sum f t b s a c
sum_comm f s t a b c =
    sum_once f s a t b c
    ∙ ap (λ (x : Bool). round f x (total_size (beq s t) a b) c) (signs s t (ltb a b) (ltb b a) refl refl)
    ∙ ap (λ (x : ℕ). round f (total_sign t b s a) x c) (ap (λ (x : Bool). total_size x a b) (beq_comm s t) ∙ sizes (beq t s))
    ∙ sym (sum_once f t b s a c)
  where
    beq_comm : (s t : Bool) → beq s t ≡ beq t s
    beq_comm true true = refl
    beq_comm true false = refl
    beq_comm false true = refl
    beq_comm false false = refl

    sizes : (like : Bool) → total_size like a b ≡ total_size like b a
    sizes true = add_comm a b
    sizes false = add_comm (a - b) (b - a)

    never : ltb a b ≡ true → ltb b a ≡ true → ⊥
    never h k = omega (arith, ltb-true a b h, ltb-true b a k)

    signs : (s t i j : Bool) → ltb a b ≡ i → ltb b a ≡ j → cond (beq s t) s (cond i t (s && j)) ≡ cond (beq t s) t (cond j s (t && i))
    signs true true i j h k = refl
    signs false false i j h k = refl
    signs true false true true h k = absurd (never h k)
    signs true false true false h k = refl
    signs true false false true h k = refl
    signs true false false false h k = refl
    signs false true true true h k = absurd (never h k)
    signs false true true false h k = refl
    signs false true false true h k = refl
    signs false true false false h k = refl

-- ---- `Stuck`: of an equal fraction; itself where the fraction is whole; and no smaller than a whole number below the fraction
pub stuck_scale : (v a b a' b' : ℕ) → 0 < b → 0 < b' → a * b' ≡ a' * b → Stuck v a b → Stuck v a' b'
stuck_scale v a b a' b' B B' e (inl h) = inl (eq_of_mul-eq-mul_right b B (v * b') a' (mul_right_comm v b' b ∙ ap (λ (x : ℕ). x * b') h ∙ e))
stuck_scale v a b a' b' B B' e (inr w) = inr (
  w.0,
  lt_of_mul-lt-mul_right b (omega (arith, mul-lt-mul_of_pos_right w.1 B', mul_right_comm v b b', add-mul a b b', add-mul a' b' b, mul_comm b b')),
  lt_of_mul-lt-mul_right b (omega (arith, mul-lt-mul_of_pos_right w.2 B', mul_right_comm v b b', add-mul (v * b) b b', add-mul (v * b') b' b, mul_comm b b')),
)

pub stuck_whole : (v a b w : ℕ) → a ≡ w * b → Stuck v a b → v * b ≡ a
stuck_whole v a b w e (inl h) = h
stuck_whole v a b w e (inr h) =
    let l : v < suc w = lt_of_mul-lt-mul_right b (omega (arith, suc-mul w b)) in
    let g : w < suc v = lt_of_mul-lt-mul_right b (omega (arith, suc-mul v b)) in
    ap (λ (x : ℕ). x * b) (same v w l g) ∙ sym e
  where
    same : (v w : ℕ) → v < suc w → w < suc v → v ≡ w
    same v w l g = omega arith

pub stuck_ge : (v a b w : ℕ) → 0 < b → w * b ≤ a → Stuck v a b → w ≤ v
stuck_ge v a b w B h (inl e) = le_of_mul-le-mul_right (le_trans h (le_of_eq (sym e))) B
stuck_ge v a b w B h (inr e) = under v w (lt_of_mul-lt-mul_right b (omega (arith, suc-mul v b)))
  where
    under : (v w : ℕ) → w < suc v → w ≤ v
    under v w h = omega arith

-- ---- the law
-- What makes an `Added` sum round right in a format of p digits: nothing is cut of y; or what is cut is far below the format's smallest value, for an e up to l; or x is long, and a difference cuts nothing of y or leaves half of x
abbrev Far : ℕ → ℕ → ℕ → ℕ → ℕ → ℕ → Type 0
Far p l x y e g = (y % 2 ^ (e - g) ≡ 0) ⊎ ((e ≤ l) ⊎ ((2 ^ (p + 1) ≤ x) × ((y * 2 % 2 ^ (e - g) ≡ 0) ⊎ (y * 2 ≤ x * 2 ^ (e - g)))))

-- why it is right, in units of b = 2 ^ k, doubled for like signs
module _ (p l x y e g low C d : ℕ) (L : l + 2 + low ≤ C) where
  abbrev k : ℕ
  k = e - g

  abbrev b : Bool → ℕ
  b like = 2 ^ (k + extra like)

  abbrev N : Bool → ℕ
  N like = total_size like (x * 2 ^ k) y * 2

  abbrev Right : Bool → Type 0
  Right like = (d * b like ≡ N like) ⊎ ((e + extra like + 2 + low ≤ C + 1) ⊎ (2 ^ (p + 1) ≤ d))

  doubled : b true ≡ 2 ^ k * 2
  doubled = pow-add 2 k 1

  plain : b false ≡ 2 ^ k
  plain = ap (λ (i : ℕ). 2 ^ i) (none k)
    where
      none : (k : ℕ) → k + 0 ≡ k
      none k = omega arith

  split : (u : ℕ) → u % 2 ^ k ≡ 0 → u ≡ u / 2 ^ k * 2 ^ k
  split u z = let h = div-add-mod' u (2 ^ k) in omega arith

  -- a difference of which twice the smaller is whole
  whole_apart : y * 2 % 2 ^ k ≡ 0 → N false ≡ (x * 2 - y * 2 / 2 ^ k + (y * 2 / 2 ^ k - x * 2)) * b false
  whole_apart z =
      let r = y * 2 / 2 ^ k in
      let h = split (y * 2) z in
      let m = sub_mul (x * 2) r (2 ^ k) in
      let n = sub_mul r (x * 2) (2 ^ k) in
      let o = add-mul (x * 2 - r) (r - x * 2) (2 ^ k) in
      let w = mul_right_comm x 2 (2 ^ k) in
      rw plain (omega arith)

  whole_sum : y % 2 ^ k ≡ 0 → N true ≡ (x + y / 2 ^ k) * b true
  whole_sum z =
      let r = y / 2 ^ k in
      let h = split y z in
      rw doubled (ap (λ (i : ℕ). (x * 2 ^ k + i) * 2) h ∙ ap (λ (i : ℕ). i * 2) (sym (add-mul x r (2 ^ k))) ∙ mul_assoc (x + r) (2 ^ k) 2)

  twice : y % 2 ^ k ≡ 0 → y * 2 % 2 ^ k ≡ 0
  twice z = ap (λ (i : ℕ). i * 2 % 2 ^ k) (split y z) ∙ ap (λ (i : ℕ). i % 2 ^ k) (mul_right_comm (y / 2 ^ k) (2 ^ k) 2) ∙ mul-mod_left (y / 2 ^ k * 2) (2 ^ k)

  long_sum : x * b true ≤ N true
  long_sum = rw doubled (omega (arith, mul_assoc x (2 ^ k) 2))

  long_apart : y * 2 ≤ x * 2 ^ k → x * b false ≤ N false
  long_apart h = rw plain (omega arith)

  right : (like : Bool) → Far p l x y e g → Stuck d (N like) (b like) → Right like
  right true (inl z) st = inl (stuck_whole d (N true) (b true) (x + y / 2 ^ k) (whole_sum z) st)
  right false (inl z) st = inl (stuck_whole d (N false) (b false) (x * 2 - y * 2 / 2 ^ k + (y * 2 / 2 ^ k - x * 2)) (whole_apart (twice z)) st)
  right true (inr (inl z)) st = inr (inl (omega arith))
  right false (inr (inl z)) st = inr (inl (omega arith))
  right true (inr (inr z)) st = inr (inr (le_trans z.0 (stuck_ge d (N true) (b true) x (pow_pos (k + 1)) long_sum st)))
  right false (inr (inr (X, inl z))) st = inl (stuck_whole d (N false) (b false) (x * 2 - y * 2 / 2 ^ k + (y * 2 / 2 ^ k - x * 2)) (whole_apart z) st)
  right false (inr (inr (X, inr z))) st = inr (inr (le_trans X (stuck_ge d (N false) (b false) x (pow_pos (k + 0)) (long_apart z) st)))

-- x * 2 ^ e and y * 2 ^ g over 2 ^ C
pub added_sum : (f : Format) (s t n : Bool) (x y e g C l d u : ℕ) → g ≤ e → l + 2 + low f ≤ C → Far (prec f) l x y e g → Added s x e t y g n d u
    → round f n (d * 2 ^ u) (2 ^ (C + 1)) ≡ sum f s (x * 2 ^ e) t (y * 2 ^ g) (2 ^ C)
added_sum f s t n x y e g C l d u G L far A =
    ap (λ (i : ℕ). round f n (d * 2 ^ i) (2 ^ (C + 1))) A.unit
    ∙ ap (λ (i : Bool). round f i (d * 2 ^ (e + extra like)) (2 ^ (C + 1))) A.sign
    ∙ sym (sticky_round f (total_sign s (x * 2 ^ k) t y) (size * 2 ^ g) (2 ^ C) d (e + extra like) (C + 1) (pow_pos C)
    (stuck_scale d (size * 2) (2 ^ (k + extra like)) (size * 2 ^ g * 2 ^ (C + 1)) (2 ^ C * 2 ^ (e + extra like)) (pow_pos (k + extra like)) (mul-pos (pow_pos C) (pow_pos (e + extra like))) units A.stands)
    (scaled (right (prec f) l x y e g (low f) C d L like far A.stands)))
    ∙ sym (sum_once f s (x * 2 ^ k * 2 ^ g) t (y * 2 ^ g) (2 ^ C)
    ∙ ap (λ (i : Bool). round f i (total_size like (x * 2 ^ k * 2 ^ g) (y * 2 ^ g)) (2 ^ C)) (sign_same s t (x * 2 ^ k * 2 ^ g) (y * 2 ^ g) (2 ^ g) (x * 2 ^ k) y 1 (pow_pos g) (pow_pos 0) (mul-one (x * 2 ^ k * 2 ^ g)) (mul-one (y * 2 ^ g)))
    ∙ ap (λ (i : ℕ). round f (total_sign s (x * 2 ^ k) t y) i (2 ^ C)) (sym (mul-one (total_size like (x * 2 ^ k * 2 ^ g) (y * 2 ^ g))) ∙ total_multiple like (x * 2 ^ k * 2 ^ g) (y * 2 ^ g) 1 (2 ^ g) (x * 2 ^ k) y (mul-one (x * 2 ^ k * 2 ^ g)) (mul-one (y * 2 ^ g))))
    ∙ ap (λ (i : ℕ). sum f s i t (y * 2 ^ g) (2 ^ C)) (mul_assoc x (2 ^ k) (2 ^ g) ∙ ap (λ (i : ℕ). x * i) (sym (pow-add 2 k g) ∙ ap (λ (i : ℕ). 2 ^ i) (sub-add_cancel G)))
  where
    k : ℕ
    k = e - g

    like : Bool
    like = beq s t

    size : ℕ
    size = total_size like (x * 2 ^ k) y

    units : size * 2 * (2 ^ C * 2 ^ (e + extra like)) ≡ size * 2 ^ g * 2 ^ (C + 1) * 2 ^ (k + extra like)
    units =
        let i : 2 ^ (C + 1) ≡ 2 ^ C * 2 = pow-add 2 C 1 in
        let j : 2 ^ (e + extra like) ≡ 2 ^ g * 2 ^ (k + extra like) = ap (λ (z : ℕ). 2 ^ z) (sums g e (extra like) G) ∙ pow-add 2 g (k + extra like) in
        ap (λ (z : ℕ). size * 2 * (2 ^ C * z)) j ∙ regroup size (2 ^ C) (2 ^ g) (2 ^ (k + extra like)) ∙ ap (λ (z : ℕ). size * 2 ^ g * z * 2 ^ (k + extra like)) (sym i)
      where
        sums : (g e i : ℕ) → g ≤ e → e + i ≡ g + (e - g + i)
        sums g e i h = omega arith

        regroup : (a c g b : ℕ) → a * 2 * (c * (g * b)) ≡ a * g * (c * 2) * b
        regroup a c g b = simp (mul_assoc, mul_comm, mul_left_comm)

    scaled : (d * 2 ^ (k + extra like) ≡ size * 2) ⊎ ((e + extra like + 2 + low f ≤ C + 1) ⊎ (2 ^ (prec f + 1) ≤ d))
        → (d * (2 ^ C * 2 ^ (e + extra like)) ≡ size * 2 ^ g * 2 ^ (C + 1)) ⊎ ((e + extra like + 2 + low f ≤ C + 1) ⊎ (2 ^ (prec f + 1) ≤ d))
    scaled (inr h) = inr h
    scaled (inl h) = inl (eq_of_mul-eq-mul_right (2 ^ (k + extra like)) (pow_pos (k + extra like)) (d * (2 ^ C * 2 ^ (e + extra like))) (size * 2 ^ g * 2 ^ (C + 1))
        (mul_right_comm d (2 ^ C * 2 ^ (e + extra like)) (2 ^ (k + extra like)) ∙ ap (λ (z : ℕ). z * (2 ^ C * 2 ^ (e + extra like))) h ∙ units))

-- ---- two numbers with their highest bits at 62, or a subnormal n below that
-- a multiple of 2 ^ a is one of 2 ^ d, for a d of at most a
divides : (n a d : ℕ) → d ≤ a → n * 2 ^ a % 2 ^ d ≡ 0
divides n a d h =
    ap (λ (x : ℕ). n * x % 2 ^ d) (ap (λ (x : ℕ). 2 ^ x) (sym (sub-add_cancel h)) ∙ pow-add 2 (a - d) d) ∙ ap (λ (x : ℕ). x % 2 ^ d) (sym (mul_assoc n (2 ^ (a - d)) (2 ^ d))) ∙ mul-mod_left (n * 2 ^ (a - d)) (2 ^ d)

-- y is at most half of x * 2 ^ d
beside : (x y d : ℕ) → 2 ^ 62 ≤ x → y < 2 ^ 63 → 2 ≤ d → y * 2 ≤ x * 2 ^ d
beside x y d X Y h = le_trans (four x y X Y) (mul-le-mul_left x (pow_mono h))
  where
    four : (x y : ℕ) → 2 ^ 62 ≤ x → y < 2 ^ 63 → y * 2 ≤ x * 2 ^ 2
    four x y X Y = omega arith

long : (p x : ℕ) → p ≤ 61 → 2 ^ 62 ≤ x → 2 ^ (p + 1) ≤ x
long p x h X = le_trans (pow_mono (more p h)) X
  where
    more : (p : ℕ) → p ≤ 61 → p + 1 ≤ 62
    more p h = omega arith

module _ (f : Format) (D m n z i j h : ℕ) (P : prec f + h ≡ 63) (X : 2 ^ 62 ≤ m * 2 ^ z) (X' : m * 2 ^ z < 2 ^ 63) (Y : n * 2 ^ h < 2 ^ 63) (Z : z ≤ 62) where
  abbrev x : ℕ
  x = m * 2 ^ z

  abbrev y : ℕ
  y = n * 2 ^ h

  abbrev e : ℕ
  e = i + 64 - z

  abbrev g : ℕ
  g = j + 64 - h

  room : (2 ≤ h) × (h ≤ 61)
  room = (omega (arith, most_digits f), omega (arith, two f))

  -- n may be cut
  far_n : Far (prec f) (D + 62 - low f) x y e g
  far_n = elim (or_less (e - g) h) [
    | inl k ↦ inl (divides n h (e - g) k)
    | inr k ↦ inr (inr (long (prec f) x (most_digits f) X, inr (beside x y (e - g) X Y (omega (arith, room)))))
  ]

  -- m may
  far_m : e < g → (hid f ≤ n) ⊎ (j + 2 + low f ≤ D + h) → Far (prec f) (D + 62 - low f) y x g e
  far_m k (inr s) = inr (inl (under j h D (low f) s))
    where
      under : (j h D l : ℕ) → j + 2 + l ≤ D + h → j + 64 - h ≤ D + 62 - l
      under j h D l s = omega arith
  far_m k (inl s) = elim (or_less (g - e) 1) [
    | inl o ↦ inr (inr (long (prec f) y (most_digits f) up_to, inl (subst (λ (d : ℕ). x * 2 % 2 ^ d ≡ 0) (one (g - e) o (omega arith)) (mul-mod_left x 2))))
    | inr o ↦ inr (inr (long (prec f) y (most_digits f) up_to, inr (beside y x (g - e) up_to X' (omega arith))))
  ]
    where
      one : (d : ℕ) → d ≤ 1 → 0 < d → 1 ≡ d
      one d h k = omega arith

      at : (p h : ℕ) → p + h ≡ 63 → 2 ≤ p → p - 1 + h ≡ 62
      at p h e k = omega arith

      up_to : 2 ^ 62 ≤ y
      up_to = le_trans (le_of_eq (ap (λ (d : ℕ). 2 ^ d) (sym (at (prec f) h P (two f))) ∙ pow-add 2 (prec f - 1) h)) (mul-le-mul_right (2 ^ h) s)

  units : (s t : Bool) → sum f s (x * 2 ^ e) t (y * 2 ^ g) (2 ^ (D + 64)) ≡ sum f s (m * 2 ^ i) t (n * 2 ^ j) (2 ^ D)
  units s t =
      sum_same f s t (x * 2 ^ e) (y * 2 ^ g) (2 ^ (D + 64)) (m * 2 ^ i) (n * 2 ^ j) (2 ^ D) (pow_pos (D + 64)) (pow_pos D) (back m z i (omega arith)) (back n h j (omega (arith, room)))
    where
      back : (m z i : ℕ) → z ≤ i + 64 → m * 2 ^ z * 2 ^ (i + 64 - z) * 2 ^ D ≡ m * 2 ^ i * 2 ^ (D + 64)
      back m z i h = ap (λ (x : ℕ). x * 2 ^ D) (shifted_back m z i 64 h) ∙ mul_assoc (m * 2 ^ i) (2 ^ 64) (2 ^ D) ∙ ap (λ (x : ℕ). m * 2 ^ i * x) (mul_comm (2 ^ 64) (2 ^ D) ∙ sym (pow-add 2 D 64))

  next : (neg : Bool) (d u : ℕ) → round f neg (d * 2 ^ u) (2 ^ (D + 65)) ≡ round f neg (d * 2 ^ u) (2 ^ (D + 64 + 1))
  next neg d u = ap (λ (x : ℕ). round f neg (d * 2 ^ u) (2 ^ x)) (one D)
    where
      one : (D : ℕ) → D + 65 ≡ D + 64 + 1
      one D = omega arith

  under : (D l : ℕ) → l ≤ D → D + 62 - l + 2 + l ≤ D + 64
  under D l h = omega arith

  pub sums_n : (s t neg : Bool) (d u : ℕ) → low f ≤ D → g ≤ e → Added s x e t y g neg d u → round f neg (d * 2 ^ u) (2 ^ (D + 65)) ≡ sum f s (m * 2 ^ i) t (n * 2 ^ j) (2 ^ D)
  sums_n s t neg d u L k A = next neg d u ∙ added_sum f s t neg x y e g (D + 64) (D + 62 - low f) d u k (under D (low f) L) far_n A ∙ units s t

  pub sums_m : (s t neg : Bool) (d u : ℕ) → low f ≤ D → e < g → (hid f ≤ n) ⊎ (j + 2 + low f ≤ D + h) → Added t y g s x e neg d u → round f neg (d * 2 ^ u) (2 ^ (D + 65)) ≡ sum f s (m * 2 ^ i) t (n * 2 ^ j) (2 ^ D)
  sums_m s t neg d u L k o A = next neg d u ∙ added_sum f t s neg y x g e (D + 64) (D + 62 - low f) d u (le_of_lt k) (under D (low f) L) (far_m k o) A ∙ sum_comm f t s (y * 2 ^ g) (x * 2 ^ e) (2 ^ (D + 64)) ∙ units s t

-- a third number has all its digits, or it is a subnormal one
pub lead_or_low : (f : Format) (n j i D h : ℕ) → (hid f ≤ n) ⊎ (j ≡ 0) → (j ≡ 0 → i + 2 + low f ≤ D + h) → (hid f ≤ n) ⊎ (i + 2 + low f ≤ D + h)
lead_or_low f n j i D h (inl l) k = inl l
lead_or_low f n j i D h (inr z) k = inr (k z)
