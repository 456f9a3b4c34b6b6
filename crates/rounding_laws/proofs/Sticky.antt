-- Rounding a number that stands for a fraction (`Stuck`): where at least two digits of it are dropped, the fraction rounds to the same. Over either format. Assumes nothing.
use mathlib.Core.Path.{◌≡◌, refl, sym, ap, ◌∙◌, subst}
use mathlib.Core.Logic.{◌⊎◌, inl, inr}
use Prim.Native.Nat.{ℕ, zero, suc, ◌+◌, ◌-◌, ◌*◌, ◌/◌, ◌%◌, ◌^◌, ◌≤◌, ◌<◌, compare, Ordering}
use native.Mathlib.Nat.{le_trans, le_of_eq, le_antisymm, le_of_suc-le-suc, lt_of_lt_of_le, lt_of_le_of_lt, eq-zero-or-pos, mod-lt, div-add-mod', one-mul, mul-pos, mul_comm, mul_assoc, mul_left_comm, mul_right_comm, add-mul, suc-mul, mul-le-mul_right, mul-lt-mul_of_pos_right, lt_of_mul-lt-mul_right, le_of_mul-le-mul_right, div-lt_iff_lt-mul, le-div_iff_mul-le, pow-succ', add-suc}
use native.Mathlib.Omega.{arith}
use mathlib.Core.Bool.{Bool}
use lib.Pow.{pow-add, pow_pos, pow_mono}
use lib.Ieee.{Format, prec, low, size, units, round, nearest}
use lib.Ieee.Digits.{size-lt, size_reaches}
use lib.Ieee.Fits.{two, two-le_pos}
use lib.Ieee.Nearest.{closest, closest_same}
use lib.Ieee.Scale.{round_same}
use Rattle.rounding_laws.specs.Stuck.{Stuck}
use Rattle.rounding_laws.proofs.Closest.{Cmp, cmp}
use Rattle.rounding_laws.proofs.Pack.{Drops, round_at}
use Rattle.rounding_laws.proofs.Powers.{pow_lt_back}
use Rattle.rounding_laws.proofs.At.{scaled_closest, both}

-- ---- `closest` is within a half, and only one number is within less than a half
le_by : (w q b : ℕ) → q * b < w * b + b → q ≤ w
le_by w q b h = le_of_suc-le-suc (lt_of_mul-lt-mul_right b (subst (λ (x : ℕ). q * b < x) (sym (suc-mul w b)) h))

module _ (a b : ℕ) (B : 0 < b) where
  near : (q : ℕ) (o : Ordering) → Cmp o (a % b * 2) b → q * b * 2 < a * 2 + b → a * 2 < q * b * 2 + b → nearest (a / b) o ≡ q
  near q Ordering.lt c h k =
      let e = div-add-mod' a b in
      le_antisymm (le_by q (a / b) b (omega arith)) (le_by (a / b) q b (omega arith))
  near q Ordering.eq c h k =
      let e = div-add-mod' a b in
      let l : q ≤ a / b = le_by (a / b) q b (omega arith) in
      let m : q * b ≤ a / b * b = mul-le-mul_right b l in
      absurd (omega arith)
  near q Ordering.gt c h k =
      let e = div-add-mod' a b in
      let r = mod-lt a B in
      let s = suc-mul (a / b) b in
      le_antisymm (le_by q (suc (a / b)) b (omega arith)) (le_by (suc (a / b)) q b (omega arith))

  within : (o : Ordering) → Cmp o (a % b * 2) b → (nearest (a / b) o * b * 2 ≤ a * 2 + b) × (a * 2 ≤ nearest (a / b) o * b * 2 + b)
  within Ordering.lt c =
      let e = div-add-mod' a b in
      (omega arith, omega arith)
  within Ordering.eq c = tie (a / b) (a / b % 2) (mod-lt (a / b) (lit2)) (div-add-mod' a b)
    where
      lit2 : 0 < 2
      lit2 = omega arith

      tie : (w t : ℕ) → t < 2 → w * b + a % b ≡ a → ((w + t) * b * 2 ≤ a * 2 + b) × (a * 2 ≤ (w + t) * b * 2 + b)
      tie w zero l e = let s = add-mul w 0 b in let z : 0 * b ≡ 0 = omega arith in (omega arith, omega arith)
      tie w (suc zero) l e = let s = add-mul w 1 b in let z = one-mul b in (omega arith, omega arith)
      tie w (suc (suc t)) l e = absurd (omega arith)
  within Ordering.gt c =
      let e = div-add-mod' a b in
      let r = mod-lt a B in
      let s = suc-mul (a / b) b in
      (omega arith, omega arith)

pub closest_between : (a b q : ℕ) → 0 < b → q * b * 2 < a * 2 + b → a * 2 < q * b * 2 + b → closest a b ≡ q
closest_between a b q B h k = near a b B q (compare (a % b * 2) b) (cmp (a % b * 2) b) h k

pub closest_within : (a b : ℕ) → 0 < b → (closest a b * b * 2 ≤ a * 2 + b) × (a * 2 ≤ closest a b * b * 2 + b)
closest_within a b B = within a b B (compare (a % b * 2) b) (cmp (a % b * 2) b)

odd_le : (v x : ℕ) → v % 2 ≡ 1 → v ≤ 2 * x → v + 1 ≤ 2 * x
odd_le v x o h = omega arith

-- ---- an odd v less than one away from a / b
module _ (v a b : ℕ) (o : v % 2 ≡ 1) (below : v * b < a + b) (above : a < v * b + b) where
  step_up : (Q H : ℕ) → Q + 1 ≤ v + H → Q * b < a + H * b
  step_up Q H h = omega (arith, mul-le-mul_right b h, add-mul Q 1 b, one-mul b, add-mul v H b)

  step_down : (Q H : ℕ) → v + 1 ≤ Q + H → a < Q * b + H * b
  step_down Q H h = omega (arith, mul-le-mul_right b h, add-mul v 1 b, one-mul b, add-mul Q H b)

  -- v is not an even number away from an even number
  strict_up : (q H h : ℕ) → H ≡ 2 * h → q * (2 * H) * 2 ≤ v * 2 + 2 * H → q * (2 * H) + 1 ≤ v + H
  strict_up q H h e g = omega (arith, mul_left_comm q 2 H)

  strict_down : (q H h : ℕ) → H ≡ 2 * h → v * 2 ≤ q * (2 * H) * 2 + 2 * H → v + 1 ≤ q * (2 * H) + H
  strict_down q H h e g =
      let m = mul_left_comm q 2 H in
      let l : v ≤ 2 * (q * H + h) = omega arith in
      omega (arith, odd_le v (q * H + h) o l)

  half_steps : (q H h : ℕ) → H ≡ 2 * h → (q * (2 * H) * 2 ≤ v * 2 + 2 * H) × (v * 2 ≤ q * (2 * H) * 2 + 2 * H) → (q * (b * (2 * H)) * 2 < a * 2 + b * (2 * H)) × (a * 2 < q * (b * (2 * H)) * 2 + b * (2 * H))
  half_steps q H h e g =
      let u = step_up (q * (2 * H)) H (strict_up q H h e g.0) in
      let d = step_down (q * (2 * H)) H (strict_down q H h e g.1) in
      let m : q * (b * (2 * H)) ≡ q * (2 * H) * b = ap (λ (x : ℕ). q * x) (mul_comm b (2 * H)) ∙ sym (mul_assoc q (2 * H) b) in
      let n : b * (2 * H) ≡ 2 * (H * b) = mul_comm b (2 * H) ∙ mul_assoc 2 H b in
      (omega arith, omega arith)

  pub stuck_closest : (K : ℕ) → 0 < b → closest a (b * 2 ^ suc (suc K)) ≡ closest v (2 ^ suc (suc K))
  stuck_closest K B =
      let H = 2 ^ suc K in
      let e : 2 ^ suc (suc K) ≡ 2 * H = pow-succ' 2 (suc K) in
      let q = closest v (2 ^ suc (suc K)) in
      let g = subst (λ (u : ℕ). (q * u * 2 ≤ v * 2 + u) × (v * 2 ≤ q * u * 2 + u)) e (closest_within v (2 ^ suc (suc K)) (pow_pos (suc (suc K)))) in
      let r = subst (λ (u : ℕ). (q * (b * u) * 2 < a * 2 + b * u) × (a * 2 < q * (b * u) * 2 + b * u)) (sym e) (half_steps q H (2 ^ K) (pow-succ' 2 K) g) in
      closest_between a (b * 2 ^ suc (suc K)) q (mul-pos B (pow_pos (suc (suc K)))) r.0 r.1

  -- against an even number a / b compares as v does
  even_below : (w : ℕ) → v < 2 * w → a < 2 * w * b
  even_below w h = omega (arith, mul-le-mul_right b h, suc-mul v b)

  even_above : (w : ℕ) → 2 * w ≤ v → 2 * w * b ≤ a
  even_above w h =
      let l : suc (2 * w) ≤ v = omega arith in
      omega (arith, mul-le-mul_right b l, suc-mul (2 * w) b)

-- ---- a number's own count of dropped digits
cover : (z p : ℕ) → z ≤ p + (z - p)
cover z p = omega arith

reached : (z p : ℕ) → 0 < p → 0 < z - p → p - 1 + (z - p) < z
reached z p P h = omega arith

pub drops_own : (p n den : ℕ) → 0 < p → 0 < den → Drops p n den (size (n / den) - p)
drops_own p n den P D = (
  (div-lt_iff_lt-mul D).0 (lt_of_lt_of_le (size-lt (n / den)) (pow_mono (cover (size (n / den)) p))),
  elim (eq-zero-or-pos (size (n / den) - p)) [
    | inl z ↦ inl z
    | inr g ↦ inr ((le-div_iff_mul-le D).0 (size_reaches (n / den) (p - 1 + (size (n / den) - p)) (reached (size (n / den)) p P g)))
  ],
)

-- ---- the law. K is how many digits of v are dropped
module _ (f : Format) (s : Bool) (num den v E G k K : ℕ) (D : 0 < den) (at : E + low f + suc (suc K) ≡ G + k) where
  abbrev n : ℕ
  n = num * 2 ^ low f

  abbrev a : ℕ
  a = num * 2 ^ G

  abbrev b : ℕ
  b = den * 2 ^ E

  -- from v's powers of two to n / den, and back
  two_pow : (j : ℕ) → 2 ^ (j + suc (suc K)) ≡ 2 * 2 ^ (j + suc K)
  two_pow j = ap (λ (x : ℕ). 2 ^ x) (add-suc j (suc K)) ∙ pow-succ' 2 (j + suc K)

  -- c units are c * 2 ^ G / 2 ^ low steps of num / den
  exps : (j : ℕ) → 2 ^ (j + suc (suc K)) * b * 2 ^ low f ≡ 2 ^ (j + k) * den * 2 ^ G
  exps j =
      let p : 2 ^ (j + suc (suc K)) * (2 ^ E * 2 ^ low f) ≡ 2 ^ (j + k) * 2 ^ G =
      ap (λ (x : ℕ). 2 ^ (j + suc (suc K)) * x) (sym (pow-add 2 E (low f))) ∙ sym (pow-add 2 (j + suc (suc K)) (E + low f)) ∙ ap (λ (x : ℕ). 2 ^ x) (sum_is j (suc (suc K)) (E + low f) k G at) ∙ pow-add 2 (j + k) G in
      simp (mul_assoc, mul_comm, mul_left_comm) (simp (mul_assoc, mul_comm, mul_left_comm) at (ap (λ (x : ℕ). x * den) p))
    where
      sum_is : (j K x k G : ℕ) → x + K ≡ G + k → j + K + x ≡ j + k + G
      sum_is j K x k G h = omega arith

  n_lt : (j : ℕ) → a < 2 ^ (j + suc (suc K)) * b → n < 2 ^ (j + k) * den
  n_lt j h =
      lt_of_mul-lt-mul_right (2 ^ G)
      (subst (λ (x : ℕ). x < 2 ^ (j + k) * den * 2 ^ G) (mul_right_comm num (2 ^ G) (2 ^ low f)) (subst (λ (x : ℕ). a * 2 ^ low f < x) (exps j) (mul-lt-mul_of_pos_right h (pow_pos (low f)))))

  n_ge : (j : ℕ) → 2 ^ (j + suc (suc K)) * b ≤ a → 2 ^ (j + k) * den ≤ n
  n_ge j h =
      le_of_mul-le-mul_right
      (subst (λ (x : ℕ). 2 ^ (j + k) * den * 2 ^ G ≤ x) (mul_right_comm num (2 ^ G) (2 ^ low f)) (subst (λ (x : ℕ). x ≤ a * 2 ^ low f) (exps j) (mul-le-mul_right (2 ^ low f) h)))
      (pow_pos G)

  shift : (j : ℕ) → 2 ^ (j + k) * 2 ^ G ≡ 2 ^ (j + suc (suc K)) * 2 ^ (E + low f)
  shift j = sym (pow-add 2 (j + k) G) ∙ ap (λ (x : ℕ). 2 ^ x) (sum_is j (suc (suc K)) (E + low f) k G at) ∙ pow-add 2 (j + suc (suc K)) (E + low f)
    where
      sum_is : (j K x k G : ℕ) → x + K ≡ G + k → j + k + G ≡ j + K + x
      sum_is j K x k G h = omega arith

  v_lt : (j : ℕ) → v * 2 ^ E * 2 ^ low f < 2 ^ (j + k) * 2 ^ G → v < 2 ^ (j + suc (suc K))
  v_lt j h = lt_of_mul-lt-mul_right (2 ^ (E + low f)) (subst (λ (x : ℕ). x < 2 ^ (j + suc (suc K)) * 2 ^ (E + low f)) (both v E (low f)) (subst (λ (x : ℕ). v * 2 ^ E * 2 ^ low f < x) (shift j) h))

  v_ge : (j : ℕ) → 2 ^ (j + k) * 2 ^ G ≤ v * 2 ^ E * 2 ^ low f → 2 ^ (j + suc (suc K)) ≤ v
  v_ge j h =
      le_of_mul-le-mul_right (subst (λ (x : ℕ). 2 ^ (j + suc (suc K)) * 2 ^ (E + low f) ≤ x) (both v E (low f)) (subst (λ (x : ℕ). x ≤ v * 2 ^ E * 2 ^ low f) (shift j) h)) (pow_pos (E + low f))

  same_closest : closest n (den * 2 ^ k) ≡ closest a (b * 2 ^ suc (suc K))
  same_closest =
      let p : 2 ^ E * 2 ^ low f * 2 ^ suc (suc K) ≡ 2 ^ G * 2 ^ k = ap (λ (x : ℕ). x * 2 ^ suc (suc K)) (sym (pow-add 2 E (low f))) ∙ sym (pow-add 2 (E + low f) (suc (suc K))) ∙ ap (λ (x : ℕ). 2 ^ x) at ∙ pow-add 2 G k in
      closest_same n (den * 2 ^ k) a (b * 2 ^ suc (suc K)) (mul-pos D (pow_pos k)) (mul-pos (mul-pos D (pow_pos E)) (pow_pos (suc (suc K))))
      (simp (mul_assoc, mul_comm, mul_left_comm) (simp (mul_assoc, mul_comm, mul_left_comm) at (ap (λ (x : ℕ). num * den * x) p)))

  -- with k as v's fraction has it
  odd_round : v % 2 ≡ 1 → v * b < a + b → a < v * b + b → Drops (prec f) (v * 2 ^ E * 2 ^ low f) (2 ^ G) k → round f s num den ≡ round f s (v * 2 ^ E) (2 ^ G)
  odd_round o below above h =
      round_at f s num den k D (lt_part, ge_part h.1)
      ∙ ap (λ (x : ℕ). units f s x k) (same_closest ∙ stuck_closest v a b o below above K (mul-pos D (pow_pos E)) ∙ scaled_closest v E (low f) G k (suc (suc K)) at)
      ∙ sym (round_at f s (v * 2 ^ E) (2 ^ G) k (pow_pos G) h)
    where
      lt_part : n < 2 ^ (prec f + k) * den
      lt_part =
          n_lt (prec f)
          (subst (λ (x : ℕ). a < x * b) (sym (two_pow (prec f))) (even_below v a b o below above (2 ^ (prec f + suc K)) (subst (λ (x : ℕ). v < x) (two_pow (prec f)) (v_lt (prec f) h.0))))

      ge_part : (k ≡ 0) ⊎ (2 ^ (prec f - 1 + k) * 2 ^ G ≤ v * 2 ^ E * 2 ^ low f) → (k ≡ 0) ⊎ (2 ^ (prec f - 1 + k) * den ≤ n)
      ge_part (inl z) = inl z
      ge_part (inr g) =
          inr
          (n_ge (prec f - 1)
          (subst (λ (x : ℕ). x * b ≤ a) (sym (two_pow (prec f - 1))) (even_above v a b o below above (2 ^ (prec f - 1 + suc K)) (subst (λ (x : ℕ). x ≤ v) (two_pow (prec f - 1)) (v_ge (prec f - 1) g)))))

-- ---- how many digits of v are dropped: two at least
two_low : (E l G k : ℕ) → E + 2 + l ≤ G → (K : ℕ) × (E + l + suc (suc K) ≡ G + k)
two_low E l G k h = (G + k - (E + l) - 2, omega arith)

two_high : (E l G k p z : ℕ) → p + 1 + (E + l) < z + G → k ≡ z - p → (K : ℕ) × (E + l + suc (suc K) ≡ G + k)
two_high E l G k p z h e = (G + k - (E + l) - 2, omega arith)

pub sticky_round : (f : Format) (s : Bool) (num den v E G : ℕ) → 0 < den → Stuck v (num * 2 ^ G) (den * 2 ^ E) → (v * (den * 2 ^ E) ≡ num * 2 ^ G) ⊎ ((E + 2 + low f ≤ G) ⊎ (2 ^ (prec f + 1) ≤ v))
    → round f s num den ≡ round f s (v * 2 ^ E) (2 ^ G)
sticky_round f s num den v E G D st c = go c st
  where
    k : ℕ
    k = size (v * 2 ^ E * 2 ^ low f / 2 ^ G) - prec f

    exact : v * (den * 2 ^ E) ≡ num * 2 ^ G → round f s num den ≡ round f s (v * 2 ^ E) (2 ^ G)
    exact e = round_same f s num den (v * 2 ^ E) (2 ^ G) D (pow_pos G) (sym e ∙ simp (mul_assoc, mul_comm, mul_left_comm))

    some : (v % 2 ≡ 1) × (v * (den * 2 ^ E) < num * 2 ^ G + den * 2 ^ E) × (num * 2 ^ G < v * (den * 2 ^ E) + den * 2 ^ E) → (K : ℕ) × (E + low f + suc (suc K) ≡ G + k)
        → round f s num den ≡ round f s (v * 2 ^ E) (2 ^ G)
    some w K = odd_round f s num den v E G k K.0 D K.1 w.0 w.1 w.2 (drops_own (prec f) (v * 2 ^ E * 2 ^ low f) (2 ^ G) (two-le_pos (prec f) (two f)) (pow_pos G))

    long : 2 ^ (prec f + 1) ≤ v → prec f + 1 + (E + low f) < size (v * 2 ^ E * 2 ^ low f / 2 ^ G) + G
    long h =
        let N = v * 2 ^ E * 2 ^ low f in
        let z = size (N / 2 ^ G) in
        pow_lt_back (prec f + 1 + (E + low f)) (z + G)
        (lt_of_le_of_lt
        (le_trans (le_of_eq (pow-add 2 (prec f + 1) (E + low f))) (le_trans (mul-le-mul_right (2 ^ (E + low f)) h) (le_of_eq (sym (both v E (low f))))))
        (subst (λ (x : ℕ). N < x) (sym (pow-add 2 z G)) ((div-lt_iff_lt-mul (pow_pos G)).0 (size-lt (N / 2 ^ G)))))

    go : (v * (den * 2 ^ E) ≡ num * 2 ^ G) ⊎ ((E + 2 + low f ≤ G) ⊎ (2 ^ (prec f + 1) ≤ v)) → Stuck v (num * 2 ^ G) (den * 2 ^ E) → round f s num den ≡ round f s (v * 2 ^ E) (2 ^ G)
    go (inl e) t = exact e
    go (inr d) (inl e) = exact e
    go (inr (inl d)) (inr w) = some w (two_low E (low f) G k d)
    go (inr (inr d)) (inr w) = some w (two_high E (low f) G k (prec f) (size (v * 2 ^ E * 2 ^ low f / 2 ^ G)) (long d) refl)
