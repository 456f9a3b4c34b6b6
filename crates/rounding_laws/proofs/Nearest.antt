-- `round` gives the nearest value of the format, on a tie the even one, and an infinity from the last half gap on (`Nearest`). Over every format. Assumes nothing.
use mathlib.Core.Path.{◌≡◌, refl, sym, ap, ◌∙◌, subst}
use mathlib.Core.Logic.{◌⊎◌, inl, inr}
use mathlib.Core.Bool.{Bool, true, false, cond}
use Prim.Native.Nat.{ℕ, zero, suc, ◌+◌, ◌-◌, ◌*◌, ◌/◌, ◌%◌, ◌^◌, ◌≤◌, ◌<◌, compare, Ordering}
use native.Mathlib.Nat.{le_trans, le_of_eq, le_of_lt, lt_of_lt_of_le, add-mul, one-mul, zero-mul, suc-mul, mul-pos, mul_comm, mul_assoc, mul_right_comm, mul_left_comm, mul-le-mul_right, mul-lt-mul_of_pos_right, lt_of_mul-lt-mul_right, le_of_mul-le-mul_right, eq_of_mul-eq-mul_right, div-add-mod', mod-lt, sub-add_cancel, add-sub_of_le, div-lt_iff_lt-mul, pow-succ', add-mul-mod_self_left}
use native.Mathlib.Omega.{arith}
use lib.Dec.{T, ltb, leb, ltb→lt, lit<, lit≤}
use lib.Pow.{pow-add, pow_pos, pow_mono}
use lib.Ieee.{Float, nan, inf, fin, Format, binary32, binary64, prec, emax, low, up, down, unlike, size, nearest, odd, units, round, hid, ones, top, to_bits}
use lib.Ieee.Digits.{size-le}
use lib.Ieee.Fits.{two, round-fits, down_pos}
use lib.Ieee.Exact.{HasValue, units_val}
use lib.Ieee.Nearest.{closest, closest_mono}
use lib.Ieee.Scale.{finite}
use Rattle.rounding_laws.specs.Total.{total_size}
use Rattle.rounding_laws.specs.Nearest.{Exact, distance, denominator, AsNear, Tie, last_half_gap, has_minus, Nearest}
use Rattle.rounding_laws.proofs.Closest.{Cmp, cmp, near_eq}
use Rattle.rounding_laws.proofs.Value.{value_unique, value_finite, digits, power}
use Rattle.rounding_laws.proofs.Pack.{Drops, round_at, round_inf, units_inf}
use Rattle.rounding_laws.proofs.Sticky.{closest_within}
use Rattle.rounding_laws.proofs.Pattern.{own_drops, over, reads_own}
use Rattle.rounding_laws.proofs.Sum.{total_multiple}
use Rattle.rounding_laws.proofs.Powers.{or_less}
use Rattle.rounding_laws.proofs.Parts.{parted}

-- ---- whole numbers: `closest` is nearest, and on a tie even
abbrev gap : ℕ → ℕ → ℕ
gap a b = total_size false a b

module _ (a b : ℕ) (B : 0 < b) where
  abbrev q : ℕ
  q = closest a b

  half : gap a (q * b) * 2 ≤ b
  half = let w = closest_within a b B in omega arith

  -- another multiple is at least half a unit away
  other : (w : ℕ) → (w < q) ⊎ (q < w) → b ≤ gap a (w * b) * 2
  other w (inl h) = let k = mul-le-mul_right b h in let s = suc-mul w b in let c = closest_within a b B in omega arith
  other w (inr h) = let k = mul-le-mul_right b h in let s = suc-mul q b in let c = closest_within a b B in omega arith

  pub closest_near : (w : ℕ) → gap a (q * b) ≤ gap a (w * b)
  closest_near w = go (compare w q) (cmp w q)
    where
      go : (o : Ordering) → Cmp o w q → gap a (q * b) ≤ gap a (w * b)
      go Ordering.lt h = let k = other w (inl h) in let m = half in omega arith
      go Ordering.eq h = le_of_eq (ap (λ (x : ℕ). gap a (x * b)) (sym h))
      go Ordering.gt h = let k = other w (inr h) in let m = half in omega arith

  -- half a unit away it is the even one
  halfway : (o : Ordering) → Cmp o (a % b * 2) b → gap a (nearest (a / b) o * b) * 2 ≡ b → nearest (a / b) o % 2 ≡ 0
  halfway Ordering.lt c h = absurd (let e = div-add-mod' a b in omega arith)
  halfway Ordering.eq c h = parity (a / b)
    where
      parity : (x : ℕ) → (x + x % 2) % 2 ≡ 0
      parity x = omega arith
  halfway Ordering.gt c h = absurd (let e = div-add-mod' a b in let s = suc-mul (a / b) b in let r = mod-lt a B in omega arith)

  pub closest_even : (w : ℕ) → gap a (q * b) ≡ gap a (w * b) → (w ≡ q) ⊎ (q % 2 ≡ 0)
  closest_even w e = go (compare w q) (cmp w q)
    where
      tie : b ≤ gap a (w * b) * 2 → q % 2 ≡ 0
      tie h = halfway (compare (a % b * 2) b) (cmp (a % b * 2) b) (let m = half in omega arith)

      go : (o : Ordering) → Cmp o w q → (w ≡ q) ⊎ (q % 2 ≡ 0)
      go Ordering.lt h = inr (tie (other w (inl h)))
      go Ordering.eq h = inl h
      go Ordering.gt h = inr (tie (other w (inr h)))

-- ---- a distance in units of the format's smallest value
distance_units : (v : Exact) (L : ℕ) (x : Float) (t : Bool) (w : ℕ) → HasValue x t w L → distance v x * L ≡ total_size (unlike v.sign t) (v.num * L) (w * v.den) * denominator x
distance_units v L nan t w h = absurd h
distance_units v L (inf s) t w h = absurd h
distance_units v L (fin s m e) t w h =
    ap (λ (i : Bool). total_size (unlike v.sign i) (v.num * down e) (m * up e * v.den) * L) h.0
    ∙ total_multiple (unlike v.sign t) (v.num * down e) (m * up e * v.den) L (down e) (v.num * L) (w * v.den) (mul_right_comm v.num (down e) L)
    (mul_right_comm (m * up e) v.den L ∙ ap (λ (i : ℕ). i * v.den) h.1 ∙ mul_right_comm w (down e) v.den)

denominator_pos : (x : Float) → 0 < denominator x
denominator_pos nan = pow_pos 0
denominator_pos (inf s) = pow_pos 0
denominator_pos (fin s m e) = down_pos e

module _ (v : Exact) (L : ℕ) (P : 0 < L) (x y : Float) (s t : Bool) (a b : ℕ) (p : HasValue x s a L) (q : HasValue y t b L) where
  abbrev far_x : ℕ
  far_x = total_size (unlike v.sign s) (v.num * L) (a * v.den)

  abbrev far_y : ℕ
  far_y = total_size (unlike v.sign t) (v.num * L) (b * v.den)

  left : distance v x * denominator y * L ≡ far_x * (denominator x * denominator y)
  left = mul_right_comm (distance v x) (denominator y) L ∙ ap (λ (i : ℕ). i * denominator y) (distance_units v L x s a p) ∙ mul_assoc far_x (denominator x) (denominator y)

  right : distance v y * denominator x * L ≡ far_y * (denominator x * denominator y)
  right = mul_right_comm (distance v y) (denominator x) L ∙ ap (λ (i : ℕ). i * denominator x) (distance_units v L y t b q) ∙ mul_assoc far_y (denominator y) (denominator x) ∙ ap (λ (i : ℕ). far_y * i) (mul_comm (denominator y) (denominator x))

  as_near : far_x ≤ far_y → AsNear v x y
  as_near h = le_of_mul-le-mul_right (subst (λ (i : ℕ). i ≤ distance v y * denominator x * L) (sym left) (subst (λ (i : ℕ). far_x * (denominator x * denominator y) ≤ i) (sym right) (mul-le-mul_right (denominator x * denominator y) h))) P

  tied : Tie v x y → far_x ≡ far_y
  tied h = eq_of_mul-eq-mul_right (denominator x * denominator y) (mul-pos (denominator_pos x) (denominator_pos y)) far_x far_y (sym left ∙ ap (λ (i : ℕ). i * L) h ∙ right)

-- ---- the sign
odd_negative : (d : ℕ) (s : Bool) (q k l : ℕ) → has_minus (odd d s q k l) ≡ s
unfolding odd
odd_negative d s zero k l = refl
odd_negative d s (suc q) k l = refl

units_negative : (f : Format) (s : Bool) (q k : ℕ) → has_minus (units f s q k) ≡ s
unfolding units
units_negative f s q k = go (ltb (q * 2 ^ k) (2 ^ (low f + suc (emax f))))
  where
    go : (b : Bool) → has_minus (cond b (odd (suc (prec f)) s q k (low f)) (inf s)) ≡ s
    go true = odd_negative (suc (prec f)) s q k (low f)
    go false = refl

units_under : (f : Format) (s : Bool) (q k : ℕ) → T (finite (units f s q k)) → q * 2 ^ k < 2 ^ (low f + suc (emax f))
unfolding units
units_under f s q k = go (ltb (q * 2 ^ k) (2 ^ (low f + suc (emax f)))) (ltb→lt (q * 2 ^ k) (2 ^ (low f + suc (emax f))))
  where
    go : (b : Bool) → (T b → q * 2 ^ k < 2 ^ (low f + suc (emax f))) → T (finite (cond b (odd (suc (prec f)) s q k (low f)) (inf s))) → q * 2 ^ k < 2 ^ (low f + suc (emax f))
    go true h t = h tt
    go false h t = absurd t

-- ---- the law
same_sign : (s : Bool) → unlike s s ≡ false
same_sign true = refl
same_sign false = refl

module _ (f : Format) (s : Bool) (num den : ℕ) (D : 0 < den) where
  abbrev p : ℕ
  p = prec f

  abbrev n : ℕ
  n = num * 2 ^ low f

  -- how many digits are dropped, and the kept number
  abbrev k : ℕ
  k = size (n / den) - p

  abbrev u : ℕ
  u = den * 2 ^ k

  abbrev kept : ℕ
  kept = closest n u

  abbrev r : Float
  r = round f s num den

  abbrev L : ℕ
  L = low f + suc (emax f)

  U : 0 < u
  U = mul-pos D (pow_pos k)

  drops : Drops p n den k
  drops = own_drops f s num den D

  is : r ≡ units f s kept k
  is = round_at f s num den k D drops

  value : kept * 2 ^ k < 2 ^ L → HasValue r s (kept * 2 ^ k) (2 ^ low f)
  value h = subst (λ (x : Float). HasValue x s (kept * 2 ^ k) (2 ^ low f)) (sym is) (units_val f s kept k h)

  in_range : T (finite r) → kept * 2 ^ k < 2 ^ L
  in_range h = units_under f s kept k (subst (λ (x : Float). T (finite x)) is h)

  -- no multiple of the unit is nearer than the kept one; a value with a smaller unit is below the least fraction that drops k digits
  module _ (m j : ℕ) (short : m < 2 ^ p) where
    abbrev w : ℕ
    w = m * 2 ^ j

    multiple : k ≤ j → w * den ≡ m * 2 ^ (j - k) * u
    multiple h = ap (λ (i : ℕ). m * i * den) (ap (λ (i : ℕ). 2 ^ i) (sym (sub-add_cancel h)) ∙ pow-add 2 (j - k) k) ∙ group m (2 ^ (j - k)) (2 ^ k) den
      where
        group : (m a b d : ℕ) → m * (a * b) * d ≡ m * a * (d * b)
        group m a b d = simp (mul_assoc, mul_comm, mul_left_comm)

    least : 2 ^ (p - 1) * u ≡ 2 ^ (p - 1 + k) * den
    least = ap (λ (i : ℕ). 2 ^ (p - 1) * i) (mul_comm den (2 ^ k)) ∙ sym (mul_assoc (2 ^ (p - 1)) (2 ^ k) den) ∙ ap (λ (i : ℕ). i * den) (sym (pow-add 2 (p - 1) k))

    below : j < k → w * den < 2 ^ (p - 1 + k) * den
    below h =
        mul-lt-mul_of_pos_right
        (lt_of_lt_of_le (mul-lt-mul_of_pos_right short (pow_pos j)) (le_trans (le_of_eq (sym (pow-add 2 p j))) (pow_mono (shift p j k h (two f)))))
        D
      where
        shift : (p j k : ℕ) → j < k → 2 ≤ p → p + j ≤ p - 1 + k
        shift p j k h t = omega arith

    reached : j < k → 2 ^ (p - 1 + k) * den ≤ n
    reached h = elim drops.1 [ inl z ↦ absurd (omega arith) | inr g ↦ g ]

    nearer : j < k → gap n (kept * u) < gap n (w * den)
    nearer h =
        let a = below h in
        let b = reached h in
        let c = closest_near n u U (2 ^ (p - 1)) in
        let e = least in
        omega arith

    like_near : gap n (kept * u) ≤ gap n (w * den)
    like_near = elim (or_less k j) [
      | inl h ↦ subst (λ (i : ℕ). gap n (kept * u) ≤ gap n i) (sym (multiple h)) (closest_near n u U (m * 2 ^ (j - k)))
      | inr h ↦ le_of_lt (nearer h)
    ]

    like_even : gap n (kept * u) ≡ gap n (w * den) → (w * den ≡ kept * u) ⊎ (kept % 2 ≡ 0)
    like_even e = elim (or_less k j) [
      | inl h ↦ elim (closest_even n u U (m * 2 ^ (j - k)) (e ∙ ap (λ (i : ℕ). gap n i) (multiple h))) [ inl i ↦ inl (multiple h ∙ ap (λ (i : ℕ). i * u) i) | inr i ↦ inr i ]
      | inr h ↦ absurd (let g = nearer h in omega arith)
    ]

  -- against zero
  zero_near : gap n (kept * u) ≤ n
  zero_near = let h = closest_near n u U 0 in let z = zero-mul u in omega arith

  zero_even : gap n (kept * u) ≡ n → kept % 2 ≡ 0
  zero_even e = elim (closest_even n u U 0 (let z = zero-mul u in omega arith)) [ inl i ↦ ap (λ (j : ℕ). j % 2) (sym i) | inr i ↦ i ]

  own : total_size (unlike s s) n (kept * 2 ^ k * den) ≡ gap n (kept * u)
  own = ap (λ (i : Bool). total_size i n (kept * 2 ^ k * den)) (same_sign s) ∙ ap (λ (i : ℕ). gap n i) (mul_assoc kept (2 ^ k) den ∙ ap (λ (i : ℕ). kept * i) (mul_comm (2 ^ k) den))

  near_by : (i : Bool) (m j : ℕ) → m < 2 ^ p → gap n (kept * u) ≤ total_size i n (m * 2 ^ j * den)
  near_by false m j h = like_near m j h
  near_by true m j h = let g = zero_near in omega arith

  -- a tie is with the same value, or it is even
  even_by : (t : Bool) (m j : ℕ) → m < 2 ^ p → (i : Bool) → unlike s t ≡ i → gap n (kept * u) ≡ total_size i n (m * 2 ^ j * den) → ((s ≡ t) × (m * 2 ^ j ≡ kept * 2 ^ k)) ⊎ (kept % 2 ≡ 0)
  even_by t m j h false x e = elim (like_even m j h e) [
    | inl i ↦ inl (beq→eq s t x, eq_of_mul-eq-mul_right den D (m * 2 ^ j) (kept * 2 ^ k) (i ∙ ap (λ (i : ℕ). kept * i) (mul_comm den (2 ^ k)) ∙ sym (mul_assoc kept (2 ^ k) den)))
    | inr i ↦ inr i
  ]
    where
      beq→eq : (s t : Bool) → unlike s t ≡ false → s ≡ t
      beq→eq true true e = refl
      beq→eq true false e = e
      beq→eq false true e = sym e
      beq→eq false false e = refl
  even_by t m j h true x e = inr (zero_even (let g = zero_near in omega arith))

  -- the pattern's last digit is the kept number's
  bits : T (finite r) → to_bits f r % 2 ≡ kept % 2
  bits g = elim (or_less (ones f) (suc k)) [
    | inl o ↦ absurd (subst (λ (x : Float). T (finite x)) (over f s num den D o) g)
    | inr o ↦ ap (λ (i : ℕ). i % 2) (reads_own f s num den D o) ∙ parity s
  ]
    where
      twice : hid f ≡ 2 * 2 ^ (p - 2)
      twice = ap (λ (i : ℕ). 2 ^ i) (pred p (two f)) ∙ pow-succ' 2 (p - 2)
        where
          pred : (p : ℕ) → 2 ≤ p → p - 1 ≡ suc (p - 2)
          pred p h = omega arith

      parity : (s : Bool) → (cond s (top f) 0 + (k * hid f + kept)) % 2 ≡ kept % 2
      parity s = ap (λ (i : ℕ). i % 2) (whole s) ∙ add-mul-mod_self_left kept 2 (rest s)
        where
          rest : Bool → ℕ
          rest s = cond s (2 ^ (p - 2) * suc (ones f)) 0 + k * 2 ^ (p - 2)

          group : (h o : ℕ) → 2 * h * o ≡ 2 * (h * o)
          group h o = mul_assoc 2 h o

          whole : (s : Bool) → cond s (top f) 0 + (k * hid f + kept) ≡ kept + 2 * rest s
          whole true =
              let a : top f ≡ 2 * (2 ^ (p - 2) * suc (ones f)) = ap (λ (i : ℕ). i * suc (ones f)) twice ∙ mul_assoc 2 (2 ^ (p - 2)) (suc (ones f)) in
              let b : k * hid f ≡ 2 * (k * 2 ^ (p - 2)) = ap (λ (i : ℕ). k * i) twice ∙ mul_left_comm k 2 (2 ^ (p - 2)) in
              omega arith
          whole false =
              let b : k * hid f ≡ 2 * (k * 2 ^ (p - 2)) = ap (λ (i : ℕ). k * i) twice ∙ mul_left_comm k 2 (2 ^ (p - 2)) in
              omega arith

  -- ---- the last half gap is at (2 ^ (p + 1) - 1) * h units, and 2 ^ (p + 1) * h is the first power of two that the format lacks
  abbrev h : ℕ
  h = 2 ^ (emax f - p) * 2 ^ low f

  room : (f : Format) → prec f ≤ emax f
  room binary32 = lit≤ tt
  room binary64 = lit≤ tt

  h_is : 2 ^ (L - p) ≡ 2 * h
  h_is = ap (λ (i : ℕ). 2 ^ i) (sums p (emax f) (low f) (room f)) ∙ pow-succ' 2 (emax f - p + low f) ∙ ap (λ (i : ℕ). 2 * i) (pow-add 2 (emax f - p) (low f))
    where
      sums : (p e l : ℕ) → p ≤ e → l + suc e - p ≡ suc (e - p + l)
      sums p e l h = omega arith

  whole : p ≤ L
  whole = le (room f)
    where
      le : prec f ≤ emax f → prec f ≤ L
      le h = omega arith

  L-is : 2 ^ L ≡ 2 ^ (p + 1) * h
  L-is = ap (λ (i : ℕ). 2 ^ i) (sym (add-sub_of_le whole)) ∙ pow-add 2 p (L - p) ∙ ap (λ (i : ℕ). 2 ^ p * i) h_is ∙ sym (mul_assoc (2 ^ p) 2 h) ∙ ap (λ (i : ℕ). i * h) (sym (pow-add 2 p 1))

  units_are : last_half_gap f * den * 2 ^ low f ≡ (2 ^ (p + 1) - 1) * h * den
  units_are = group (2 ^ (p + 1) - 1) (2 ^ (emax f - p)) den (2 ^ low f)
    where
      group : (a b c d : ℕ) → a * b * c * d ≡ a * (b * d) * c
      group a b c d = simp (mul_assoc, mul_comm, mul_left_comm)

  one_less : (2 ^ (p + 1) - 1) * h * den + h * den ≡ 2 ^ L * den
  one_less = sym (add-mul ((2 ^ (p + 1) - 1) * h) h den) ∙ ap (λ (i : ℕ). i * den) (less (2 ^ (p + 1)) h (pow_pos (p + 1)) ∙ sym L-is)
    where
      less : (a h : ℕ) → 0 < a → (a - 1) * h + h ≡ a * h
      less a h A = ap (λ (i : ℕ). (a - 1) * h + i) (sym (one-mul h)) ∙ sym (add-mul (a - 1) 1 h) ∙ ap (λ (i : ℕ). i * h) (sub-add_cancel A)

  -- below it
  stays : num < last_half_gap f * den → kept * 2 ^ k < 2 ^ L
  stays g =
      let a : n < (2 ^ (p + 1) - 1) * h * den = subst (λ (i : ℕ). n < i) units_are (mul-lt-mul_of_pos_right g (pow_pos (low f))) in
      let b : n < 2 ^ L * den = let o = one_less in omega arith in
      let c : 2 ^ k * den ≤ 2 * h * den = mul-le-mul_right den (le_trans (pow_mono (few b)) (le_of_eq h_is)) in
      let d = (closest_within n u U).0 in
      let e : kept * u ≡ kept * 2 ^ k * den = ap (λ (i : ℕ). kept * i) (mul_comm den (2 ^ k)) ∙ sym (mul_assoc kept (2 ^ k) den) in
      let o = one_less in
      let m = mul_comm den (2 ^ k) in
      let w = mul_assoc 2 h den in
      lt_of_mul-lt-mul_right den (omega arith)
    where
      few : n < 2 ^ L * den → k ≤ L - p
      few b = cut (size (n / den)) p L (size-le (n / den) L ((div-lt_iff_lt-mul D).1 b))
        where
          cut : (z p L : ℕ) → z ≤ L → z - p ≤ L - p
          cut z p L h = omega arith

  -- from it on
  goes : last_half_gap f * den ≤ num → r ≡ inf s
  goes g = elim (or_less (2 ^ L * den) n) [ inl b ↦ large b | inr b ↦ last b ]
    where
      a : (2 ^ (p + 1) - 1) * h * den ≤ n
      a = subst (λ (i : ℕ). i ≤ n) units_are (mul-le-mul_right (2 ^ low f) g)

      large : 2 ^ L * den ≤ n → r ≡ inf s
      large b = round_inf f s num den D (le_of_mul-le-mul_right (le_trans (le_of_eq (mul_right_comm (2 ^ suc (emax f)) den (2 ^ low f) ∙ ap (λ (i : ℕ). i * den) (mul_comm (2 ^ suc (emax f)) (2 ^ low f) ∙ sym (pow-add 2 (low f) (suc (emax f)))))) b) (pow_pos (low f)))

      half : (x : ℕ) → 0 < x → closest (2 * (2 * x) - 1) 2 ≡ 2 * x
      half x X = near_eq ((2 * (2 * x) - 1) / 2) ((2 * (2 * x) - 1) % 2 * 2) 2 (omega arith) ∙ omega arith

      K : ℕ
      K = L - p

      last : n < 2 ^ L * den → r ≡ inf s
      last b =
          round_at f s num den K D (subst (λ (i : ℕ). n < 2 ^ i * den) (sym (add-sub_of_le whole)) b, inr low_end)
          ∙ units_inf f s (closest n (den * 2 ^ K)) K (le_trans (le_of_eq (ap (λ (i : ℕ). 2 ^ i) (sym (add-sub_of_le whole)) ∙ pow-add 2 p K)) (mul-le-mul_right (2 ^ K) top_end))
        where
          pred : (p : ℕ) → 2 ≤ p → p ≡ suc (p - 1)
          pred p h = omega arith

          doubled : 2 ^ p ≡ 2 * 2 ^ (p - 1)
          doubled = ap (λ (i : ℕ). 2 ^ i) (pred p (two f)) ∙ pow-succ' 2 (p - 1)

          low_end : 2 ^ (p - 1 + K) * den ≤ n
          low_end =
              let i : 2 ^ (p - 1 + K) ≡ 2 ^ p * h = pow-add 2 (p - 1) K ∙ ap (λ (i : ℕ). 2 ^ (p - 1) * i) h_is ∙ sym (mul_assoc (2 ^ (p - 1)) 2 h) ∙ ap (λ (i : ℕ). i * h) (mul_comm (2 ^ (p - 1)) 2 ∙ sym doubled) in
              le_trans (le_of_eq (ap (λ (j : ℕ). j * den) i)) (le_trans (mul-le-mul_right den (mul-le-mul_right h (more (2 ^ p) (2 ^ (p + 1)) (pow-add 2 p 1) (pow_pos p)))) a)
            where
              more : (x y : ℕ) → y ≡ x * 2 → 0 < x → x ≤ y - 1
              more x y e X = omega arith

          top_end : 2 ^ p ≤ closest n (den * 2 ^ K)
          top_end =
              subst (λ (i : ℕ). i ≤ closest n (den * 2 ^ K)) (half (2 ^ (p - 1)) (pow_pos (p - 1)) ∙ sym doubled)
              (closest_mono (2 * (2 * 2 ^ (p - 1)) - 1) 2 n (den * 2 ^ K) (lit< tt) (mul-pos D (pow_pos K))
              (le_trans (le_of_eq (ap (λ (i : ℕ). (i - 1) * (den * 2 ^ K)) (sym (pow-add 2 p 1 ∙ ap (λ (i : ℕ). i * 2) doubled ∙ mul_comm (2 * 2 ^ (p - 1)) 2)) ∙ ap (λ (i : ℕ). (2 ^ (p + 1) - 1) * (den * i)) h_is ∙ group (2 ^ (p + 1) - 1) den h)) (mul-le-mul_right 2 a)))
            where
              group : (x d h : ℕ) → x * (d * (2 * h)) ≡ x * h * d * 2
              group x d h = simp (mul_assoc, mul_comm, mul_left_comm)

  abbrev v : Exact
  v = record { sign = s; num = num; den = den }

  pub round_nearest : Nearest f v r
  round_nearest =
      record {
        held = round-fits f s num den;
        sign = ap has_minus is ∙ units_negative f s kept k;
        over = goes;
        under = λ g. value_finite r s (kept * 2 ^ k) (2 ^ low f) (value (stays g));
        near = λ h y t i.
            let P = parted f y t i in
            as_near v (2 ^ low f) (pow_pos (low f)) r y s (sign_of y) (kept * 2 ^ k) (size_of y) (value (in_range h)) P.value
            (subst (λ (a : ℕ). a ≤ total_size (unlike s (sign_of y)) n (size_of y * den)) (sym own) (near_by (unlike s (sign_of y)) (m_of y) (j_of y) P.short));
        even = λ h y t i d e.
            let P = parted f y t i in
            bits h
            ∙ elim (even_by (sign_of y) (m_of y) (j_of y) P.short (unlike s (sign_of y)) refl (sym own ∙ tied v (2 ^ low f) (pow_pos (low f)) r y s (sign_of y) (kept * 2 ^ k) (size_of y) (value (in_range h)) P.value e)) [
              | inl o ↦ absurd (d (value_unique f y r s (kept * 2 ^ k) (2 ^ low f) t (round-fits f s num den) (pow_pos (low f)) (subst (λ (a : ℕ). HasValue y s a (2 ^ low f)) o.1 (subst (λ (b : Bool). HasValue y b (size_of y) (2 ^ low f)) (sym o.0) P.value)) (value (in_range h))))
              | inr o ↦ o
            ];
      }
    where
      sign_of : Float → Bool
      sign_of y = leb (top f) (to_bits f y)

      m_of : Float → ℕ
      m_of y = digits f (to_bits f y % top f / hid f) (to_bits f y % hid f)

      j_of : Float → ℕ
      j_of y = power (to_bits f y % top f / hid f)

      size_of : Float → ℕ
      size_of y = m_of y * 2 ^ j_of y
