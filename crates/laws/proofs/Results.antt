-- Arithmetic that gives no NaN, and times that stay at or above +0. Assumes nothing.
use mathlib.Core.Path.{◌≡◌, refl, sym}
use mathlib.Core.Bool.{Bool, true, false, cond, ◌&&◌, beq}
use Prim.Native.Nat.{ℕ, zero, suc, ◌+◌, ◌-◌, ◌*◌, ◌^◌, ◌≤◌}
use native.Mathlib.Nat.{zero-mul, mul_assoc, add-mul, mul-pos}
use native.Mathlib.Omega.{arith}
use lib.Dec.{ltb, eqb}
use borrow.Author.Tests.{eqb-true, ltb-false}
use lib.IntN.{ℤ}
use lib.Ieee as Ieee
use lib.Ieee.{Float, nan, inf, fin, Format, binary64, up, down}
use lib.Ieee.Order.{round_mono}
use Rattle.rules.specs.Numbers.{is_finite, is_zero, is_positive, is_negative, taken_time, plus_zero, product, fused, wide}
use Rattle.laws.specs.Sound.{is_number, is_from_zero, is_taken}
use Rattle.laws.proofs.Tests.{never, clash, told, both, and}
use Rattle.laws.proofs.Order.{down_pos, top}

-- ---- a rounded result has the sign that it is given

-- whether a float has this sign: no NaN has one
unfoldable is_signed : Bool → Float → Bool
is_signed s nan = false
is_signed s (inf t) = beq s t
is_signed s (fin t m e) = beq s t

beq_self : (s : Bool) → beq s s ≡ true
beq_self true = refl
beq_self false = refl

signed_number : (s : Bool) (x : Float) → is_signed s x ≡ true → is_number x ≡ true
unfolding is_signed is_number Ieee.is_nan
signed_number s nan h = never h
signed_number s (inf t) h = refl
signed_number s (fin t m e) h = refl

from_zero_signed : (x : Float) → is_signed false x ≡ is_from_zero x
unfolding is_signed is_from_zero
from_zero_signed nan = refl
from_zero_signed (inf true) = refl
from_zero_signed (inf false) = refl
from_zero_signed (fin true m e) = refl
from_zero_signed (fin false m e) = refl

odd_signed : (d : ℕ) (s : Bool) (q k l : ℕ) → is_signed s (Ieee.odd d s q k l) ≡ true
unfolding Ieee.odd is_signed
odd_signed d s zero k l = beq_self s
odd_signed d s (suc q) k l = beq_self s

units_signed : (f : Format) (s : Bool) (q k : ℕ) → is_signed s (Ieee.units f s q k) ≡ true
unfolding Ieee.units
units_signed f s q k = go (ltb (q * 2 ^ k) (2 ^ (Ieee.low f + suc (Ieee.emax f))))
  where
    go : (b : Bool) → is_signed s (cond b (Ieee.odd (suc (Ieee.prec f)) s q k (Ieee.low f)) (inf s)) ≡ true
    go true = odd_signed (suc (Ieee.prec f)) s q k (Ieee.low f)
    go false = unfold is_signed in beq_self s

round_signed : (f : Format) (s : Bool) (n d : ℕ) → is_signed s (Ieee.round f s n d) ≡ true
unfolding Ieee.round
round_signed f s n d = units_signed f s _ _

pub round_number : (f : Format) (s : Bool) (n d : ℕ) → is_number (Ieee.round f s n d) ≡ true
round_number f s n d = signed_number s (Ieee.round f s n d) (round_signed f s n d)

round_from_zero : (f : Format) (n d : ℕ) → is_from_zero (Ieee.round f false n d) ≡ true
round_from_zero f n d = rw (← from_zero_signed (Ieee.round f false n d)) (round_signed f false n d)

-- ---- sums

sum_number : (f : Format) (s : Bool) (a : ℕ) (t : Bool) (b c : ℕ) → is_number (Ieee.sum f s a t b c) ≡ true
unfolding Ieee.sum
sum_number f s a t b c = go (beq s t) (ltb a b)
  where
    go : (x y : Bool) → is_number (cond x (Ieee.round f s (a + b) c) (cond y (Ieee.round f t (b - a) c) (Ieee.round f (s && ltb b a) (a - b) c))) ≡ true
    go true y = round_number f s (a + b) c
    go false true = round_number f t (b - a) c
    go false false = round_number f (s && ltb b a) (a - b) c

-- a sum of finite numbers: a curve's end
pub add_number : (f : Format) (x y : Float) → is_finite x ≡ true → is_finite y ≡ true → is_number (Ieee.add f x y) ≡ true
unfolding Ieee.add is_finite
add_number f nan y p q = never p
add_number f (inf s) y p q = never p
add_number f (fin s m e) nan p q = never q
add_number f (fin s m e) (inf t) p q = never q
add_number f (fin s m e) (fin t n d) p q = sum_number f s _ t _ _

-- ---- a next block time

-- what is above 0 has a digit, and no sign
positive_digit : (t : Bool) (m : ℕ) (e : ℤ) → is_positive (fin t m e) ≡ true → eqb m 0 ≡ true → ⊥
unfolding is_positive Ieee.lt
positive_digit t m e h k = let z : m ≡ 0 = eqb-true m 0 k in go t (rw z at h)
  where
    go : (t : Bool) → Ieee.below false (0 * 1 * down e) t (0 * up e * 1) ≡ true → ⊥
    go true h = never h
    go false h = never (rw (zero-mul, zero-mul) at h)

positive_sign : (t : Bool) (m : ℕ) (e : ℤ) → is_positive (fin t m e) ≡ true → t ≡ false
unfolding is_positive Ieee.lt
positive_sign true m e h = never h
positive_sign false m e h = refl

-- what is above 0 is from +0 on
pub positive_from_zero : (t : Float) → is_positive t ≡ true → is_from_zero t ≡ true
unfolding is_positive is_from_zero Ieee.lt
positive_from_zero nan h = never h
positive_from_zero (inf true) h = never h
positive_from_zero (inf false) h = refl
positive_from_zero (fin t m e) h = rw (positive_sign t m e h)

-- a sum of two finite ones at or above +0, in any format
sum_from_zero : (f : Format) (a b c : ℕ) → is_from_zero (Ieee.sum f false a false b c) ≡ true
unfolding Ieee.sum
sum_from_zero f a b c = round_from_zero f (a + b) c

add_from_zero : (f : Format) (x z : Float) → is_from_zero x ≡ true → is_taken z ≡ true → is_from_zero (Ieee.add f x z) ≡ true
unfolding Ieee.add is_from_zero is_taken is_finite
add_from_zero f nan z n r = never n
add_from_zero f (inf s) nan n r = never r
add_from_zero f (inf s) (inf u) n r = never r
add_from_zero f (inf s) (fin u k g) n r = n
add_from_zero f (fin s m e) nan n r = never r
add_from_zero f (fin s m e) (inf u) n r = never r
add_from_zero f (fin true m e) (fin u k g) n r = never n
add_from_zero f (fin false m e) (fin true k g) n r = never r
add_from_zero f (fin false m e) (fin false k g) n r = sum_from_zero f _ _ _

product_from_zero : (x y : Float) → is_from_zero x ≡ true → is_finite y ≡ true → is_positive y ≡ true → is_from_zero (product x y) ≡ true
unfolding product is_from_zero is_finite
product_from_zero nan y n p q = never n
product_from_zero (inf s) nan n p q = never p
product_from_zero (inf s) (inf t) n p q = never p
product_from_zero (inf true) (fin t m e) n p q = never n
product_from_zero (inf false) (fin t m e) n p q = go (eqb m 0) refl
  where
    go : (b : Bool) → eqb m 0 ≡ b → is_from_zero (cond b nan (inf (Ieee.unlike false t))) ≡ true
    go true k = absurd (positive_digit t m e q k)
    go false k = unfold is_from_zero in rw (positive_sign t m e q)
product_from_zero (fin s m e) nan n p q = never p
product_from_zero (fin s m e) (inf t) n p q = never p
product_from_zero (fin true m e) (fin t k d) n p q = never n
product_from_zero (fin false m e) (fin t k d) n p q = rw (positive_sign t k d q)

-- a count of finite periods above 0, from a time on, in any format
pub fused_from_zero : (f : Format) (x y z : Float) → is_from_zero x ≡ true → is_finite y ≡ true → is_positive y ≡ true → is_taken z ≡ true → is_from_zero (fused f x y z) ≡ true
unfolding fused
fused_from_zero f x y z n p q r = add_from_zero f (product x y) z (product_from_zero x y n p q) r

pub wide_from_zero : (n : ℕ) → is_from_zero (wide n) ≡ true
unfolding wide Ieee.of_int
wide_from_zero n = round_from_zero binary64 n 1

-- and at or above that time, as rounded: a block's end. ((0 + K) / G ≤ (M * G + K * E) / (E * G))
cross : (K M E G : ℕ) → (0 * 1 * G + K * 1) * (E * G) ≤ (M * G + K * E) * (1 * G)
cross K M E G =
    let a : 0 * 1 * G + K * 1 ≡ K = omega (arith, zero-mul G) in
    let b : 1 * G ≡ G = omega arith in
    let c : K * (E * G) ≡ K * E * G = sym (mul_assoc K E G) in
    let d : (M * G + K * E) * G ≡ M * G * G + K * E * G = add-mul (M * G) (K * E) G in
    rw (a, b) (omega (arith, c, d))

add_from : (f : Format) (x z : Float) → is_from_zero x ≡ true → is_taken z ≡ true → Ieee.le (Ieee.add f plus_zero z) (Ieee.add f x z) ≡ true
unfolding Ieee.add Ieee.sum is_from_zero is_taken is_finite
add_from f nan z n r = never n
add_from f (inf s) nan n r = never r
add_from f (inf s) (inf u) n r = never r
add_from f (inf true) (fin u k g) n r = never n
add_from f (inf false) (fin true k g) n r = never r
add_from f (inf false) (fin false k g) n r = top _ (round_number f false _ _)
add_from f (fin s m e) nan n r = never r
add_from f (fin s m e) (inf u) n r = never r
add_from f (fin true m e) (fin u k g) n r = never n
add_from f (fin false m e) (fin true k g) n r = never r
add_from f (fin false m e) (fin false k g) n r =
    told _
    (round_mono f (0 * 1 * down g + k * up g * 1) (1 * down g) (m * up e * down g + k * up g * down e) (down e * down g) (mul-pos (omega arith) (down_pos g)) (mul-pos (down_pos e) (down_pos g))
    (cross (k * up g) (m * up e) (down e) (down g)))

pub fused_from : (f : Format) (x y z : Float) → is_from_zero x ≡ true → is_finite y ≡ true → is_positive y ≡ true → is_taken z ≡ true
    → Ieee.le (Ieee.add f plus_zero z) (fused f x y z) ≡ true
unfolding fused
fused_from f x y z n p q r = add_from f (product x y) z (product_from_zero x y n p q) r

-- ---- a time as it is taken

pub from_zero_number : (t : Float) → is_from_zero t ≡ true → is_number t ≡ true
unfolding is_from_zero is_number Ieee.is_nan
from_zero_number nan h = never h
from_zero_number (inf s) h = refl
from_zero_number (fin s m e) h = refl

pub taken-parts : (t : Float) → is_taken t ≡ true → (is_finite t ≡ true) × (is_from_zero t ≡ true)
unfolding is_taken
taken-parts t h = both (is_finite t) (is_from_zero t) h

pub taken_number : (t : Float) → is_taken t ≡ true → is_number t ≡ true
taken_number t h = from_zero_number t (taken-parts t h).1

-- "a time of −0 .. is taken as 0"
not_negative : (m : ℕ) (e : ℤ) → is_negative (fin true m e) ≡ false → is_zero (fin true m e) ≡ true
unfolding is_negative is_zero Ieee.lt Ieee.eq
not_negative m e h =
    let l : m * up e * 1 + 0 * 1 * down e ≤ 0 = ltb-false 0 _ h in
    let x : m * up e * 1 ≡ 0 = omega arith in
    rw (x, zero-mul)

-- what is finite, not below 0 and not 0 is above 0
pub above_zero : (c : Float) → is_finite c ≡ true → is_negative c ≡ false → is_zero c ≡ false → is_positive c ≡ true
unfolding is_finite is_positive is_zero Ieee.lt Ieee.eq
above_zero nan p q z = never p
above_zero (inf s) p q z = never p
above_zero (fin true m e) p q z = clash (not_negative m e q) z
above_zero (fin false m e) p q z = go (ltb (0 * 1 * down e) (m * up e * 1)) refl
  where
    go : (b : Bool) → ltb (0 * 1 * down e) (m * up e * 1) ≡ b → b ≡ true
    go true h = refl
    go false h =
        let l : m * up e * 1 ≤ 0 * 1 * down e = ltb-false (0 * 1 * down e) (m * up e * 1) h in
        let x : m * up e * 1 ≡ 0 = omega (arith, zero-mul (down e)) in
        clash (rw (x, zero-mul)) z

pub time_taken : (t : Float) → is_finite t ≡ true → is_negative t ≡ false → is_taken (taken_time t) ≡ true
unfolding taken_time is_taken
time_taken t p q = go (is_zero t) refl
  where
    go : (b : Bool) → is_zero t ≡ b → (is_finite (cond b plus_zero t) && is_from_zero (cond b plus_zero t)) ≡ true
    go true z = unfold is_finite is_from_zero in refl
    go false z = and p (positive_from_zero t (above_zero t p q z))
