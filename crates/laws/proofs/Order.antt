-- The order of floats. Only NaN stands outside it, and `is_number` says that a float is none. Assumes nothing.
use mathlib.Core.Path.{◌≡◌, refl, sym}
use mathlib.Core.Bool.{Bool, true, false, cond, ◌&&◌, ◌||◌}
use Prim.Native.Nat.{ℕ, suc, ◌+◌, ◌*◌, ◌≤◌, ◌<◌}
use native.Mathlib.Omega.{arith}
use native.Mathlib.Nat.{mul-le-mul_right, le_of_mul-le-mul_right, mul_right_comm, zero-mul, le_trans}
use lib.Pow.{pow_pos}
use lib.Dec.{ltb, eqb}
use borrow.Author.Tests.{ltb-true, ltb-false, eq-eqb, eqb-true}
use lib.IntN.{ℤ, pos, negsuc}
use lib.Ieee as Ieee
use lib.Ieee.{Float, nan, inf, fin, up, down, below, level}
use Rattle.rules.specs.Numbers.{is_finite, later_of}
use Rattle.laws.specs.Sound.{is_number}
use Rattle.laws.proofs.Tests.{never, clash}

-- ---- of two signed numbers

-- ±a ≤ ±b
abbrev Leq : Bool → ℕ → Bool → ℕ → Type 0
Leq false a false b = a ≤ b
Leq false a true b = (a ≤ 0) × (b ≤ 0)
Leq true a false b = Unit {0}
Leq true a true b = b ≤ a

-- as floats are tested
abbrev leq : Bool → ℕ → Bool → ℕ → Bool
leq s a t b = below s a t b || level s a t b

by_test : (a b c d : ℕ) → a ≤ b → (b ≤ a → eqb c d ≡ true) → (ltb a b || (eqb c d && true)) ≡ true
by_test a b c d h k = go (ltb a b) refl
  where
    go : (x : Bool) → ltb a b ≡ x → (ltb a b || (eqb c d && true)) ≡ true
    go true e = rw e
    go false e = rw (e, k (ltb-false a b e))

from_test : (a b c d : ℕ) → (c ≡ d → a ≡ b) → (ltb a b || (eqb c d && true)) ≡ true → a ≤ b
from_test a b c d k h = go (ltb a b) (eqb c d) refl refl h
  where
    go : (x y : Bool) → ltb a b ≡ x → eqb c d ≡ y → (x || (y && true)) ≡ true → a ≤ b
    go true y e f h = let l : a < b = ltb-true a b e in omega arith
    go false true e f h = let q : a ≡ b = k (eqb-true c d f) in omega arith
    go false false e f h = never h

of_leq : (s t : Bool) (a b : ℕ) → Leq s a t b → leq s a t b ≡ true
of_leq false false a b h = by_test a b a b h (λ k. eq-eqb a b (omega arith))
of_leq false true a b h = let p : a ≡ 0 = omega arith in let q : b ≡ 0 = omega arith in rw (p, q)
of_leq true false a b h = go (ltb 0 (a + b)) refl
  where
    go : (x : Bool) → ltb 0 (a + b) ≡ x → leq true a false b ≡ true
    go true e = rw e
    go false e =
        let l : a + b ≤ 0 = ltb-false 0 (a + b) e in
        let p : a ≡ 0 = omega arith in
        let q : b ≡ 0 = omega arith in
        rw (p, q)
of_leq true true a b h = by_test b a a b h (λ k. eq-eqb a b (omega arith))

both_zero : (a b : ℕ) (x y : Bool) → eqb a b ≡ x → eqb a 0 ≡ y → (x && y) ≡ true → (a ≤ 0) × (b ≤ 0)
both_zero a b true true e f h =
    let p : a ≡ b = eqb-true a b e in
    let q : a ≡ 0 = eqb-true a 0 f in
    (omega arith, omega arith)
both_zero a b true false e f h = never h
both_zero a b false y e f h = never h

to_leq : (s t : Bool) (a b : ℕ) → leq s a t b ≡ true → Leq s a t b
to_leq false false a b h = from_test a b a b (λ e. e) h
to_leq false true a b h = both_zero a b (eqb a b) (eqb a 0) refl refl h
to_leq true false a b h = tt
to_leq true true a b h = from_test b a a b (λ e. sym e) h

not_below : (s t : Bool) (a b : ℕ) → below s a t b ≡ false → Leq t b s a
not_below false false a b h = ltb-false a b h
not_below false true a b h = tt
not_below true false a b h = let l : a + b ≤ 0 = ltb-false 0 (a + b) h in (omega arith, omega arith)
not_below true true a b h = ltb-false b a h

is_below : (s t : Bool) (a b : ℕ) → below s a t b ≡ true → Leq t b s a → ⊥
is_below false false a b h k = let l : a < b = ltb-true a b h in omega arith
is_below false true a b h k = never h
is_below true false a b h k = let l : 0 < a + b = ltb-true 0 (a + b) h in omega arith
is_below true true a b h k = let l : b < a = ltb-true b a h in omega arith

-- ---- of fractions over B, D and F

none : (a d : ℕ) → 0 < d → a * d ≤ 0 → a ≤ 0
none a d p h = let l : a * d ≤ 0 * d = rw zero-mul h in le_of_mul-le-mul_right l p

chain : (A B C D E F : ℕ) → 0 < D → A * D ≤ C * B → C * F ≤ E * D → A * F ≤ E * B
chain A B C D E F p h k =
    let l : A * F * D ≤ C * F * B = rw (mul_right_comm A F D, mul_right_comm C F B) (mul-le-mul_right F h) in
    let r : C * F * B ≤ E * B * D = rw (mul_right_comm E B D) (mul-le-mul_right B k) in
    le_of_mul-le-mul_right (le_trans l r) p

zeros : (a b : ℕ) → a ≤ 0 → a * b ≤ 0
zeros a b h = let e : a ≡ 0 = omega arith in rw (e, zero-mul) (omega arith)

leq_trans : (s t u : Bool) (A B C D E F : ℕ) → 0 < B → 0 < D → 0 < F → Leq s (A * D) t (C * B) → Leq t (C * F) u (E * D) → Leq s (A * F) u (E * B)
leq_trans false false false A B C D E F pb pd pf h k = chain A B C D E F pd h k
leq_trans false false true A B C D E F pb pd pf h k =
    let c : C ≤ 0 = none C F pf k.0 in
    let cb : C * B ≤ 0 = zeros C B c in
    (zeros A F (none A D pd (omega arith)), zeros E B (none E D pd k.1))
leq_trans false true false A B C D E F pb pd pf h k = let z : A * F ≤ 0 = zeros A F (none A D pd h.0) in omega arith
leq_trans false true true A B C D E F pb pd pf h k =
    let cf : C * F ≤ 0 = zeros C F (none C B pb h.1) in
    (zeros A F (none A D pd h.0), zeros E B (none E D pd (omega arith)))
leq_trans true false false A B C D E F pb pd pf h k = tt
leq_trans true false true A B C D E F pb pd pf h k = let z : E * B ≤ 0 = zeros E B (none E D pd k.1) in omega arith
leq_trans true true false A B C D E F pb pd pf h k = tt
leq_trans true true true A B C D E F pb pd pf h k = chain E F C D A B pd k h

pub down_pos : (e : ℤ) → 0 < down e
down_pos (pos k) = omega arith
down_pos (negsuc k) = pow_pos (suc k)

-- ---- of floats

-- what is compared, and is not, is a number
pub le_left : (x y : Float) → Ieee.le x y ≡ true → is_number x ≡ true
unfolding Ieee.le Ieee.lt Ieee.eq is_number Ieee.is_nan
le_left nan y h = never h
le_left (inf s) y h = refl
le_left (fin s m e) y h = refl

pub le_right : (x y : Float) → Ieee.le x y ≡ true → is_number y ≡ true
unfolding Ieee.le Ieee.lt Ieee.eq is_number Ieee.is_nan
le_right nan y h = never h
le_right (inf s) nan h = never h
le_right (inf s) (inf t) h = refl
le_right (inf s) (fin t n d) h = refl
le_right (fin s m e) nan h = never h
le_right (fin s m e) (inf t) h = refl
le_right (fin s m e) (fin t n d) h = refl

pub lt_le : (x y : Float) → Ieee.lt x y ≡ true → Ieee.le x y ≡ true
unfolding Ieee.le
lt_le x y h = rw h

pub number_le : (x : Float) → is_number x ≡ true → Ieee.le x x ≡ true
unfolding Ieee.le Ieee.lt Ieee.eq is_number Ieee.is_nan
number_le nan p = never p
number_le (inf true) p = refl
number_le (inf false) p = refl
number_le (fin true m e) p = of_leq true true (m * up e * down e) (m * up e * down e) (omega arith)
number_le (fin false m e) p = of_leq false false (m * up e * down e) (m * up e * down e) (omega arith)

pub finite_number : (x : Float) → is_finite x ≡ true → is_number x ≡ true
unfolding is_finite is_number Ieee.is_nan
finite_number nan p = never p
finite_number (inf s) p = never p
finite_number (fin s m e) p = refl

-- -infinity is at or before every number, +infinity at or after
pub top : (x : Float) → is_number x ≡ true → Ieee.le x (inf false) ≡ true
unfolding Ieee.le Ieee.lt Ieee.eq is_number Ieee.is_nan
top nan p = never p
top (inf true) p = refl
top (inf false) p = refl
top (fin s m e) p = refl

pub bottom : (x : Float) → is_number x ≡ true → Ieee.le (inf true) x ≡ true
unfolding Ieee.le Ieee.lt Ieee.eq is_number Ieee.is_nan
bottom nan p = never p
bottom (inf true) p = refl
bottom (inf false) p = refl
bottom (fin s m e) p = refl

under_bottom : (x : Float) → Ieee.le x (inf true) ≡ true → x ≡ inf true
unfolding Ieee.le Ieee.lt Ieee.eq
under_bottom nan h = never h
under_bottom (inf true) h = refl
under_bottom (inf false) h = never h
under_bottom (fin s m e) h = never h

over_top : (x : Float) → Ieee.le (inf false) x ≡ true → x ≡ inf false
unfolding Ieee.le Ieee.lt Ieee.eq
over_top nan h = never h
over_top (inf true) h = never h
over_top (inf false) h = refl
over_top (fin s m e) h = never h

pub le_le : (x y z : Float) → Ieee.le x y ≡ true → Ieee.le y z ≡ true → Ieee.le x z ≡ true
unfolding Ieee.le Ieee.lt Ieee.eq
le_le nan y z h k = never h
le_le (inf true) y z h k = bottom z (le_right y z k)
le_le (inf false) y z h k = rw (over_top y h) at k
le_le (fin s m e) nan z h k = never h
le_le (fin s m e) (inf true) z h k = never h
le_le (fin s m e) (inf false) z h k = rw (over_top z k)
le_le (fin s m e) (fin t n d) nan h k = never k
le_le (fin s m e) (fin t n d) (inf true) h k = never k
le_le (fin s m e) (fin t n d) (inf false) h k = refl
le_le (fin s m e) (fin t n d) (fin u k g) h l =
    of_leq s u (m * up e * down g) (k * up g * down e)
    (leq_trans s t u (m * up e) (down e) (n * up d) (down d) (k * up g) (down g) (down_pos e) (down_pos d) (down_pos g) (to_leq s t _ _ h) (to_leq t u _ _ l))

-- of two numbers one is before the other, or the other at it or before
pub not_lt : (x y : Float) → is_number x ≡ true → is_number y ≡ true → Ieee.lt x y ≡ false → Ieee.le y x ≡ true
unfolding Ieee.le Ieee.lt Ieee.eq is_number Ieee.is_nan
not_lt nan y p q h = never p
not_lt (inf s) nan p q h = never q
not_lt (inf true) (inf true) p q h = refl
not_lt (inf true) (inf false) p q h = never (sym h)
not_lt (inf false) (inf true) p q h = refl
not_lt (inf false) (inf false) p q h = refl
not_lt (inf true) (fin t n d) p q h = never (sym h)
not_lt (inf false) (fin t n d) p q h = refl
not_lt (fin s m e) nan p q h = never q
not_lt (fin s m e) (inf true) p q h = refl
not_lt (fin s m e) (inf false) p q h = never (sym h)
not_lt (fin s m e) (fin t n d) p q h = of_leq t s (n * up d * down e) (m * up e * down d) (not_below s t (m * up e * down d) (n * up d * down e) h)

-- never both
apart : (x y : Float) → Ieee.lt x y ≡ true → Ieee.le y x ≡ true → ⊥
unfolding Ieee.le Ieee.lt Ieee.eq
apart nan y h k = never h
apart (inf s) nan h k = never h
apart (inf true) (inf true) h k = never h
apart (inf true) (inf false) h k = never k
apart (inf false) (inf t) h k = never h
apart (inf true) (fin t n d) h k = never k
apart (inf false) (fin t n d) h k = never h
apart (fin s m e) nan h k = never h
apart (fin s m e) (inf true) h k = never h
apart (fin s m e) (inf false) h k = never k
apart (fin s m e) (fin t n d) h k =
    is_below s t (m * up e * down d) (n * up d * down e) h (to_leq t s (n * up d * down e) (m * up e * down d) k)

pub lt_not_le : (x y : Float) → Ieee.lt x y ≡ true → Ieee.le y x ≡ false
lt_not_le x y h = go (Ieee.le y x) refl
  where
    go : (b : Bool) → Ieee.le y x ≡ b → b ≡ false
    go true e = absurd (apart x y h e)
    go false e = refl

pub le_not_lt : (x y : Float) → Ieee.le x y ≡ true → Ieee.lt y x ≡ false
le_not_lt x y h = go (Ieee.lt y x) refl
  where
    go : (b : Bool) → Ieee.lt y x ≡ b → b ≡ false
    go true e = absurd (apart y x e h)
    go false e = refl

pub not_le : (x y : Float) → is_number x ≡ true → is_number y ≡ true → Ieee.le x y ≡ false → Ieee.lt y x ≡ true
not_le x y p q h = go (Ieee.lt y x) refl
  where
    go : (b : Bool) → Ieee.lt y x ≡ b → b ≡ true
    go true e = refl
    go false e = clash (not_lt y x q p e) h

pub le_lt : (x y z : Float) → Ieee.le x y ≡ true → Ieee.lt y z ≡ true → Ieee.lt x z ≡ true
le_lt x y z h k = go (Ieee.lt x z) refl
  where
    go : (b : Bool) → Ieee.lt x z ≡ b → b ≡ true
    go true e = refl
    go false e = absurd (apart y z k (le_le z x y (not_lt x z (le_left x y h) (le_right y z (lt_le y z k)) e) h))

pub lt_le_lt : (x y z : Float) → Ieee.lt x y ≡ true → Ieee.le y z ≡ true → Ieee.lt x z ≡ true
lt_le_lt x y z h k = go (Ieee.lt x z) refl
  where
    go : (b : Bool) → Ieee.lt x z ≡ b → b ≡ true
    go true e = refl
    go false e = absurd (apart x y h (le_le y z x k (not_lt x z (le_left x y (lt_le x y h)) (le_right y z k) e)))

-- a test that code can make for a number
pub number_is : (x : Float) → is_number x ≡ Ieee.eq x x
unfolding is_number Ieee.is_nan Ieee.eq
number_is nan = refl
number_is (inf true) = refl
number_is (inf false) = refl
number_is (fin s m e) = sym (level_self s (m * up e * down e))
  where
    same : (n : ℕ) (b : Bool) → b ≡ true → (eqb n n && (b || eqb n 0)) ≡ true
    same n b e = rw (e, eq-eqb n n refl)

    level_self : (s : Bool) (n : ℕ) → level s n s n ≡ true
    level_self true n = same n true refl
    level_self false n = same n true refl

-- ---- the later of two times

pub later_number : (s t : Float) → is_number s ≡ true → is_number t ≡ true → is_number (later_of s t) ≡ true
unfolding later_of
later_number s t p q = go (Ieee.lt s t)
  where
    go : (b : Bool) → is_number (cond b t s) ≡ true
    go true = q
    go false = p

pub later_true : (s t : Float) → Ieee.lt s t ≡ true → later_of s t ≡ t
unfolding later_of
later_true s t h = rw h

pub later_false : (s t : Float) → Ieee.lt s t ≡ false → later_of s t ≡ s
unfolding later_of
later_false s t h = rw h

-- where the later one is at or before u, both are; and the other way round
pub later_first : (s t u : Float) → Ieee.le (later_of s t) u ≡ true → Ieee.le s u ≡ true
later_first s t u h = go (Ieee.lt s t) refl
  where
    go : (b : Bool) → Ieee.lt s t ≡ b → Ieee.le s u ≡ true
    go true l = le_le s t u (lt_le s t l) (rw (later_true s t l) at h)
    go false l = rw (later_false s t l) at h

pub later_second : (s t u : Float) → is_number s ≡ true → is_number t ≡ true → Ieee.le (later_of s t) u ≡ true → Ieee.le t u ≡ true
later_second s t u p q h = go (Ieee.lt s t) refl
  where
    go : (b : Bool) → Ieee.lt s t ≡ b → Ieee.le t u ≡ true
    go true l = rw (later_true s t l) at h
    go false l = le_le t s u (not_lt s t p q l) (rw (later_false s t l) at h)

pub later_up_to : (s t u : Float) → Ieee.le s u ≡ true → Ieee.le t u ≡ true → Ieee.le (later_of s t) u ≡ true
unfolding later_of
later_up_to s t u h k = go (Ieee.lt s t)
  where
    go : (b : Bool) → Ieee.le (cond b t s) u ≡ true
    go true = k
    go false = h
