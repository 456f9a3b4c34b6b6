-- Bit patterns and NaN, for every format: a NaN is read from any NaN pattern, and written as the one that `to_bits` gives. Assumes nothing.
use mathlib.Core.Path.{◌≡◌, refl, sym, ap, ◌∙◌, subst}
use mathlib.Core.Bool.{true, false, not}
use Prim.Native.Nat.{ℕ, ◌*◌, ◌%◌, ◌≤◌, ◌<◌}
use native.Mathlib.Nat.{mod-eq_of_lt}
use lib.Dec.{T}
use borrow.Author.Tests.{lt-ltb, le-ltb}
use lib.Ieee.{Float, nan, inf, fin, Format, binary32, binary64, fits, ones, hid, top, of_bits, to_bits, is_nan, nan_bits, ne, eq}
use lib.Ieee.Bits.{nan_bits_is, nan_bits_above, of_bits-to_bits, to_bits-lt}
use lib.Ieee.Compare.{differs_from_itself}
use Rattle.text.specs.Floats.{of_word}

is_nan_lem : (x : Float) → is_nan x ≡ true → x ≡ nan
unfolding is_nan
is_nan_lem nan e = refl
is_nan_lem (inf s) e = absurd (subst T (sym e) tt)
is_nan_lem (fin s m d) e = absurd (subst T (sym e) tt)

-- a pattern above infinity's, the sign left out
pub a_nan : (f : Format) (n : ℕ) → ones f * hid f < n % top f → of_bits f n ≡ nan
a_nan f n h = is_nan_lem (of_bits f n) (sym (nan_bits_is f n) ∙ nan_bits_above f n ∙ lt-ltb _ _ h)

pub no_nan : (f : Format) (n : ℕ) → n % top f ≤ ones f * hid f → T (not (nan_bits f n))
no_nan f n h = rw (nan_bits_above f n, le-ltb (ones f * hid f) (n % top f) h) tt

pub differs : (f : Format) (x : Float) → ne x x ≡ true → to_bits f nan ≡ to_bits f x
differs f x e = ap (to_bits f) (sym (differs_from_itself x (subst T (sym e) tt)))

pub differs_not : (x : Float) → ne x x ≡ false → T (not (is_nan x))
unfolding is_nan ne eq
differs_not nan e = subst T e tt
differs_not (inf s) e = tt
differs_not (fin s m d) e = tt

-- a float's bits give it back, the NaN's too
pub word_back : (f : Format) (x : Float) → T (fits f x) → of_word f (to_bits f x) ≡ x
word_back binary32 x h = ap (of_bits binary32) (mod-eq_of_lt (to_bits-lt binary32 x h)) ∙ of_bits-to_bits binary32 x h
word_back binary64 x h = of_bits-to_bits binary64 x h
