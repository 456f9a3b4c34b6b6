-- Numbers as bytes, "low byte first", and floats as their bits (02, C-11).
use Rattle.std.specs.Prelude.{List, [], ◌∷◌, ◌++◌, ℕ, zero, suc, ◌+◌, ◌*◌, ◌/◌, ◌%◌, ◌^◌, ◌<◌, T, take, drop, Float}
use Rattle.std.specs.Float.{Format, binary32, binary64}
use Rattle.std.specs.Float.Ieee.{fits, of_bits, to_bits}

-- ---- whole numbers

-- the k low bytes of n
unfoldable pub bytes_of : ℕ → ℕ → List ℕ
bytes_of zero n = []
bytes_of (suc k) n = n % 256 ∷ bytes_of k (n / 256)

-- the number of some bytes
unfoldable pub word_in : List ℕ → ℕ
word_in [] = 0
word_in (b ∷ bs) = b + 256 * word_in bs

-- that of the k bytes from a place on
unfoldable pub word_at : ℕ → List ℕ → ℕ → ℕ
word_at k bs at = word_in (take k (drop at bs))

-- every number of a list is a byte
unfoldable pub AreBytes : List ℕ → Type 0
AreBytes [] = Unit
AreBytes (b ∷ bs) = (b < 256) × AreBytes bs

-- ---- floats: "f32 and f64 are their bits"

-- every NaN is the one NaN; an f32's bits are the low 32 of its number
abbrev pub single_in : ℕ → Float
single_in n = of_bits binary32 (n % 2 ^ 32)

abbrev pub double_in : ℕ → Float
double_in n = of_bits binary64 n

unfoldable pub single_at : List ℕ → ℕ → Float
single_at bs at = single_in (word_at 4 bs at)

unfoldable pub double_at : List ℕ → ℕ → Float
double_at bs at = double_in (word_at 8 bs at)

-- n of them, one behind the other
unfoldable pub singles_at : List ℕ → ℕ → ℕ → List Float
singles_at bs at zero = []
singles_at bs at (suc n) = single_at bs at ∷ singles_at bs (at + 4) n

unfoldable pub single_bytes : Float → List ℕ
single_bytes x = bytes_of 4 (to_bits binary32 x)

unfoldable pub double_bytes : Float → List ℕ
double_bytes x = bytes_of 8 (to_bits binary64 x)

-- those of several f32, one behind the other
unfoldable pub numbers_bytes : List Float → List ℕ
numbers_bytes [] = []
numbers_bytes (x ∷ xs) = single_bytes x ++ numbers_bytes xs

-- every float of a list is an f32
unfoldable pub AreSingles : List Float → Type 0
AreSingles [] = Unit
AreSingles (x ∷ xs) = T (fits binary32 x) × AreSingles xs

-- ---- either format

-- how many bytes it takes
abbrev pub width_of : Format → ℕ
width_of binary32 = 4
width_of binary64 = 8

abbrev pub real_at : Format → List ℕ → ℕ → Float
real_at binary32 bs at = single_at bs at
real_at binary64 bs at = double_at bs at

abbrev pub real_bytes : Format → Float → List ℕ
real_bytes binary32 x = single_bytes x
real_bytes binary64 x = double_bytes x
