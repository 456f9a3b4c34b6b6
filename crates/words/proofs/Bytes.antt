-- Numbers as bytes and back: a number from its bytes, bytes from their number, a list's bytes before and behind others; then floats, over their bits. Assumes nothing.
use mathlib.Core.Path.{◌≡◌, refl, sym, ap, ◌∙◌, subst}
use mathlib.Core.Bool.{true, not}
use mathlib.Core.List.{List, [], ◌∷◌, ◌++◌, append_assoc}
use Prim.Native.Nat.{ℕ, zero, suc, ◌+◌, ◌*◌, ◌/◌, ◌%◌, ◌^◌, ◌≤◌, ◌<◌}
use native.Mathlib.Nat.{add_assoc, mod-eq_of_lt, mod-add-div, pow-zero, pow-suc, pow-le-pow_right, lt_of_lt_of_le}
use native.Mathlib.Omega.{arith}
use lib.Dec.{T}
use lib.ListN.{length, get_or, take, drop, length-append, length-take, length-drop}
use lib.Seq.{take_at, take-add, take-append-le, drop-append-le, drop-append-add, drop-drop, length-take-le}
use lib.Ieee.{Float, binary32, binary64, fits, is_nan, of_bits, to_bits}
use lib.Ieee.Bits.{of_bits-to_bits, to_bits-of_bits, to_bits-lt, of_bits-fits}
use Rattle.rules.specs.Numbers.{is_finite}
use Rattle.rules.specs.Refusals.{all_finite}
use Rattle.laws.specs.Sound.{is_number}
use Rattle.laws.proofs.Tests.{both}
use Rattle.laws.proofs.Order.{finite_number}
use Rattle.words.specs.Words.{bytes_of, word_in, AreBytes, word_at, single_in, double_in, single_at, double_at, singles_at, single_bytes, double_bytes, numbers_bytes, AreSingles}

-- ---- which numbers are bytes

-- what is known of a slice of u8, whose elements fit their type, every place taken
pub are_bytes : (bs : List ℕ) → ((i : ℕ) → get_or bs i 0 < 256) → AreBytes bs
unfolding AreBytes
are_bytes [] h = tt
are_bytes (b ∷ bs) h = (h 0, are_bytes bs (λ i. h (suc i)))

pub byte_at : (bs : List ℕ) → AreBytes bs → (i : ℕ) → get_or bs i 0 < 256
unfolding AreBytes
byte_at [] h i = omega arith
byte_at (b ∷ bs) h zero = h.0
byte_at (b ∷ bs) h (suc i) = byte_at bs h.1 i

pub bytes_take : (k : ℕ) (bs : List ℕ) → AreBytes bs → AreBytes (take k bs)
unfolding AreBytes
bytes_take zero bs h = tt
bytes_take (suc k) [] h = tt
bytes_take (suc k) (b ∷ bs) h = (h.0, bytes_take k bs h.1)

pub bytes_drop : (k : ℕ) (bs : List ℕ) → AreBytes bs → AreBytes (drop k bs)
unfolding AreBytes
bytes_drop zero bs h = h
bytes_drop (suc k) [] h = tt
bytes_drop (suc k) (b ∷ bs) h = bytes_drop k bs h.1

pub bytes_append : (bs cs : List ℕ) → AreBytes bs → AreBytes cs → AreBytes (bs ++ cs)
unfolding AreBytes
bytes_append [] cs h g = g
bytes_append (b ∷ bs) cs h g = (h.0, bytes_append bs cs h.1 g)

pub bytes_small : (k n : ℕ) → AreBytes (bytes_of k n)
unfolding AreBytes bytes_of
bytes_small zero n = tt
bytes_small (suc k) n = (omega arith, bytes_small k (n / 256))

pub bytes_single : (x : Float) → AreBytes (single_bytes x)
unfolding single_bytes
bytes_single x = bytes_small 4 _

pub bytes_double : (x : Float) → AreBytes (double_bytes x)
unfolding double_bytes
bytes_double x = bytes_small 8 _

pub bytes_numbers : (xs : List Float) → AreBytes (numbers_bytes xs)
unfolding numbers_bytes AreBytes
bytes_numbers [] = tt
bytes_numbers (x ∷ xs) = bytes_append (single_bytes x) (numbers_bytes xs) (bytes_single x) (bytes_numbers xs)

-- ---- a number and its bytes

pub length_bytes : (k n : ℕ) → length (bytes_of k n) ≡ k
unfolding bytes_of
length_bytes zero n = refl
length_bytes (suc k) n = ap suc (length_bytes k (n / 256))

pub word_back : (k n : ℕ) → n < 256 ^ k → word_in (bytes_of k n) ≡ n
unfolding bytes_of word_in
word_back zero n h = omega (arith, pow-zero 256)
word_back (suc k) n h = rw (word_back k (n / 256) (omega (arith, pow-suc 256 k))) (mod-add-div n 256)

pub word_small : (bs : List ℕ) → AreBytes bs → word_in bs < 256 ^ length bs
unfolding AreBytes word_in
word_small [] h = omega (arith, pow-zero 256)
word_small (b ∷ bs) h = omega (arith, pow-suc 256 (length bs), word_small bs h.1, h.0)

pub bytes_back : (bs : List ℕ) → AreBytes bs → bytes_of (length bs) (word_in bs) ≡ bs
unfolding AreBytes bytes_of word_in
bytes_back [] h = refl
bytes_back (b ∷ bs) h =
    let small : b < 256 = h.0 in
    let low : (b + 256 * word_in bs) % 256 ≡ b = omega arith in
    let high : (b + 256 * word_in bs) / 256 ≡ word_in bs = omega arith in
    rw (low, high, bytes_back bs h.1)

-- ---- the bytes from a place on

pub word_front : (k : ℕ) (bs cs : List ℕ) (at : ℕ) → at + k ≤ length bs → word_at k (bs ++ cs) at ≡ word_at k bs at
unfolding word_at
word_front k bs cs at h = rw (drop-append-le at bs cs (omega arith), take-append-le k (drop at bs) cs (simp length-drop (omega arith)))

pub word_behind : (k : ℕ) (bs cs : List ℕ) (at : ℕ) → word_at k (bs ++ cs) (length bs + at) ≡ word_at k cs at
unfolding word_at
word_behind k bs cs at = rw (drop-append-add bs cs at)

-- what was written at the front
pub word_written : (k n : ℕ) (rest : List ℕ) → n < 256 ^ k → word_at k (bytes_of k n ++ rest) 0 ≡ n
unfolding word_at
word_written k n rest h = rw (take_at (bytes_of k n) rest k (length_bytes k n)) (word_back k n h)

pub word_at_small : (k : ℕ) (bs : List ℕ) (at : ℕ) → AreBytes bs → word_at k bs at < 256 ^ k
unfolding word_at
word_at_small k bs at h =
    lt_of_lt_of_le (word_small (take k (drop at bs)) (bytes_take k (drop at bs) (bytes_drop at bs h)))
    (pow-le-pow_right (omega arith) (simp length-take (omega arith)))

pub word_bytes_back : (k : ℕ) (bs : List ℕ) (at : ℕ) → AreBytes bs → at + k ≤ length bs → bytes_of k (word_at k bs at) ≡ take k (drop at bs)
unfolding word_at
word_bytes_back k bs at h room =
    let long : length (take k (drop at bs)) ≡ k = length-take-le k (drop at bs) (simp length-drop (omega arith)) in
    subst (λ (j : ℕ). bytes_of j (word_in (take k (drop at bs))) ≡ take k (drop at bs)) long
    (bytes_back (take k (drop at bs)) (bytes_take k (drop at bs) (bytes_drop at bs h)))

-- ---- floats

pub fits_single : (bs : List ℕ) (at : ℕ) → T (fits binary32 (single_at bs at))
unfolding single_at
fits_single bs at = of_bits-fits binary32 _

pub fits_double : (bs : List ℕ) (at : ℕ) → T (fits binary64 (double_at bs at))
unfolding double_at
fits_double bs at = of_bits-fits binary64 _

pub single_front : (bs cs : List ℕ) (at : ℕ) → at + 4 ≤ length bs → single_at (bs ++ cs) at ≡ single_at bs at
unfolding single_at
single_front bs cs at h = ap single_in (word_front 4 bs cs at h)

pub single-behind : (bs cs : List ℕ) (at : ℕ) → single_at (bs ++ cs) (length bs + at) ≡ single_at cs at
unfolding single_at
single-behind bs cs at = ap single_in (word_behind 4 bs cs at)

pub double_front : (bs cs : List ℕ) (at : ℕ) → at + 8 ≤ length bs → double_at (bs ++ cs) at ≡ double_at bs at
unfolding double_at
double_front bs cs at h = ap double_in (word_front 8 bs cs at h)

pub double-behind : (bs cs : List ℕ) (at : ℕ) → double_at (bs ++ cs) (length bs + at) ≡ double_at cs at
unfolding double_at
double-behind bs cs at = ap double_in (word_behind 8 bs cs at)

-- a float's bits give it back
pub bits_single : (x : Float) → T (fits binary32 x) → single_in (to_bits binary32 x) ≡ x
bits_single x h = ap (of_bits binary32) (mod-eq_of_lt (to_bits-lt binary32 x h)) ∙ of_bits-to_bits binary32 x h

pub bits_double : (x : Float) → T (fits binary64 x) → double_in (to_bits binary64 x) ≡ x
bits_double x h = of_bits-to_bits binary64 x h

pub single_back : (x : Float) (rest : List ℕ) → T (fits binary32 x) → single_at (single_bytes x ++ rest) 0 ≡ x
unfolding single_at single_bytes
single_back x rest h = ap single_in (word_written 4 (to_bits binary32 x) rest (to_bits-lt binary32 x h)) ∙ bits_single x h

pub double_back : (x : Float) (rest : List ℕ) → T (fits binary64 x) → double_at (double_bytes x ++ rest) 0 ≡ x
unfolding double_at double_bytes
double_back x rest h = ap double_in (word_written 8 (to_bits binary64 x) rest (to_bits-lt binary64 x h)) ∙ bits_double x h

pub single_bytes_back : (bs : List ℕ) (at : ℕ) → AreBytes bs → at + 4 ≤ length bs → T (not (is_nan (single_at bs at))) → single_bytes (single_at bs at) ≡ take 4 (drop at bs)
unfolding single_at single_bytes
single_bytes_back bs at h room number =
    let small : word_at 4 bs at < 2 ^ 32 = word_at_small 4 bs at h in
    let low : word_at 4 bs at % 2 ^ 32 ≡ word_at 4 bs at = mod-eq_of_lt small in
    rw low (ap (bytes_of 4) (to_bits-of_bits binary32 (word_at 4 bs at) small (rw low at number)) ∙ word_bytes_back 4 bs at h room)

pub double_bytes_back : (bs : List ℕ) (at : ℕ) → AreBytes bs → at + 8 ≤ length bs → T (not (is_nan (double_at bs at))) → double_bytes (double_at bs at) ≡ take 8 (drop at bs)
unfolding double_at double_bytes
double_bytes_back bs at h room number =
    ap (bytes_of 8) (to_bits-of_bits binary64 (word_at 8 bs at) (word_at_small 8 bs at h) number) ∙ word_bytes_back 8 bs at h room

-- ---- several, one behind the other

-- what is known of a slice of f32
pub are_singles : (xs : List Float) (d : Float) → ((i : ℕ) → T (fits binary32 (get_or xs i d))) → AreSingles xs
unfolding AreSingles
are_singles [] d h = tt
are_singles (x ∷ xs) d h = (h 0, are_singles xs d (λ i. h (suc i)))

pub singles-take : (n : ℕ) (xs : List Float) → AreSingles xs → AreSingles (take n xs)
unfolding AreSingles
singles-take zero xs h = tt
singles-take (suc n) [] h = tt
singles-take (suc n) (x ∷ xs) h = (h.0, singles-take n xs h.1)

pub singles-drop : (n : ℕ) (xs : List Float) → AreSingles xs → AreSingles (drop n xs)
unfolding AreSingles
singles-drop zero xs h = h
singles-drop (suc n) [] h = tt
singles-drop (suc n) (x ∷ xs) h = singles-drop n xs h.1

pub length-numbers : (xs : List Float) → length (numbers_bytes xs) ≡ 4 * length xs
unfolding numbers_bytes single_bytes
length-numbers [] = refl
length-numbers (x ∷ xs) = simp length-append (omega (arith, length_bytes 4 (to_bits binary32 x), length-numbers xs))

module _ (bs : List ℕ) where
  pub length-singles : (at n : ℕ) → length (singles_at bs at n) ≡ n
  unfolding singles_at
  length-singles at zero = refl
  length-singles at (suc n) = ap suc (length-singles (at + 4) n)

  pub fits_singles : (at n : ℕ) → AreSingles (singles_at bs at n)
  unfolding singles_at AreSingles
  fits_singles at zero = tt
  fits_singles at (suc n) = (fits_single bs at, fits_singles (at + 4) n)

  pub singles_front : (cs : List ℕ) (at n : ℕ) → at + 4 * n ≤ length bs → singles_at (bs ++ cs) at n ≡ singles_at bs at n
  unfolding singles_at
  singles_front cs at zero h = refl
  singles_front cs at (suc n) h = rw (single_front bs cs at (omega arith), singles_front cs (at + 4) n (omega arith))

  pub singles-behind : (cs : List ℕ) (at n : ℕ) → singles_at (bs ++ cs) (length bs + at) n ≡ singles_at cs at n
  unfolding singles_at
  singles-behind cs at zero = refl
  singles-behind cs at (suc n) = rw (single-behind bs cs at, add_assoc (length bs) at 4, singles-behind cs (at + 4) n)

  pub singles_bytes_back : (at n : ℕ) → AreBytes bs → at + 4 * n ≤ length bs → all_finite (singles_at bs at n) ≡ true → numbers_bytes (singles_at bs at n) ≡ take (4 * n) (drop at bs)
  unfolding singles_at numbers_bytes all_finite is_number
  singles_bytes_back at zero h room fine = refl
  singles_bytes_back at (suc n) h room fine =
      let parts = both (is_finite (single_at bs at)) (all_finite (singles_at bs (at + 4) n)) fine in
      let more : 4 * suc n ≡ 4 + 4 * n = omega arith in
      rw (single_bytes_back bs at h (omega arith) (subst T (sym (finite_number (single_at bs at) parts.0)) tt), singles_bytes_back (at + 4) n h (omega arith) parts.1, more, take-add 4 (4 * n) (drop at bs), drop-drop 4 at bs)

pub singles_back : (xs : List Float) (rest : List ℕ) → AreSingles xs → singles_at (numbers_bytes xs ++ rest) 0 (length xs) ≡ xs
unfolding singles_at numbers_bytes AreSingles single_bytes bytes_of
singles_back [] rest h = refl
singles_back (x ∷ xs) rest h =
    let four : 4 ≡ length (single_bytes x) + 0 = unfold single_bytes in omega (arith, length_bytes 4 (to_bits binary32 x)) in
    rw (append_assoc (single_bytes x) (numbers_bytes xs) rest, single_back x (numbers_bytes xs ++ rest) h.0)
    (ap (λ (ys : List Float). x ∷ ys)
    (ap (λ (at : ℕ). singles_at (single_bytes x ++ (numbers_bytes xs ++ rest)) at (length xs)) four ∙ singles-behind (single_bytes x) (numbers_bytes xs ++ rest) 0 (length xs) ∙ singles_back xs rest h.1))
