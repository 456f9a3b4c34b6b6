-- What the code makes of single bytes: the next one read, four in one sum, two words in one, the next one written. Assumes nothing.
use mathlib.Core.Path.{◌≡◌, refl, sym, ap, ◌∙◌}
use mathlib.Core.List.{List, [], ◌∷◌, ◌++◌}
use Prim.Native.Nat.{ℕ, suc, ◌+◌, ◌-◌, ◌*◌, ◌/◌, ◌%◌, ◌^◌, ◌≤◌, ◌<◌}
use native.Mathlib.Nat.{mul_right_comm, pow-zero, pow-suc}
use native.Mathlib.Numerals.{add-one}
use native.Mathlib.Omega.{arith}
use lib.ListN.{length, get_or, set, take, drop, length-drop}
use lib.Seq.{drop-cons, drop-drop, length-take-le, take-add}
use lib.Ieee.{Float, Format, binary32, binary64, to_bits}
use Rattle.text.specs.Floats.{digits_for, of_word}
use Rattle.text.specs.Put.{put, Put}
use Rattle.text.proofs.Writing.{put_none, put_first, put_same}
use Rattle.words.specs.Words.{bytes_of, word_in, AreBytes, word_at, width_of, single_in, double_in, single_at, double_at, real_at, single_bytes, double_bytes, real_bytes}
use Rattle.words.proofs.Bytes.{word_at_small}

-- ---- read

-- one byte more, before the others
pub word_next : (k : ℕ) (bs : List ℕ) (at : ℕ) → at < length bs → word_at (suc k) bs at ≡ get_or bs at 0 + 256 * word_at k bs (at + 1)
unfolding word_at word_in
word_next k bs at h = rw (drop-cons bs at 0 h, add-one at)

pub no_word : (bs : List ℕ) (at : ℕ) → word_at 0 bs at ≡ 0
unfolding word_at word_in
no_word bs at = refl

-- a turn of the loop: the byte before those taken
pub word_turn : (k : ℕ) (bs : List ℕ) (at i : ℕ) → 0 < i → i ≤ k → at + k ≤ length bs
    → get_or bs (at + (i - 1)) 0 + 256 * word_at (k - i) bs (at + i) ≡ word_at (k - (i - 1)) bs (at + (i - 1))
word_turn k bs at i some h room =
    let more : k - (i - 1) ≡ suc (k - i) = omega arith in
    let next : at + (i - 1) + 1 ≡ at + i = omega arith in
    rw (more, word_next (k - i) bs (at + (i - 1)) (omega arith), next)

-- four bytes in one sum
abbrev pub four_bytes : List ℕ → ℕ → ℕ
four_bytes bs at = get_or bs at 0 + 0x100 * get_or bs (at + 1) 0 + 0x1_0000 * get_or bs (at + 2) 0 + 0x100_0000 * get_or bs (at + 3) 0

pub four_bytes_lem : (bs : List ℕ) (at : ℕ) → at + 4 ≤ length bs → word_at 4 bs at ≡ four_bytes bs at
four_bytes_lem bs at h =
    let two : at + 2 ≡ at + 1 + 1 = omega arith in
    let three : at + 3 ≡ at + 1 + 1 + 1 = omega arith in
    rw (two, three)
    (omega (arith, word_next 3 bs at (omega arith), word_next 2 bs (at + 1) (omega arith), word_next 1 bs (at + 1 + 1) (omega arith), word_next 0 bs (at + 1 + 1 + 1) (omega arith), no_word bs (at + 1 + 1 + 1 + 1)))

pub four_small : (bs : List ℕ) (at : ℕ) → AreBytes bs → at + 4 ≤ length bs → four_bytes bs at < 2 ^ 32
four_small bs at h room = rw (four_bytes_lem bs at room) at (word_at_small 4 bs at h)

word_append : (bs cs : List ℕ) → word_in (bs ++ cs) ≡ word_in bs + 256 ^ length bs * word_in cs
unfolding word_in
word_append [] cs = rw (pow-zero 256) (omega arith)
word_append (b ∷ bs) cs = rw (word_append bs cs, pow-suc 256 (length bs), mul_right_comm (256 ^ length bs) 256 (word_in cs)) (omega arith)

-- a word as two of its parts
pub word_parts : (j k : ℕ) (bs : List ℕ) (at : ℕ) → at + j ≤ length bs → word_at (j + k) bs at ≡ word_at j bs at + 256 ^ j * word_at k bs (at + j)
unfolding word_at
word_parts j k bs at h =
    let long : length (take j (drop at bs)) ≡ j = length-take-le j (drop at bs) (simp length-drop (omega arith)) in
    rw (take-add j k (drop at bs), word_append (take j (drop at bs)) (take k (drop j (drop at bs))), long, drop-drop j at bs)

-- ---- written

-- a turn of the loop: with the lowest byte written, one byte fewer is left
pub put-turn : (out : List ℕ) (at k i left : ℕ) → i < k → at + i < length out
    → put out (at + i) (bytes_of (k - i) left) ≡ put (set out (at + i) (left % 256)) (at + (i + 1)) (bytes_of (k - (i + 1)) (left / 256))
unfolding bytes_of
put-turn out at k i left h room =
    let more : k - i ≡ suc (k - (i + 1)) = omega arith in
    let next : at + (i + 1) ≡ at + i + 1 = omega arith in
    rw (more, next, put_first out (at + i) (left % 256) (bytes_of (k - (i + 1)) (left / 256)) room)

pub put-over : (out : List ℕ) (at k i left : ℕ) → k ≤ i → put out (at + i) (bytes_of (k - i) left) ≡ out
unfolding bytes_of
put-over out at k i left h = let none : k - i ≡ 0 = omega arith in rw none (put_none out (at + i))

-- ---- floats of either format

module _ {k : ℕ} where
  pub half : (f : Format) → k ≡ digits_for f → k / 2 ≡ width_of f
  half binary32 e = omega (arith, e)
  half binary64 e = omega (arith, e)

  -- the four bytes of the one are a float of it, the eight of the other
  pub single_word : (f : Format) (bs : List ℕ) (at : ℕ) {n : ℕ} → k ≡ digits_for f → ¬ (k ≡ 16) → n ≡ word_at 4 bs at → of_word f n ≡ real_at f bs at
  unfolding single_at
  single_word binary32 bs at e other w = ap single_in w
  single_word binary64 bs at e other w = absurd (other e)

  pub double_word : (f : Format) (bs : List ℕ) (at : ℕ) {low high : ℕ} → k ≡ digits_for f → k ≡ 16 → at + width_of f ≤ length bs → low ≡ word_at 4 bs at → high ≡ word_at 4 bs (at + 4) → of_word f (low + 0x1_0000_0000 * high) ≡ real_at f bs at
  unfolding double_at
  double_word binary32 bs at e long room l h = absurd (omega (arith, e, long))
  double_word binary64 bs at e long room l h = ap double_in (rw (l, h) (sym (word_parts 4 4 bs at (omega arith))))

  pub put_bits : (f : Format) {l l' : List ℕ} {at next : ℕ} (n : ℕ) (x : Float) → k ≡ digits_for f → n ≡ to_bits f x → Put l at (bytes_of (k / 2) n) l' next → Put l at (real_bytes f x) l' next
  unfolding single_bytes double_bytes
  put_bits binary32 n x e b = put_same (ap (λ (j : ℕ). bytes_of j n) (half binary32 e) ∙ ap (bytes_of 4) b)
  put_bits binary64 n x e b = put_same (ap (λ (j : ℕ). bytes_of j n) (half binary64 e) ∙ ap (bytes_of 8) b)
