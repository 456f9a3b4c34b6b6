-- Bytes as pairs of digits: those read so far and those that are left, those written, and that what was written is read back. Assumes nothing.
use mathlib.Core.Path.{◌≡◌, refl, sym, ap, ◌∙◌, subst}
use mathlib.Core.Bool.{Bool, true, false, cond}
use mathlib.Core.List.{List, [], ◌∷◌, ◌++◌, append-nil}
use Rattle.std.specs.Prelude.{Option, None, Some}
use Prim.Native.Nat.{ℕ, suc, ◌+◌, ◌-◌, ◌*◌, ◌/◌, ◌≤◌, ◌<◌}
use native.Mathlib.Nat.{add-sub_cancel_left}
use native.Mathlib.Numerals.{add-one}
use native.Mathlib.Omega.{arith}
use lib.Dec.{leb}
use lib.ListN.{length, get_or, take, drop, set, length-append, length-take, length-drop, drop_of_length-le}
use lib.Seq.{length-take-le, append_snoc, take-suc-set, drop-cons, drop-drop}
use borrow.Author.Tests.{le-leb, lt-leb, leb-true}
use Rattle.text.specs.Digits.{bits_in, digits_of}
use Rattle.text.specs.Words.{Word, same_word, beside, taken}
use Rattle.text.specs.Put.{Put}
use Rattle.text.specs.Hex.{before, pairs_in, bytes_in, Sized, sized, bytes_up_to, bytes_text}
use Rattle.text.proofs.Writing.{put-nothing, put_same, put_then, length_digits}

-- ---- read

-- bytes that were read before some others
unfoldable pub behind : List ℕ → Option (List ℕ) → Option (List ℕ)
behind xs None = None
behind xs (Some ys) = Some (xs ++ ys)

pub at_first : (o : Option (List ℕ)) → o ≡ behind [] o
unfolding behind
at_first None = refl
at_first (Some ys) = refl

behind_more : (xs : List ℕ) (x : ℕ) (o : Option (List ℕ)) → behind xs (before (Some x) o) ≡ behind (xs ++ (x ∷ [])) o
unfolding behind before
behind_more xs x None = refl
behind_more xs x (Some ys) = ap Some (sym (append_snoc xs x ys))

-- the first two digits, and the others
pair : (w : Word) → 2 ≤ length w → pairs_in w ≡ before (bits_in 2 (take 2 w)) (pairs_in (drop 2 w))
unfolding pairs_in
pair [] h = absurd (omega arith)
pair (c ∷ []) h = absurd (omega arith)
pair (c ∷ d ∷ cs) h = refl

left_over : (w : Word) → length w ≡ 1 → pairs_in w ≡ None
unfolding pairs_in
left_over [] h = absurd (omega arith)
left_over (c ∷ []) h = refl
left_over (c ∷ d ∷ cs) h = absurd (omega arith)

-- a turn: the next byte is read, or is none
module _ (w bytes : List ℕ) (i : ℕ) (more : 2 * i + 2 ≤ length w) where
  this_pair : pairs_in (drop (2 * i) w) ≡ before (bits_in 2 (take (2 * i + 2 - 2 * i) (drop (2 * i) w))) (pairs_in (drop (2 * (i + 1)) w))
  this_pair =
      let next : 2 * i + 2 ≡ 2 * (i + 1) = omega arith in
      rw (add-sub_cancel_left (2 * i) 2, pair (drop (2 * i) w) (omega (arith, length-drop (2 * i) w)), drop-drop, next)

  pub next_is : {b : ℕ} → i < length bytes → bits_in 2 (take (2 * i + 2 - 2 * i) (drop (2 * i) w)) ≡ Some b
      → behind (take i bytes) (pairs_in (drop (2 * i) w)) ≡ behind (take (i + 1) (set bytes i b)) (pairs_in (drop (2 * (i + 1)) w))
  next_is {b} inside e = rw (this_pair, e, behind_more, add-one i, take-suc-set bytes i b inside)

  pub next_not : bits_in 2 (take (2 * i + 2 - 2 * i) (drop (2 * i) w)) ≡ None → behind (take i bytes) (pairs_in (drop (2 * i) w)) ≡ None
  unfolding before behind
  next_not e = rw (this_pair, e)

module _ (w bytes : List ℕ) (i : ℕ) where
  pub all_read : i ≤ length bytes → length w ≡ 2 * i → sized (behind (take i bytes) (pairs_in (drop (2 * i) w))) ≡ Some (i, take i bytes)
  unfolding behind pairs_in sized
  all_read room h =
      let past : length w ≤ 2 * i = omega arith in
      rw (drop_of_length-le w past, append-nil (take i bytes), length-take-le i bytes room)

  pub one_left : length w ≡ 2 * i + 1 → behind (take i bytes) (pairs_in (drop (2 * i) w)) ≡ None
  unfolding behind
  one_left h = rw (left_over (drop (2 * i) w) (omega (arith, length-drop (2 * i) w)))

-- r says whether the word is `-`
module _ {r : Bool} (w : Word) (some-char : length w ≡ 0 → ⊥) (e : r ≡ same_word w (45 ∷ [])) where
  pub no_bytes : r ≡ true → bytes_in w ≡ Some []
  unfolding bytes_in
  no_bytes t = go w some-char e
    where
      go : (w : Word) → (length w ≡ 0 → ⊥) → r ≡ same_word w (45 ∷ []) → bytes_in w ≡ Some []
      go [] n e = absurd (n refl)
      go (c ∷ cs) n e = rw (sym e ∙ t)

  pub some_bytes : r ≡ false → bytes_in w ≡ pairs_in w
  unfolding bytes_in
  some_bytes t = go w some-char e
    where
      go : (w : Word) → (length w ≡ 0 → ⊥) → r ≡ same_word w (45 ∷ []) → bytes_in w ≡ pairs_in w
      go [] n e = absurd (n refl)
      go (c ∷ cs) n e = rw (sym e ∙ t)

pub no_character : (w : Word) → length w ≡ 0 → bytes_in w ≡ None
unfolding bytes_in
no_character [] h = refl
no_character (c ∷ cs) h = absurd (omega arith)

-- the word from a place of a line to another
module _ (most : ℕ) (s : List ℕ) (at to : ℕ) (from : at ≤ to) (inside : to ≤ length s) where
  pub word_long : length (take (to - at) (drop at s)) ≡ to - at
  word_long = simp (length-take, length-drop) (omega arith)

  pub few : (to - at) / 2 ≤ most → bytes_up_to most (take (to - at) (drop at s)) ≡ sized (bytes_in (take (to - at) (drop at s)))
  unfolding bytes_up_to
  few h = rw (word_long, le-leb ((to - at) / 2) most h)

  pub too_many : most < (to - at) / 2 → bytes_up_to most (take (to - at) (drop at s)) ≡ None
  unfolding bytes_up_to
  too_many h = rw (word_long, lt-leb ((to - at) / 2) most h)

-- ---- bytes that were read are within their ceiling

never : {A : Type 0} {B : Type 0} {x : A} → ◌≡◌ {A = Option A} None (Some x) → B
never e = let z : ◌≡◌ {A = ℕ} 0 1 = cc in absurd (omega arith)

pairs_long : (w : Word) {bs : List ℕ} → pairs_in w ≡ Some bs → 2 * length bs ≤ length w
unfolding pairs_in before
pairs_long [] {bs} e = let is : [] ≡ bs = cc in subst (λ (l : List ℕ). 2 * length l ≤ 0) is (omega arith)
pairs_long (c ∷ []) e = never e
pairs_long (c ∷ d ∷ cs) {bs} e = go (bits_in 2 (c ∷ d ∷ [])) (pairs_in cs) (λ ys h. pairs_long cs h) e
  where
    go : (o : Option ℕ) (p : Option (List ℕ)) → ((ys : List ℕ) → p ≡ Some ys → 2 * length ys ≤ length cs) → before o p ≡ Some bs → 2 * length bs ≤ suc (suc (length cs))
    go None p h e = never e
    go (Some b) None h e = never e
    go (Some b) (Some ys) h e = let is : (b ∷ ys) ≡ bs = cc in subst (λ (l : List ℕ). 2 * length l ≤ suc (suc (length cs))) is (omega (arith, h ys refl))

bytes_long : (w : Word) {bs : List ℕ} → bytes_in w ≡ Some bs → 2 * length bs ≤ length w
unfolding bytes_in
bytes_long [] e = never e
bytes_long (c ∷ cs) {bs} e = go (same_word (c ∷ cs) (45 ∷ [])) e
  where
    go : (t : Bool) → cond t (Some []) (pairs_in (c ∷ cs)) ≡ Some bs → 2 * length bs ≤ length (c ∷ cs)
    go true e = let is : [] ≡ bs = cc in subst (λ (l : List ℕ). 2 * length l ≤ length (c ∷ cs)) is (omega arith)
    go false e = pairs_long (c ∷ cs) e

-- how many they are is how many were put into the slice
pub bytes_below : (most : ℕ) (ws : List Word) {b : Sized} {rest : List Word} → taken (bytes_up_to most) ws ≡ Some (b, rest) → (b.0 ≤ most) × (b.0 ≡ length b.1)
unfolding taken beside bytes_up_to sized
bytes_below most [] e = never e
bytes_below most (w ∷ ws) {b} {rest} e = by_test (leb (length w / 2) most) refl (bytes_in w) refl e
  where
    by_test : (t : Bool) → leb (length w / 2) most ≡ t → (o : Option (List ℕ)) → bytes_in w ≡ o → beside (cond t (sized o) None) ws ≡ Some (b, rest) → (b.0 ≤ most) × (b.0 ≡ length b.1)
    by_test true h None k e = never e
    by_test true h (Some bs) k e =
        let p : ◌≡◌ {A = Sized × List Word} ((length bs, bs), ws) (b, rest) = cc in
        subst (λ (x : Sized). (x.0 ≤ most) × (x.0 ≡ length x.1)) (ap (λ (q : Sized × List Word). q.0) p) (omega (arith, leb-true (length w / 2) most h, bytes_long w k), refl)
    by_test false h o k e = never e

-- ---- written

pub next_byte : {out out' F : List ℕ} {at at' r : ℕ} (i : ℕ) (bytes : List ℕ) (d : ℕ) → i < length bytes → Put out at (digits_of 16 2 (get_or bytes i d)) out' at' → at' ≤ length out
    → Put out' at' (bytes_text (drop (i + 1) bytes)) F r → Put out at (bytes_text (drop i bytes)) F r
unfolding bytes_text
next_byte i bytes d inside p room q = put_same (rw (add-one i, drop-cons bytes i d inside)) (put_then p q room)

pub no_byte : (out : List ℕ) (at : ℕ) (bytes : List ℕ) (i : ℕ) → length bytes ≤ i → Put out at (bytes_text (drop i bytes)) out at
unfolding bytes_text
no_byte out at bytes i past = rw (drop_of_length-le bytes past) (put-nothing out at)

pub bytes_length : (bytes : List ℕ) → length (bytes_text bytes) ≡ 2 * length bytes
unfolding bytes_text
bytes_length [] = refl
bytes_length (b ∷ bs) = simp length-append (omega (arith, length_digits 16 2 b, bytes_length bs))
