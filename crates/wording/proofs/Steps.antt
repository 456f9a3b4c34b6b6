-- From what the code says of the next word, of a field and of fields to what they mean. Assumes nothing.
use mathlib.Core.Path.{◌≡◌, refl, sym, ap, ◌∙◌, subst}
use mathlib.Core.Bool.{Bool, true, false, cond}
use mathlib.Core.List.{List, [], ◌∷◌, ◌++◌, append_assoc, append-nil}
use Rattle.std.specs.Prelude.{Option, None, Some}
use Prim.Native.Nat.{ℕ, suc, ◌+◌, ◌-◌, ◌*◌, ◌≤◌, ◌<◌}
use native.Mathlib.Nat.{sub-zero}
use native.Mathlib.Omega.{arith}
use Prim.Native.Char.{code}
use lib.Dec.{leb}
use lib.ListN.{length, take, drop, length-drop}
use lib.Seq.{length-take-le, take-length}
use lib.Ieee.{Float, Format, binary32, binary64}
use Rattle.scan.specs.Bytes.{index_of, slice}
use Rattle.text.specs.Digits.{number_in}
use Rattle.text.specs.Floats.{digits_for, float_text}
use Rattle.text.specs.Put.{put, Put}
use Rattle.text.specs.Words.{Word, same_word, is_over}
use Rattle.text.proofs.Writing.{put_front, put_then, length_float}
use Rattle.calls.specs.Language.{ending}
use Rattle.decimal.specs.Codes.{codes}
use Rattle.decimal.specs.Decimals.{before, plain_in}
use Rattle.decimal.proofs.Reading.{found}
use Rattle.wording.specs.declared.Kind.{Kind}
use Rattle.wording.specs.declared.Form.{Form}
use Rattle.wording.specs.declared.Span.{Span}
use Rattle.wording.specs.declared.Told.{Told}
use Rattle.wording.specs.Plain.{words_at, Fields, in_front, spaced, bits_of, field_of, with_field, fields, tail_of, and_then, formed, formed_by, numbers, capped_at, length_for, length_and, block_fields, edition_fields, made_fields, Row, row, form_in, rows, whole, translated, translation}
use Rattle.wording.specs.Walked.{first_of, next_at, Behind, Wrote, Ran, Passed, Inside, Room}

-- ---- the next word

first_some : (xs : List Word) (w : Word) (ws : List Word) → Some (w, ws) ≡ first_of xs → xs ≡ w ∷ ws
unfolding first_of
first_some [] w ws e = absurd (let z : ◌≡◌ {A = ℕ} 0 1 = cc in omega arith)
first_some (x ∷ xs) w ws e =
    let p : ◌≡◌ {A = Word × List Word} (w, ws) (x, xs) = cc in
    let q = sym p in
    λ i. (q i).0 ∷ (q i).1

first_none : (xs : List Word) → None ≡ first_of xs → xs ≡ []
unfolding first_of
first_none [] e = refl
first_none (x ∷ xs) e = absurd (let z : ◌≡◌ {A = ℕ} 0 1 = cc in omega arith)

module _ (s : List ℕ) (at : ℕ) where
  pub a_next : (w : Span) → next_at s (Some w) ≡ first_of (words_at s at) → words_at s at ≡ take (w.to - w.from) (drop w.from s) ∷ words_at s w.to
  unfolding next_at
  a_next w e = first_some (words_at s at) _ _ e

  pub no_next : next_at s None ≡ first_of (words_at s at) → words_at s at ≡ []
  unfolding next_at
  no_next e = first_none (words_at s at) e

  pub places : (w : Span) → Behind s at (Some w) → (at ≤ w.from) × (w.from < w.to) × (w.to ≤ length s)
  unfolding Behind
  places w b = b

-- ---- a field

module _ (w : Word) {k : Kind} where
  pub a_value : k ≡ Kind.Value → {x : Float} → plain_in binary32 w ≡ Some x → field_of k w ≡ Some (spaced (float_text binary32 x))
  unfolding field_of bits_of
  a_value g e = ap (λ (k : Kind). field_of k w) g ∙ ap (bits_of binary32) e

  pub no_value : k ≡ Kind.Value → plain_in binary32 w ≡ None → field_of k w ≡ None
  unfolding field_of bits_of
  no_value g e = ap (λ (k : Kind). field_of k w) g ∙ ap (bits_of binary32) e

  pub a_time : k ≡ Kind.Time → {x : Float} → plain_in binary64 w ≡ Some x → field_of k w ≡ Some (spaced (float_text binary64 x))
  unfolding field_of bits_of
  a_time g e = ap (λ (k : Kind). field_of k w) g ∙ ap (bits_of binary64) e

  pub no_time : k ≡ Kind.Time → plain_in binary64 w ≡ None → field_of k w ≡ None
  unfolding field_of bits_of
  no_time g e = ap (λ (k : Kind). field_of k w) g ∙ ap (bits_of binary64) e

  pub as_it_is : k ≡ Kind.AsItIs → field_of k w ≡ Some (spaced w)
  unfolding field_of
  as_it_is g = ap (λ (k : Kind). field_of k w) g

bits_short : (f : Format) (w : Word) (o : Option Float) {t : List ℕ} → 0 < length w → bits_of f o ≡ Some t → length t ≤ 17 * length w
unfolding bits_of spaced
bits_short f w None p e = absurd (let z : ◌≡◌ {A = ℕ} 0 1 = cc in omega arith)
bits_short f w (Some x) {t} p e =
    let is : spaced (float_text f x) ≡ t = cc in
    let long : length t ≡ suc (digits_for f) = sym (ap length is) ∙ ap suc (length_float f x) in
    omega (arith, by_format f)
  where
    by_format : (f : Format) → digits_for f ≤ 16
    by_format binary32 = omega arith
    by_format binary64 = omega arith

-- a space and its digits, or a space and its own characters
pub field_short : (k : Kind) (w : Word) {t : List ℕ} → 0 < length w → field_of k w ≡ Some t → length t ≤ 17 * length w
unfolding field_of spaced
field_short Kind.Value w p e = bits_short binary32 w (plain_in binary32 w) p e
field_short Kind.Time w p e = bits_short binary64 w (plain_in binary64 w) p e
field_short Kind.AsItIs w {t} p e = let is : spaced w ≡ t = cc in omega (arith, ap length is)

pub wrote_to : {o : Option (List ℕ)} {l l' : List ℕ} {at : ℕ} (p : ℕ) → Wrote o l at (Some p) l' → (t : List ℕ) × (o ≡ Some t) × Put l at t l' p
unfolding Wrote
wrote_to p v = v

pub wrote_unread : (o : Option (List ℕ)) (l : List ℕ) (at : ℕ) (l' : List ℕ) → Wrote o l at None l' → o ≡ None
unfolding Wrote
wrote_unread o l at l' v = v

-- ---- fields

in_front_none : (r : Fields) → in_front [] r ≡ r
unfolding in_front
in_front_none None = refl
in_front_none (Some p) = refl

pub in_front_both : (t u : List ℕ) (r : Fields) → in_front t (in_front u r) ≡ in_front (t ++ u) r
unfolding in_front
in_front_both t u None = refl
in_front_both t u (Some p) = ap (λ (v : List ℕ). Some (v, p.1)) (sym (append_assoc t u p.0))

one_more : (n i : ℕ) → i < n → n - i ≡ suc (n - (i + 1))
one_more n i h = omega arith

module _ (k : Kind) where
  pub at_first : (n : ℕ) (ws : List Word) → fields k n ws ≡ in_front [] (fields k (n - 0) ws)
  at_first n ws = sym (in_front_none (fields k (n - 0) ws) ∙ ap (λ (m : ℕ). fields k m ws) (sub-zero n))

  module _ (n i : ℕ) (h : i < n) (t : List ℕ) {ws : List Word} where
    -- no word is left, it is no number, or there is a field more
    pub no_word_left : ws ≡ [] → in_front t (fields k (n - i) ws) ≡ None
    unfolding fields in_front
    no_word_left e = rw (e, one_more n i h)

    module _ (w : Word) (rest : List Word) (e : ws ≡ w ∷ rest) where
      pub no_number_there : field_of k w ≡ None → in_front t (fields k (n - i) ws) ≡ None
      unfolding fields in_front with_field
      no_number_there f = rw (e, one_more n i h, f)

      pub field_more : (f : List ℕ) → field_of k w ≡ Some f → in_front t (fields k (n - i) ws) ≡ in_front (t ++ f) (fields k (n - (i + 1)) rest)
      unfolding fields with_field
      field_more f g = rw (e, one_more n i h, g) (in_front_both t f (fields k (n - (i + 1)) rest))

  pub at_last : (n i : ℕ) → i ≤ n → n ≤ i → (t : List ℕ) (ws : List Word) → in_front t (fields k (n - i) ws) ≡ Some (t, ws)
  unfolding fields in_front
  at_last n i h g t ws =
      let none_left : n - i ≡ 0 = omega arith in
      rw (none_left, append-nil t)

-- the length of a word between two places
pub part_length : (s : List ℕ) (from to : ℕ) → to ≤ length s → length (take (to - from) (drop from s)) ≡ to - from
part_length s from to h = length-take-le (to - from) (drop from s) (omega (arith, length-drop from s))

-- ---- one thing behind another

module _ (s : List ℕ) where
  pub ran-same : {o q : Fields} (l : List ℕ) (at : ℕ) (r : Option Told) (l' : List ℕ) → o ≡ q → Ran s o l at r l' → Ran s q l at r l'
  ran-same l at r l' e v = subst (λ (f : Fields). Ran s f l at r l') e v

  -- fields behind a text
  pub ran-after : {l l₁ t : List ℕ} {at p : ℕ} (o : Fields) (r : Option Told) (l₂ : List ℕ) → Put l at t l₁ p → p ≤ length l → Ran s o l₁ p r l₂ → Ran s (in_front t o) l at r l₂
  unfolding Ran in_front
  ran-after {t = t} o (Some r) l₂ w h v = (_, ap (in_front t) v.1, put_then w v.2 h)
  ran-after {t = t} o None l₂ w h v = ap (in_front t) v

  pub ran_to : {o : Fields} {l l' : List ℕ} {at : ℕ} (r : Told) → Ran s o l at (Some r) l' → (t : List ℕ) × (o ≡ Some (t, words_at s r.next)) × Put l at t l' r.to
  unfolding Ran
  ran_to r v = v

  pub ran-unread : (o : Fields) (l : List ℕ) (at : ℕ) (l' : List ℕ) → Ran s o l at None l' → o ≡ None
  unfolding Ran
  ran-unread o l at l' v = v

  -- what is not read
  pub ran_none : (o : Fields) (l : List ℕ) (at : ℕ) {r : Option Told} (l' : List ℕ) → r ≡ None → o ≡ None → Ran s o l at r l'
  unfolding Ran
  ran_none o l at l' g e = subst (λ (r : Option Told). Ran s o l at r l') (sym g) e

  pub passed_none : (from at : ℕ) {r : Option Told} → r ≡ None → Passed s from at r
  unfolding Passed
  passed_none from at g = subst (Passed s from at) (sym g) tt

  pub inside_none : (l : List ℕ) {r : Option Told} → r ≡ None → Inside s l r
  unfolding Inside
  inside_none l g = subst (Inside s l) (sym g) tt

  pub passed_to : (from at : ℕ) (r : Told) → Passed s from at (Some r) → (r.next ≤ length s) × (r.to + 17 * (length s - r.next) ≤ at + 17 * (length s - from))
  unfolding Passed
  passed_to from at r v = v

  pub inside_to : (l : List ℕ) (r : Told) → Inside s l (Some r) → (r.next ≤ length s) × (r.to ≤ length l)
  unfolding Inside
  inside_to l r v = v

  pub passed_inside : (from at : ℕ) (l : List ℕ) (r : Option Told) → at + 17 * (length s - from) ≤ length l → Passed s from at r → Inside s l r
  unfolding Passed Inside
  passed_inside from at l (Some r) h v = (v.0, omega arith)
  passed_inside from at l None h v = tt

  -- in a buffer of the same length
  pub inside_same : (l l' : List ℕ) (r : Option Told) → length l ≡ length l' → Inside s l r → Inside s l' r
  unfolding Inside
  inside_same l l' (Some r) e v = (v.0, omega arith)
  inside_same l l' None e v = tt

-- ---- a call's fields

module _ (f : Form) (ws : List Word) where
  pub formed_none : fields f.kind f.many ws ≡ None → formed f ws ≡ None
  unfolding formed and_then
  formed_none e = ap (λ (o : Fields). and_then o (tail_of f.tail)) e

  pub formed_then : {u : List ℕ} {vs : List Word} → fields f.kind f.many ws ≡ Some (u, vs) → formed f ws ≡ in_front u (tail_of f.tail vs)
  unfolding formed and_then
  formed_then e = ap (λ (o : Fields). and_then o (tail_of f.tail)) e

-- ---- a block's fields: its count alone, or the length of the output behind it

module _ {ws vs : List Word} (w : Word) (e : ws ≡ w ∷ vs) where
  pub block_alone : vs ≡ [] → block_fields ws ≡ in_front (spaced w) (in_front (spaced (length_for w)) (numbers vs))
  unfolding block_fields length_and
  block_alone g = ap block_fields e ∙ rw g

  pub block_with : {us : List Word} (o : Word) → vs ≡ o ∷ us → block_fields ws ≡ in_front (spaced w) (in_front (spaced o) (numbers us))
  unfolding block_fields length_and
  block_with o g = ap block_fields e ∙ ap (λ (vs : List Word). in_front (spaced w) (length_and w vs)) g

pub block_none : {ws : List Word} → ws ≡ [] → block_fields ws ≡ None
unfolding block_fields
block_none e = ap block_fields e

pub length_for_lem : (w : Word) → length (length_for w) ≤ length w + 4
unfolding length_for capped_at
length_for_lem w = by_number (number_in 10 w)
  where
    by_test : (b : Bool) → length (cond b w (codes "4096")) ≤ length w + 4
    by_test true = omega arith
    by_test false = omega arith

    by_number : (o : Option ℕ) → length (capped_at w o) ≤ length w + 4
    by_number None = omega arith
    by_number (Some n) = by_test (leb n 4096)

-- ---- what is made: its rate, and the edition behind it

module _ {ws : List Word} where
  pub no_edition : ws ≡ [] → edition_fields ws ≡ Some ([], ws)
  unfolding edition_fields
  no_edition e = ap edition_fields e ∙ ap (λ (vs : List Word). Some ([], vs)) (sym e)

  module _ {vs : List Word} (w : Word) (e : ws ≡ w ∷ vs) where
    pub not_edition : same_word w (codes "edition") ≡ false → edition_fields ws ≡ None
    unfolding edition_fields
    not_edition h = ap edition_fields e ∙ rw h

    pub an_edition : same_word w (codes "edition") ≡ true → edition_fields ws ≡ fields Kind.AsItIs 1 vs
    unfolding edition_fields
    an_edition h = ap edition_fields e ∙ rw h

module _ (ws : List Word) where
  pub made_none : fields Kind.AsItIs 1 ws ≡ None → made_fields ws ≡ None
  unfolding made_fields and_then
  made_none e = ap (λ (o : Fields). and_then o edition_fields) e

  pub made_then : {u : List ℕ} {vs : List Word} → fields Kind.AsItIs 1 ws ≡ Some (u, vs) → made_fields ws ≡ in_front u (edition_fields vs)
  unfolding made_fields and_then
  made_then e = ap (λ (o : Fields). and_then o edition_fields) e

-- two words, each behind a space, leave the room that the words behind them want
pub room_left : (at from begin end first last len room w v p q : ℕ) → (from ≤ begin) × (begin < end) × (end ≤ len) → (end ≤ first) × (first < last) × (last ≤ len)
    → w ≡ end - begin → v ≡ last - first → p ≡ at + suc w → q ≡ p + suc v → at + 21 + 17 * (len - from) ≤ room → (q + 21 + 17 * (len - last) ≤ room) × (q ≤ room)
room_left at from begin end first last len room w v p q h g i j k l r = (omega arith, omega arith)

pub room_for : (at from begin end len room w p : ℕ) → (from ≤ begin) × (begin < end) × (end ≤ len) → w ≡ end - begin → p ≡ at + suc w → at + 21 + 17 * (len - from) ≤ room → p ≤ room
room_for at from begin end len room w p h i k r = omega arith

-- ---- the forms by their names

module _ (x : Word) (f : Form) (rs : List Row) (w : Word) where
  pub row_is : same_word w x ≡ true → form_in (row x f ∷ rs) w ≡ Some f
  unfolding form_in
  row_is e = rw e

  pub row_not : same_word w x ≡ false → form_in (row x f ∷ rs) w ≡ form_in rs w
  unfolding form_in
  row_not e = rw e

-- ---- a call, by its name and its fields

module _ {ws vs : List Word} (w : Word) (e : ws ≡ w ∷ vs) where
  call_of : (o : Option Form) → o ≡ form_in rows w → translated ws ≡ whole w (formed_by o vs)
  unfolding translated
  call_of o g = ap translated e ∙ ap (λ (o : Option Form). whole w (formed_by o vs)) (sym g)

  -- no row has the name
  pub no_form : None ≡ form_in rows w → translated ws ≡ None
  unfolding formed_by whole
  no_form g = call_of None g

module _ {ws vs : List Word} (w : Word) (e : ws ≡ w ∷ vs) {f : Form} (g : Some f ≡ form_in rows w) where
  call_by : translated ws ≡ whole w (formed f vs)
  unfolding formed_by
  call_by = call_of w e (Some f) g

  pub no_call : formed f vs ≡ None → translated ws ≡ None
  unfolding whole
  no_call h = call_by ∙ ap (whole w) h

  module _ {t : List ℕ} {us : List Word} (h : formed f vs ≡ Some (t, us)) where
    -- a word is left, or none
    pub no_end : (x : Word) (xs : List Word) → us ≡ x ∷ xs → translated ws ≡ None
    unfolding whole is_over
    no_end x xs i = call_by ∙ ap (whole w) h ∙ ap (λ (us : List Word). ending us (w ++ t)) i

    pub a_call : us ≡ [] → translated ws ≡ Some (w ++ t)
    unfolding whole is_over
    a_call i = call_by ∙ ap (whole w) h ∙ ap (λ (us : List Word). ending us (w ++ t)) i

-- ---- a line, and what was written of it

pub comment_off : (s : List ℕ) (end : ℕ) → end ≡ 0 + index_of (code "#") (slice 0 (length s) s) → translated (words_at (take end s) 0) ≡ translation s
unfolding translation before
comment_off s end e =
    let is : end ≡ index_of (code "#") s = found (code "#") (length s) s end e ∙ ap (index_of (code "#")) (take-length s) in
    ap (λ (k : ℕ). translated (words_at (take k s) 0)) is

pub wrote_same : {o q : Option (List ℕ)} (l : List ℕ) (at : ℕ) (r : Option ℕ) (l' : List ℕ) → o ≡ q → Wrote o l at r l' → Wrote q l at r l'
wrote_same l at r l' e v = subst (λ (o : Option (List ℕ)). Wrote o l at r l') e v

pub room_to : (l : List ℕ) (p : ℕ) → Room l (Some p) → p ≤ length l
unfolding Room
room_to l p v = v

-- nothing was written that is a line
pub wrote_none : {o : Option (List ℕ)} (l : List ℕ) (at : ℕ) {r : Option ℕ} (l' : List ℕ) → r ≡ None → o ≡ None → Wrote o l at r l' × Room l r
unfolding Wrote Room
wrote_none {o} l at l' g e = (subst (λ (r : Option ℕ). Wrote o l at r l') (sym g) e, subst (Room l) (sym g) tt)

pub written_is : {l t l' : List ℕ} {p : ℕ} → Put l 0 t l' p → p ≤ length l → take p l' ≡ t
written_is {l} {t} {l'} {p} v h =
    let k : p ≡ 0 + length t = v.place in
    ap (λ (m : List ℕ). take p m) v.bytes ∙ ap (λ (i : ℕ). take i (put l 0 t)) k ∙ put_front l 0 t (omega arith)
