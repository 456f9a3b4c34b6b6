-- A file in parts: however it is cut, what is read is the whole (02, C-11). Assumes nothing.
use mathlib.Core.Path.{◌≡◌, refl, sym, ap, ◌∙◌}
use mathlib.Core.Bool.{Bool, true, false, cond, ◌&&◌}
use mathlib.Core.List.{List, [], ◌∷◌, ◌++◌, append_assoc, append-nil}
use Prim.Native.Nat.{ℕ, zero, suc, ◌≤◌}
use native.Mathlib.Nat.{le_refl}
use native.Mathlib.Omega.{arith}
use lib.ListN.{length, drop, length-drop}
use lib.Seq.{drop-append-le}
use borrow.Author.Tests.{lt-leb}
use Rattle.rules.specs.declared.AutomationRate.{AutomationRate}
use Rattle.laws.proofs.Tests.{never, both}
use Rattle.card.specs.Card.{is_accepted, has_head, field_length, is_whole, Reader, field_turn, Reading, stopped, taken, fed, joined, fed_all, at_end, begun, read}
use Rattle.card.proofs.Fields.{and_false, whole_parts, field_front, whole_front, turn_front}

-- ---- the fields of some bytes

short : (bs : List ℕ) → length bs ≤ 0 → is_whole bs ≡ false
unfolding is_whole has_head
short bs h = rw (lt-leb 3 (length bs) (omega arith)) refl

-- behind a field there are fewer bytes
pub fewer : (bs : List ℕ) (n : ℕ) → is_whole bs ≡ true → length bs ≤ suc n → length (drop (field_length bs) bs) ≤ n
unfolding field_length
fewer bs n w h = simp length-drop (omega (arith, (whole_parts bs w).0, h))

taken_short : (n : ℕ) (bs : List ℕ) (r : Reader) → length bs ≤ 0 → taken n bs r ≡ stopped bs r
unfolding taken
taken_short zero bs r h = refl
taken_short (suc n) bs r h = rw (short bs h, and_false (is_accepted r.verdict)) refl

-- as many turns as there are bytes are enough
pub taken-enough : (m n : ℕ) (bs : List ℕ) (r : Reader) → length bs ≤ m → length bs ≤ n → taken m bs r ≡ taken n bs r
unfolding taken
taken-enough zero n bs r a b = sym (taken_short n bs r a)
taken-enough (suc m) zero bs r a b = taken_short (suc m) bs r b
taken-enough (suc m) (suc n) bs r a b =
    go (is_accepted r.verdict && is_whole bs) refl (λ w. taken-enough m n (drop (field_length bs) bs) (field_turn bs r) (fewer bs m w a) (fewer bs n w b))
  where
    go : (k : Bool) → (is_accepted r.verdict && is_whole bs) ≡ k
        → (is_whole bs ≡ true → taken m (drop (field_length bs) bs) (field_turn bs r) ≡ taken n (drop (field_length bs) bs) (field_turn bs r))
        → cond k (taken m (drop (field_length bs) bs) (field_turn bs r)) (stopped bs r) ≡ cond k (taken n (drop (field_length bs) bs) (field_turn bs r)) (stopped bs r)
    go true e more = more (both (is_accepted r.verdict) (is_whole bs) e).1
    go false e more = refl

-- one field off the front
pub taken_one : (bs : List ℕ) (r : Reader) → is_accepted r.verdict ≡ true → is_whole bs ≡ true
    → taken (length bs) bs r ≡ taken (length (drop (field_length bs) bs)) (drop (field_length bs) bs) (field_turn bs r)
unfolding taken is_whole has_head
taken_one [] r k w = never w
taken_one (b ∷ bs) r k w =
    rw (k, w) (taken-enough (length bs) _ (drop (field_length (b ∷ bs)) (b ∷ bs)) (field_turn (b ∷ bs) r) (fewer (b ∷ bs) (length bs) w (le_refl (suc (length bs)))) (le_refl _))

pub taken_none : (bs : List ℕ) (r : Reader) → (is_accepted r.verdict && is_whole bs) ≡ false → taken (length bs) bs r ≡ stopped bs r
unfolding taken
taken_none [] r h = refl
taken_none (b ∷ bs) r h = rw h refl

-- ---- one part behind the other

-- no field is whole: the bytes wait; or one was refused, and they go
waits : (bs cs : List ℕ) (r : Reader) (k : Bool) → is_accepted r.verdict ≡ k → (is_accepted r.verdict && is_whole bs) ≡ false
    → taken (length (bs ++ cs)) (bs ++ cs) r ≡ fed (taken (length bs) bs r) cs
unfolding fed
waits bs cs r true e none = rw (taken_none bs r none, e) refl
waits bs cs r false e none = rw (taken_none bs r none, taken_none (bs ++ cs) r (rw e refl), e) refl

taken-append : (n : ℕ) (bs cs : List ℕ) (r : Reader) → length bs ≤ n → taken (length (bs ++ cs)) (bs ++ cs) r ≡ fed (taken (length bs) bs r) cs
taken-append zero bs cs r h = waits bs cs r (is_accepted r.verdict) refl (rw (short bs h) (and_false (is_accepted r.verdict)))
taken-append (suc n) bs cs r h =
    go (is_accepted r.verdict) (is_whole bs) refl refl (λ w. taken-append n (drop (field_length bs) bs) cs (field_turn bs r) (fewer bs n w h))
  where
    go : (k w : Bool) → is_accepted r.verdict ≡ k → is_whole bs ≡ w
        → (is_whole bs ≡ true → taken (length (drop (field_length bs) bs ++ cs)) (drop (field_length bs) bs ++ cs) (field_turn bs r) ≡ fed (taken (length (drop (field_length bs) bs)) (drop (field_length bs) bs) (field_turn bs r)) cs)
        → taken (length (bs ++ cs)) (bs ++ cs) r ≡ fed (taken (length bs) bs r) cs
    go k false e f more = waits bs cs r k e (rw f (and_false (is_accepted r.verdict)))
    go false true e f more = waits bs cs r false e (rw e refl)
    go true true e f more =
        let p = whole_parts bs f in
        rw (taken_one bs r e f, taken_one (bs ++ cs) r e (whole_front bs cs f), turn_front bs cs f r, field_front bs cs p.0, drop-append-le (field_length bs) bs cs p.1) (more f)

refused_stays : (s : Reading) (a : List ℕ) → is_accepted s.reader.verdict ≡ false → fed s a ≡ s
unfolding fed
refused_stays s a e = rw e refl

-- a part, and another
pub fed-append : (s : Reading) (a b : List ℕ) → fed (fed s a) b ≡ fed s (a ++ b)
unfolding fed
fed-append s a b = go (is_accepted s.reader.verdict) refl
  where
    go : (k : Bool) → is_accepted s.reader.verdict ≡ k → fed (fed s a) b ≡ fed s (a ++ b)
    go true e = rw (e, ← append_assoc s.rest a b) (sym (taken-append (length (s.rest ++ a)) (s.rest ++ a) b s.reader (le_refl _)))
    go false e = ap (λ (t : Reading). fed t b) (refused_stays s a e) ∙ refused_stays s b e ∙ sym (refused_stays s (a ++ b) e)

-- an empty part is nothing
pub fed-nothing : (s : Reading) (a : List ℕ) → fed (fed s a) [] ≡ fed s a
fed-nothing s a = fed-append s a [] ∙ ap (fed s) (append-nil a)

-- ---- a file

fed-parts : (s : Reading) (a : List ℕ) (parts : List (List ℕ)) → fed_all (fed s a) parts ≡ fed s (a ++ joined parts)
unfolding fed_all joined
fed-parts s a [] = ap (fed s) (sym (append-nil a))
fed-parts s a (part ∷ parts) =
    ap (λ (t : Reading). fed_all t parts) (fed-append s a part) ∙ fed-parts s (a ++ part) parts ∙ ap (fed s) (append_assoc a part (joined parts))

-- "The answer does not depend on the cuts" (reading 9): in parts, the empty ones among them, or in one
pub parts_are_the_file : (rate : AutomationRate) (n : ℕ) (parts : List (List ℕ)) → at_end (fed_all (begun rate n) parts) ≡ read rate n (joined parts)
unfolding fed_all joined read fed taken is_accepted
parts_are_the_file rate n [] = refl
parts_are_the_file rate n (part ∷ parts) = ap at_end (fed-parts (begun rate n) part parts)

pub cuts_are_nothing : (rate : AutomationRate) (n : ℕ) (these those : List (List ℕ)) → joined these ≡ joined those
    → at_end (fed_all (begun rate n) these) ≡ at_end (fed_all (begun rate n) those)
cuts_are_nothing rate n these those same = parts_are_the_file rate n these ∙ ap (read rate n) same ∙ sym (parts_are_the_file rate n those)
