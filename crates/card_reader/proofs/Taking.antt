-- The complete fields of some bytes, one after the other, by how many bytes they had; and what is left of them. Assumes nothing.
use mathlib.Core.Path.{◌≡◌, refl, sym, ◌∙◌}
use mathlib.Core.Bool.{Bool, true, false, ◌&&◌}
use mathlib.Core.List.{List}
use Prim.Native.Nat.{ℕ, ◌+◌, ◌<◌}
use native.Mathlib.Omega.{arith}
use lib.Dec.{leb}
use lib.ListN.{length, drop}
use lib.Seq.{drop-drop, drop-length}
use borrow.Author.Tests.{le-leb, leb-true, leb-false}
use Rattle.laws.proofs.Tests.{clash, and}
use Rattle.words.specs.Words.{AreBytes}
use Rattle.words.proofs.Bytes.{word_at_small}
use Rattle.card.specs.Card.{is_accepted, has_head, length_in, field_length, is_whole, Reader, field_turn, Reading, taken}
use Rattle.card.proofs.Parts.{taken_one, taken_none}
use Rattle.card_reader.specs.Reader.{window_length}

module _ (bs : List ℕ) (used : ℕ) (r : Reader) where
  -- one field more
  pub taken-turn : {s : Reader} {len : ℕ} → is_accepted r.verdict ≡ true → is_whole (drop used bs) ≡ true → len ≡ field_length (drop used bs) → s ≡ field_turn (drop used bs) r
      → taken (length (drop used bs)) (drop used bs) r ≡ taken (length (drop (used + len) bs)) (drop (used + len) bs) s
  taken-turn kept whole size e = rw (size, e, ← drop-drop (field_length (drop used bs)) used bs) (taken_one (drop used bs) r kept whole)

  -- no field is whole: the bytes wait; or one was refused, and they go
  module _ {all : Reading} (so_far : all ≡ taken (length (drop used bs)) (drop used bs) r) (stops : (is_accepted r.verdict && is_whole (drop used bs)) ≡ false) where
    pub taken_waits : is_accepted r.verdict ≡ true → record { reader = r; rest = drop used bs } ≡ all
    taken_waits kept = sym (so_far ∙ taken_none (drop used bs) r stops ∙ rw kept)

    pub taken_stops : is_accepted r.verdict ≡ false → record { reader = r; rest = drop (length bs) bs } ≡ all
    taken_stops refused = sym (so_far ∙ taken_none (drop used bs) r stops ∙ rw (refused, drop-length bs))

-- what has not come whole is shorter than the longest field
pub unfinished : (bs : List ℕ) → AreBytes bs → is_whole bs ≡ false → length bs < window_length
unfolding is_whole has_head field_length length_in
unfinished bs small h = go (leb window_length (length bs)) refl
  where
    go : (b : Bool) → leb window_length (length bs) ≡ b → length bs < window_length
    go true e =
        let long = leb-true window_length (length bs) e in
        clash (and (le-leb 3 (length bs) (omega arith)) (le-leb (field_length bs) (length bs) (omega (arith, long, word_at_small 2 bs 1 small)))) h
    go false e = leb-false window_length (length bs) e
