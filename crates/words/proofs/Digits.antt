-- Bytes written as digits, two each, and read: what `save` prints, `load` reads. Assumes nothing.
use mathlib.Core.Path.{◌≡◌, refl, ap, ◌∙◌}
use mathlib.Core.Bool.{Bool, true, false, cond, ◌&&◌}
use mathlib.Core.List.{List, [], ◌∷◌}
use Rattle.std.specs.Prelude.{Option, Some}
use Prim.Native.Nat.{ℕ, ◌/◌, ◌%◌}
use native.Mathlib.Omega.{arith}
use lib.Dec.{eqb}
use Rattle.text.specs.Digits.{digits_of, glyph_of}
use Rattle.text.specs.Hex.{before, pairs_in, bytes_in, bytes_text}
use Rattle.text.proofs.Back.{bits_back}
use Rattle.words.specs.Words.{AreBytes}

pairs_back : (bs : List ℕ) → AreBytes bs → pairs_in (bytes_text bs) ≡ Some bs
unfolding pairs_in bytes_text digits_of before AreBytes
pairs_back [] h = refl
pairs_back (b ∷ bs) h =
    ap (λ (o : Option ℕ). before o (pairs_in (bytes_text bs))) (bits_back 2 b (omega arith) (omega (arith, h.0)) (omega (arith, h.0)))
    ∙ ap (before (Some b)) (pairs_back bs h.1)

-- of a file, which has at least a byte; for none `-` is written
pub text_back : (b : ℕ) (bs : List ℕ) → AreBytes (b ∷ bs) → bytes_in (bytes_text (b ∷ bs)) ≡ Some (b ∷ bs)
unfolding bytes_in bytes_text digits_of
text_back b bs h = go (eqb (glyph_of (b / 16 % 16)) 45)
  where
    go : (same : Bool) → cond (same && false) (Some []) (pairs_in (bytes_text (b ∷ bs))) ≡ Some (b ∷ bs)
    go true = pairs_back (b ∷ bs) h
    go false = pairs_back (b ∷ bs) h
