-- A turn of the loop over numbers: one more is written. Assumes nothing.
use mathlib.Core.Path.{◌≡◌, refl}
use mathlib.Core.List.{List, [], ◌∷◌}
use Prim.Native.Nat.{ℕ, ◌+◌, ◌*◌, ◌≤◌, ◌<◌}
use native.Mathlib.Numerals.{add-one}
use native.Mathlib.Omega.{arith}
use lib.ListN.{length, get_or, drop, length-append, drop_of_length-le}
use lib.Seq.{drop-cons}
use lib.Ieee.{Float, binary32}
use Rattle.text.specs.Floats.{float_text}
use Rattle.text.specs.Put.{Put}
use Rattle.text.proofs.Writing.{put-nothing, put_same, put_then, length_float}
use Rattle.answers.specs.Answers.{list_text}

-- ---- numbers written

pub next_number : {out out' F : List ℕ} {at at' r first : ℕ} (mark i : ℕ) (xs : List Float) (d : Float) → i < length xs
    → Put out at (first ∷ float_text binary32 (get_or xs i d)) out' at' → at' ≤ length out
    → Put out' at' (list_text mark mark (drop (i + 1) xs)) F r → Put out at (list_text first mark (drop i xs)) F r
unfolding list_text
next_number mark i xs d inside p room q =
    put_same (rw (add-one i, drop-cons xs i d inside)) (put_then p q room)

pub no_number : (out : List ℕ) (at first mark : ℕ) (xs : List Float) (i : ℕ) → length xs ≤ i → Put out at (list_text first mark (drop i xs)) out at
unfolding list_text
no_number out at first mark xs i past = rw (drop_of_length-le xs past) (put-nothing out at)

-- ---- how long they are

pub list_length : (first mark : ℕ) (xs : List Float) → length (list_text first mark xs) ≡ 9 * length xs
unfolding list_text
list_length first mark [] = refl
list_length first mark (x ∷ xs) = simp length-append (omega (arith, length_float binary32 x, list_length mark mark xs))
