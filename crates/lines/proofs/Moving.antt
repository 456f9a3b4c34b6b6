-- Bytes moved to the front of a buffer, one at a time. Assumes nothing.
use mathlib.Core.Path.{◌≡◌, sym, ap, ◌∙◌}
use mathlib.Core.List.{List, [], ◌∷◌, ◌++◌}
use Prim.Native.Nat.{ℕ, suc, ◌+◌, ◌<◌}
use native.Mathlib.Nat.{add_comm, zero-add}
use native.Mathlib.Numerals.{add-one}
use native.Mathlib.Omega.{arith}
use lib.ListN.{length, get_or, take, drop, set, length-drop}
use lib.Seq.{length-take-le, take-suc, drop-cons, append_snoc, get_or-append-add, get_or-drop, set_at}
use Rattle.text.specs.Put.{put}
use Rattle.text.proofs.Writing.{put_none}

-- what is written in front, and what is still as it was
fronted : (l xs : List ℕ) (n : ℕ) → length xs ≡ n → put l 0 xs ≡ xs ++ drop n l
unfolding put
fronted l xs n e = rw (zero-add (length xs), e)

module _ (l : List ℕ) (from i : ℕ) (inside : from + i < length l) where
  abbrev front : List ℕ
  front = take i (drop from l)

  abbrev byte : ℕ
  byte = get_or (drop from l) i 0

  enough : i < length (drop from l)
  enough = rw length-drop (omega arith)

  front_length : length front ≡ i
  front_length = length-take-le i (drop from l) (omega (arith, enough))

  next_byte : get_or (front ++ drop i l) (from + i) 0 ≡ byte
  next_byte =
      ap (λ (k : ℕ). get_or (front ++ drop i l) k 0) (add_comm from i ∙ ap (λ (k : ℕ). k + from) (sym front_length))
      ∙ get_or-append-add front (drop i l) from 0 ∙ get_or-drop i l from 0 ∙ ap (λ (k : ℕ). get_or l k 0) (add_comm i from) ∙ sym (get_or-drop from l i 0)

  with_next : put l 0 (take (suc i) (drop from l)) ≡ front ++ byte ∷ drop (suc i) l
  with_next =
      fronted l (take (suc i) (drop from l)) (suc i) (length-take-le (suc i) (drop from l) enough)
      ∙ ap (λ (xs : List ℕ). xs ++ drop (suc i) l) (take-suc (drop from l) i 0 enough) ∙ append_snoc front byte (drop (suc i) l)

  pub one_moved : set (put l 0 front) i (get_or (put l 0 front) (from + i) 0) ≡ put l 0 (take (i + 1) (drop from l))
  one_moved =
      ap (λ (b : List ℕ). set b i (get_or b (from + i) 0)) (fronted l front i front_length) ∙ ap (set (front ++ drop i l) i) next_byte
      ∙ ap (λ (r : List ℕ). set (front ++ r) i byte) (drop-cons l i 0 (omega arith)) ∙ set_at front (get_or l i 0) (drop (suc i) l) byte i front_length
      ∙ sym with_next ∙ ap (λ (k : ℕ). put l 0 (take k (drop from l))) (sym (add-one i))

pub none_moved : (l : List ℕ) → put l 0 [] ≡ l
none_moved l = put_none l 0
