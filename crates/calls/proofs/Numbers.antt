-- Several numbers, read one after the other: those read so far, and those that are left. Assumes nothing.
use mathlib.Core.Path.{◌≡◌, refl, sym, ap, ◌∙◌}
use mathlib.Core.List.{List, [], ◌∷◌, ◌++◌, append-nil}
use Rattle.std.specs.Prelude.{Option, None, Some}
use Prim.Native.Nat.{ℕ, suc, ◌+◌, ◌-◌, ◌≤◌, ◌<◌}
use native.Mathlib.Nat.{sub-zero}
use native.Mathlib.Numerals.{add-one}
use native.Mathlib.Omega.{arith}
use lib.ListN.{length, take, set}
use lib.Seq.{append_snoc, take-suc-set}
use lib.Ieee.{Float, binary32}
use Rattle.text.specs.Floats.{float_in}
use Rattle.text.specs.Words.{Word, taken}
use Rattle.calls.specs.Language.{with_taken, and_more, singles}

-- numbers that were read before some others
unfoldable pub behind : List Float → Option (List Float × List Word) → Option (List Float × List Word)
behind xs None = None
behind xs (Some p) = Some (xs ++ p.0, p.1)

behind_none : (o : Option (List Float × List Word)) → behind [] o ≡ o
unfolding behind
behind_none None = refl
behind_none (Some p) = refl

behind_more : (xs : List Float) (x : Float) (o : Option (List Float × List Word)) → behind xs (and_more x o) ≡ behind (xs ++ (x ∷ [])) o
unfolding behind and_more
behind_more xs x None = refl
behind_more xs x (Some p) = ap (λ (ys : List Float). Some (ys, p.1)) (sym (append_snoc xs x p.0))

pub at_first : (ns : List Float) (count : ℕ) (ws : List Word) → singles count ws ≡ behind (take 0 ns) (singles (count - 0) ws)
at_first ns count ws = rw (sub-zero count) (sym (behind_none (singles count ws)))

one_more : (count i : ℕ) → i < count → count - i ≡ suc (count - (i + 1))
one_more count i more = omega arith

-- a turn: the next number is read, or is none
module _ (ws : List Word) (count i : ℕ) (ns : List Float) (more : i < count) where
  pub next_is : {x : Float} {rest : List Word} → i < length ns → Some (x, rest) ≡ taken (float_in binary32) ws
      → behind (take i ns) (singles (count - i) ws) ≡ behind (take (i + 1) (set ns i x)) (singles (count - (i + 1)) rest)
  unfolding singles
  next_is {x} {rest} inside e =
      rw (one_more count i more, add-one i, take-suc-set ns i x inside)
      (ap (λ o. behind (take i ns) (with_taken o (λ y ws. and_more y (singles (count - suc i) ws)))) (sym e) ∙ behind_more (take i ns) x (singles (count - suc i) rest))

  pub next_not : None ≡ taken (float_in binary32) ws → behind (take i ns) (singles (count - i) ws) ≡ None
  unfolding singles behind
  next_not e = rw (one_more count i more) (ap (λ o. behind (take i ns) (with_taken o (λ y ws. and_more y (singles (count - (i + 1)) ws)))) (sym e))

pub at_last : (ns : List Float) (count i : ℕ) (ws : List Word) → i ≤ count → count ≤ i → behind (take i ns) (singles (count - i) ws) ≡ Some (take count ns, ws)
unfolding singles behind
at_last ns count i ws low high =
    let none_left : count - i ≡ 0 = omega arith in
    let all : i ≡ count = omega arith in
    rw (none_left, all, append-nil (take count ns))
