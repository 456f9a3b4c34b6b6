-- The loops over a part of the store, turn by turn: a copy from the first number on, and one from the last on. Assumes nothing.
use mathlib.Core.Path.{◌≡◌, sym, ap, ◌∙◌}
use mathlib.Core.List.{List, ◌∷◌, ◌++◌, append_assoc, append-nil}
use Prim.Native.Nat.{ℕ, suc, ◌+◌, ◌-◌, ◌≤◌, ◌<◌}
use native.Mathlib.Nat.{add-zero}
use native.Mathlib.Numerals.{add-one}
use native.Mathlib.Omega.{arith}
use lib.ListN.{length, take, drop, get_or, set, take-append-drop, get_or-append}
use lib.Seq.{paste, paste-suc, length_paste_head, length-take-le, take-suc, drop-cons, set_at, append_snoc, get_or-append-add, get_or-drop, get_or-take}

-- ---- from the first on: p is o with the first j of s copied to place `at`

module _ {A : Type 0} (z : A) (o s : List A) (at j : ℕ) (p : List A) (e : p ≡ paste o at s j) (hd : at + j < length o) (hs : j < length s) where
  pub paste_turn : (k : ℕ) (y : A) → k ≡ at + j → y ≡ get_or s j z → set p k y ≡ paste o at s (j + 1)
  paste_turn k y f g = rw (f, g, e, add-one, paste-suc o at s j z hd hs)

  -- what stands behind the copy is as it was
  pub paste_past : (k : ℕ) → at + j ≤ k → get_or p k z ≡ get_or o k z
  paste_past k h =
      let a : at ≤ length o = omega arith in
      let b : j ≤ length s = omega arith in
      let l : length (take at o ++ take j s) ≡ at + j = length_paste_head o at s j a b in
      let m : k ≡ length (take at o ++ take j s) + (k - (at + j)) = omega arith in
      let n : at + j + (k - (at + j)) ≡ k = omega arith in
      ap (λ (q : List A). get_or q k z) e
      ∙ ap (λ (i : ℕ). get_or (paste o at s j) i z) m
      ∙ get_or-append-add (take at o ++ take j s) (drop (at + j) o) (k - (at + j)) z
      ∙ get_or-drop (at + j) o (k - (at + j)) z
      ∙ ap (λ (i : ℕ). get_or o i z) n

-- ---- from the last on: of the n from place `from`, all but the first i are copied to place `to`

module _ {A : Type 0} (o : List A) (from to n : ℕ) where
  abbrev pub Lifted : ℕ → List A
  Lifted i = take (to + i) o ++ take (n - i) (drop (from + i) o) ++ drop (to + n) o

  pub lifted_none : o ≡ Lifted n
  lifted_none =
      let d : n - n ≡ 0 = omega arith in
      rw d (sym (ap (λ (l : List A). l ++ drop (to + n) o) (append-nil (take (to + n) o)) ∙ take-append-drop (to + n) o))

  pub lifted_all : Lifted 0 ≡ paste o to (drop from o) n
  lifted_all = let d : n - 0 ≡ n = omega arith in rw (d, add-zero, add-zero)

  module _ (z : A) (up : from ≤ to) (fits : to + n ≤ length o) (j : ℕ) (h : j < n) (p : List A) (e : p ≡ Lifted (j + 1)) where
    abbrev rest : List A
    rest = take (n - (j + 1)) (drop (from + (j + 1)) o) ++ drop (to + n) o

    whole : p ≡ take (to + (j + 1)) o ++ rest
    whole = e ∙ append_assoc (take (to + (j + 1)) o) (take (n - (j + 1)) (drop (from + (j + 1)) o)) (drop (to + n) o)

    -- what is read is as it was
    lifted_read : get_or p (from + j) z ≡ get_or o (from + j) z
    lifted_read =
        let l : length (take (to + (j + 1)) o) ≡ to + (j + 1) = length-take-le (to + (j + 1)) o (omega arith) in
        ap (λ (q : List A). get_or q (from + j) z) whole
        ∙ get_or-append (take (to + (j + 1)) o) rest z (from + j) (omega arith)
        ∙ get_or-take (to + (j + 1)) o (from + j) z (omega arith)

    one_more : take (n - j) (drop (from + j) o) ≡ get_or o (from + j) z ∷ take (n - (j + 1)) (drop (from + (j + 1)) o)
    one_more =
        let m : from + j < length o = omega arith in
        let d : n - j ≡ suc (n - (j + 1)) = omega arith in
        let f : suc (from + j) ≡ from + (j + 1) = omega arith in
        rw (d, drop-cons o (from + j) z m, f)

    pub lifted_turn : (k : ℕ) (y : A) → k ≡ to + j → y ≡ get_or p (from + j) z → set p k y ≡ Lifted j
    lifted_turn k y f g =
        let m : to + j < length o = omega arith in
        let d : to + (j + 1) ≡ suc (to + j) = omega arith in
        let l : length (take (to + j) o) ≡ to + j = length-take-le (to + j) o (omega arith) in
        rw (f, g, lifted_read, one_more)
        (ap (λ (q : List A). set q (to + j) (get_or o (from + j) z))
        (whole ∙ ap (λ (i : ℕ). take i o ++ rest) d ∙ ap (λ (q : List A). q ++ rest) (take-suc o (to + j) z m) ∙ append_snoc (take (to + j) o) (get_or o (to + j) z) rest)
        ∙ set_at (take (to + j) o) (get_or o (to + j) z) rest (get_or o (from + j) z) (to + j) l
        ∙ sym (append_assoc (take (to + j) o) (get_or o (from + j) z ∷ take (n - (j + 1)) (drop (from + (j + 1)) o)) (drop (to + n) o)))
