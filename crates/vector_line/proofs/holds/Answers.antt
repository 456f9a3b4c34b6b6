-- `vector_line::holds` meets its contract: by the letter. Assumes nothing.
use Rattle.std.proofs.Common.{◌≡◌, refl, sym, ap, ◌∙◌, Bool, false, cond, List, ℕ, eqb, arith}
use lib.ListN.{get_or}
use borrow.Author.Tests.{ne_eqb}
use Rattle.vector_line.specs.Line.{number_at, narrows_to, fuses32_to, fuses64_to, holds}
use Rattle.vector_line.proofs.holds.Goals as goal

-- what a line with a letter says
module _ (s : List ℕ) where
  abbrev rest : Bool → Bool → Bool → Bool
  rest n f d =
      cond n (narrows_to (number_at s 2) (number_at s 53))
      (cond f (fuses32_to (number_at s 2) (number_at s 19) (number_at s 36) (number_at s 53))
      (cond d (fuses64_to (number_at s 2) (number_at s 19) (number_at s 36) (number_at s 53)) false))

  by_letter : holds s ≡ rest (eqb (get_or s 0 0) 110) (eqb (get_or s 0 0) 102) (eqb (get_or s 0 0) 100)
  unfolding holds
  by_letter = refl

  with_letter : (c : ℕ) → get_or s 0 0 ≡ c → holds s ≡ rest (eqb c 110) (eqb c 102) (eqb c 100)
  with_letter c e = by_letter ∙ ap (λ (k : ℕ). rest (eqb k 110) (eqb k 102) (eqb k 100)) e

  no_letter : (get_or s 0 0 ≡ 110 → ⊥) → (get_or s 0 0 ≡ 102 → ⊥) → (get_or s 0 0 ≡ 100 → ⊥) → holds s ≡ false
  no_letter n f d = by_letter ∙ rw (ne_eqb (get_or s 0 0) 110 n, ne_eqb (get_or s 0 0) 102 f, ne_eqb (get_or s 0 0) 100 d)

pub returns-in-110 : goal.returns-in-110
returns-in-110 c =
    let h = with_letter c.args.s.now 110 c.in-110.is in
    cc

pub returns-in-102 : goal.returns-in-102
returns-in-102 c =
    let h = with_letter c.args.s.now 102 c.in-102.is in
    cc

pub returns-in-100 : goal.returns-in-100
returns-in-100 c =
    let h = with_letter c.args.s.now 100 c.in-100.is in
    cc

pub returns-in_default : goal.returns-in_default
returns-in_default c =
    let x = get_or c.args.s.now 0 0 in
    sym (no_letter c.args.s.now (grind arith) (grind arith) (grind arith))
