-- `kernels::falling_from` meets its contract: the digits that are left, taken into r, give what all of them gave. Assumes nothing.
use mathlib.Core.Path.{◌≡◌, refl, sym, ◌∙◌}
use mathlib.Core.Bool.{Bool, true, cond, ◌&&◌}
use mathlib.Core.List.{List, [], ◌∷◌}
use Prim.Native.Nat.{ℕ, zero, suc, ◌+◌, ◌-◌, ◌*◌, ◌/◌, ◌%◌, ◌^◌, ◌≤◌, ◌<◌}
use native.Mathlib.Nat.{mul-le-mul}
use native.Mathlib.Numerals.{add-one}
use native.Mathlib.Omega.{arith}
use lib.Dec.{leb, eqb}
use lib.ListN.{length, get_or, drop, length-drop}
use lib.Seq.{drop-cons}
use borrow.Author.Tests.{leb-true, ne_eqb}
use Rattle.rules.specs.Kernels.{falling_from}
use Rattle.kernels.proofs.Powers.{both}
use Rattle.kernels.proofs.Roots.{roots, table_is}
use Rattle.kernels.proofs.falling_from.Goals as goal
use Rattle.kernels.proofs.falling_from.Goals.{then-a-j-eq1, else-a-j-eq1}

-- ---- numbers below 2 ^ 32

small : List ℕ → Bool
small [] = true
small (c ∷ cs) = leb c 4294967295 && small cs

small_at : (cs : List ℕ) → small cs ≡ true → (j : ℕ) → get_or cs j 0 ≤ 4294967295
unfolding small
small_at [] h j = omega arith
small_at (c ∷ cs) h zero = leb-true c 4294967295 (both (leb c 4294967295) (small cs) h).0
small_at (c ∷ cs) h (suc j) = small_at cs (both (leb c 4294967295) (small cs) h).1 j

module _ (r c : ℕ) (R : r ≤ 2 ^ 32) (C : c ≤ 4294967295) where
  product : r * c ≤ 2 ^ 32 * 4294967295
  product = mul-le-mul R C

  shrinks : r * c / 2 ^ 32 ≤ 2 ^ 32
  shrinks = omega (arith, product)

-- ---- one digit

module _ (cs : List ℕ) (a r j k : ℕ) (l : j < length cs) (e : length cs ≡ k + suc j) where
  -- what stands at j, then the k numbers behind it
  step : falling_from (drop j cs) a r ≡ falling_from (drop (j + 1) cs) a (cond (eqb (a / 2 ^ k % 2) 1) (r * get_or cs j 0 / 2 ^ 32) r)
  unfolding falling_from
  step =
      let n : length (drop (suc j) cs) ≡ k = length-drop (suc j) cs ∙ omega arith in
      rw (drop-cons cs j 0 l, add-one j, falling_from, n)

  digit_set : a / 2 ^ k % 2 ≡ 1 → falling_from (drop j cs) a r ≡ falling_from (drop (j + 1) cs) a (r * get_or cs j 0 / 2 ^ 32)
  digit_set h = step ∙ rw h

  digit_clear : (a / 2 ^ k % 2 ≡ 1 → ⊥) → falling_from (drop j cs) a r ≡ falling_from (drop (j + 1) cs) a r
  digit_clear h = step ∙ rw (ne_eqb (a / 2 ^ k % 2) 1 h)

pub loop-j-init : goal.loop-j-init
loop-j-init c = (c.requires.1, rw table_is)

pub overflow_mul-r : goal.overflow_mul-r
unfolding small
overflow_mul-r c = let l = c.loop-j in record { fits = omega (arith, product l.r (get_or roots l.j 0) l.invariant.0 (small_at roots refl l.j)) }

pub loop-j-preserved : goal.loop-j-preserved
unfolding small
loop-j-preserved c =
    let l = c.loop-j in
    let a = c.args.a in
    let t : l.j < 24 = omega arith in
    let k : 24 ≡ 23 - l.j + suc l.j = omega arith in
    elim c.if-a-j-eq1.branch [
      | then-a-j-eq1 w ↦ (rw w.r-is (shrinks l.r (get_or roots l.j 0) l.invariant.0 (small_at roots refl l.j)), rw w.r-is (sym (digit_set roots a l.r l.j (23 - l.j) t k w.if-a-j-eq1.true) ∙ l.invariant.1))
      | else-a-j-eq1 w ↦ (rw w.r-is l.invariant.0, rw w.r-is (sym (digit_clear roots a l.r l.j (23 - l.j) t k w.if-a-j-eq1.false) ∙ l.invariant.1))
    ]

pub returns : goal.returns
unfolding falling_from
returns c = let l = c.loop-j in let e : l.j ≡ 24 = omega arith in rw e at l.invariant.1
