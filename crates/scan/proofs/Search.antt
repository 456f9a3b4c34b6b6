-- A search for a byte, as std's `position` has it. Assumes nothing.
use Rattle.std.proofs.Common.{◌≡◌, ℕ, suc, ◌+◌, ◌-◌, ◌≤◌, ◌<◌, Bool, true, false, cond, not, eqb, ltb, List, [], ◌∷◌, length, take, drop, Option, Some, None, refl, ◌∙◌, rules, arith, ltb-true, ltb-false}
use Rattle.std.specs.List.{position_or_len, position}
use Rattle.std.proofs.lemmas.Slice.{between_is}
use Rattle.scan.specs.Bytes.{index_after, index_of, slice}

first_place : (b : ℕ) (cs : List ℕ) → position_or_len (λ c. eqb c b) cs ≡ index_of b cs
unfolding index_of index_after
first_place b [] = refl
first_place b (c ∷ cs) = by_test (first_place b cs) (eqb c b)
  where
    by_test : position_or_len (λ c. eqb c b) cs ≡ index_of b cs → (t : Bool) → cond (not t) (1 + position_or_len (λ c. eqb c b) cs) 0 ≡ index_after t (index_of b cs)
    by_test e true = refl
    by_test e false = omega (arith, e)

index_le : (b : ℕ) (cs : List ℕ) → index_of b cs ≤ length cs
unfolding index_of index_after
index_le b [] = omega arith
index_le b (c ∷ cs) = by_test (index_le b cs) (eqb c b)
  where
    by_test : index_of b cs ≤ length cs → (t : Bool) → index_after t (index_of b cs) ≤ suc (length cs)
    by_test rest true = omega arith
    by_test rest false = omega arith

module _ (b : ℕ) (cs : List ℕ) where
  pub found : {i : ℕ} → Some i ≡ position (λ c. eqb c b) cs → (i ≡ index_of b cs) × (i < length cs)
  found {i} e = by_test (ltb (position_or_len (λ c. eqb c b) cs) (length cs)) refl e
    where
      by_test : (t : Bool) → ltb (position_or_len (λ c. eqb c b) cs) (length cs) ≡ t → Some i ≡ cond t (Some (position_or_len (λ c. eqb c b) cs)) None → (i ≡ index_of b cs) × (i < length cs)
      by_test true h g = let is : i ≡ position_or_len (λ c. eqb c b) cs = grind arith in (is ∙ first_place b cs, omega (arith, is, ltb-true _ _ h))
      by_test false h g = absurd (grind arith)

  pub missing : None ≡ position (λ c. eqb c b) cs → length cs ≡ index_of b cs
  missing e = by_test (ltb (position_or_len (λ c. eqb c b) cs) (length cs)) refl e
    where
      by_test : (t : Bool) → ltb (position_or_len (λ c. eqb c b) cs) (length cs) ≡ t → ◌≡◌ {A = Option ℕ} None (cond t (Some (position_or_len (λ c. eqb c b) cs)) None) → length cs ≡ index_of b cs
      by_test true h g = absurd (grind arith)
      by_test false h g = omega (arith, first_place b cs, ltb-false _ _ h, index_le b cs)

pub part_is : (from to : ℕ) (s : List ℕ) → take (to - from) (drop from s) ≡ slice from to s
unfolding slice
part_is from to s = search (rules, between_is)
