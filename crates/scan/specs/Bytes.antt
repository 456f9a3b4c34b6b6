-- Where a byte stands first in a list, and the part of a list between two places.
use Rattle.std.specs.Prelude.{Bool, true, false, List, [], ◌∷◌, ℕ, zero, suc, eqb, take, drop}

-- one place further, but for the place that was sought
unfoldable pub index_after : Bool → ℕ → ℕ
index_after true n = zero
index_after false n = suc n

-- the first place of the byte, or the length where there is none
unfoldable pub index_of : ℕ → List ℕ → ℕ
index_of b [] = zero
index_of b (c ∷ cs) = index_after (eqb c b) (index_of b cs)

-- from the first place on, before the second
unfoldable pub slice : ℕ → ℕ → List ℕ → List ℕ
slice from to cs = drop from (take to cs)
