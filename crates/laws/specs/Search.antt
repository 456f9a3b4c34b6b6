-- Places in a queue that a loop finds: the first event that passes a test.
use Rattle.std.specs.Prelude.{Bool, cond, List, [], ◌∷◌, ℕ, suc, Float}
use Rattle.std.specs.Float.Ieee as Ieee
use Rattle.rules.specs.declared.Event.{Event}
use Rattle.rules.specs.Queue.{filed_under, goes_at}

-- how many stand before the first that passes, or all of them where none does
unfoldable pub place_of : {A : Type 0} → (A → Bool) → List A → ℕ
place_of test [] = 0
place_of test (x ∷ xs) = let more = place_of test xs in cond (test x) 0 (suc more)

unfoldable pub is_later_than : Float → Event → Bool
is_later_than t e = Ieee.lt t (filed_under e)

unfoldable pub first_later : Float → List Event → ℕ
first_later t q = place_of (is_later_than t) q

-- the first event that a cancel at c takes
unfoldable pub first_going : Float → List Event → ℕ
first_going c q = place_of (goes_at c) q
