-- Results of calls of code, each of which meets its contract for what the one before left.
use Rattle.std.specs.Prelude.{List, [], ◌∷◌}

-- X is what is passed on from call to call, `left` what a result leaves of it; Meets is the contract of a call
module _ {X C A : Type 0} (left : A → X) (Meets : X → C → A → Type 0) where
  pub data Results : X → List C → List A → Type 0 where
    none : {x : X} → Results x [] []
    more : {x : X} {c : C} {cs : List C} {r : A} {rs : List A} → Meets x c r → Results (left r) cs rs → Results x (c ∷ cs) (r ∷ rs)

-- what stands after them
unfoldable pub last_left : {X A : Type 0} → (A → X) → X → List A → X
last_left left x [] = x
last_left left x (r ∷ rs) = last_left left (left r) rs
