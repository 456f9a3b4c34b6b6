-- 02, C-17: "a cancel at one time followed by a cancel at another leaves the same parameter as one cancel at the earlier time, in whichever order the two come, and ..
-- repeating a cancel changes nothing more .. no call standing between the two cancels". Here of a burst of any length, refused ones among them.
use Rattle.std.specs.Prelude.{◌≡◌, cond, List, [], ◌∷◌, ◌++◌, map, Float, Ok}
use Rattle.std.specs.Float.Ieee as Ieee
use Rattle.rules.specs.Queue.{those}
use Rattle.rules.specs.Block.{Command, cancel}
use Rattle.playing.specs.Play.{State, asked, scheduled, verdicts, is_answered}

-- "the earlier time": of two that are equal, as -0 and 0 are, the first
unfoldable pub earlier_of : Float → Float → Float
earlier_of a b = cond (Ieee.lt b a) b a

-- of t and these
unfoldable pub earliest : Float → List Float → Float
earliest t [] = t
earliest t (u ∷ ts) = earlier_of t (earliest u ts)

-- a cancel at each of these times, in turn, with no call between
abbrev pub burst : List Float → List Command
burst ts = map cancel ts

-- those of these times at which the state would accept a cancel
unfoldable pub accepted_times : State → List Float → List Float
accepted_times s ts = those (λ t. is_answered (asked s (cancel t)).verdict) ts

-- one cancel at the earliest of these times; where there is none, no call
unfoldable pub one_cancel : List Float → List Command
one_cancel [] = []
one_cancel (t ∷ ts) = cancel (earliest t ts) ∷ []

-- two cancels, both accepted, in either order
pub record TwoAreOne (s : State) (a b : Float) : Type 0 where
  pub forth : scheduled s (burst (a ∷ b ∷ [])) ≡ scheduled s (burst (earlier_of a b ∷ []))
  pub back : scheduled s (burst (b ∷ a ∷ [])) ≡ scheduled s (burst (earlier_of a b ∷ []))

-- `scheduled` is the parameter and the store that the calls leave, so both are meant by each equation
pub record CancelsAreOne (s : State) : Type 0 where
  pub two : (a b : Float) → (asked s (cancel a)).verdict ≡ Ok tt → (asked s (cancel b)).verdict ≡ Ok tt → TwoAreOne s a b
  -- each of a burst is answered, or refused, as it would be if it came first
  pub heard : (ts : List Float) → verdicts s (burst ts) ≡ map (λ t. (asked s (cancel t)).verdict) ts
  pub many : (ts : List Float) → scheduled s (burst ts) ≡ scheduled s (one_cancel (accepted_times s ts))
  -- a burst once more, so a single cancel as well
  pub again : (ts : List Float) → scheduled s (burst ts ++ burst ts) ≡ scheduled s (burst ts)
