-- Where two runs of samples differ first, and when two results are the same.
use Rattle.rules.specs.declared.Refusal.{Refusal}
use Rattle.std.specs.Prelude.{◌≡◌, Bool, true, cond, List, [], ◌∷◌, ℕ, suc, eqb, Float, Option, Some, None, Result, Ok, Err}
use Rattle.std.specs.Float.{binary32}
use Rattle.std.specs.Float.Ieee.{to_bits}
use Rattle.rules.specs.Refusals.{number_of}

-- "All NaNs count as equal; the two zeros differ in a sample's bits"
unfoldable pub same_value : Float → Float → Bool
same_value x y = eqb (to_bits binary32 x) (to_bits binary32 y)

-- the first place at which two lists differ, the first of them standing at n; where one is shorter, the place behind its end
unfoldable pub differs_from : ℕ → List Float → List Float → Option ℕ
differs_from n [] [] = None
differs_from n [] (y ∷ ys) = Some n
differs_from n (x ∷ xs) [] = Some n
differs_from n (x ∷ xs) (y ∷ ys) = cond (same_value x y) (differs_from (suc n) xs ys) (Some n)

-- "the first place that differs"
abbrev pub first_difference : List Float → List Float → Option ℕ
first_difference xs ys = differs_from 0 xs ys

-- 01's number of a refusal; 0 where the call is answered
unfoldable pub number_for : Result Unit Refusal → ℕ
number_for (Ok _) = 0
number_for (Err why) = number_of why

-- ---- what the functions ensure

-- it is answered by `true` that this holds, and by `false` that it does not
pub record Tells (This : Type 0) (r : Bool) : Type 0 where
  pub so : r ≡ true → This
  pub always : This → r ≡ true

-- two values of the code have the same bits only if they are one
pub record SameValue (x y : Float) (r : Bool) : Type 0 where
  pub is : r ≡ same_value x y
  pub one : r ≡ true → x ≡ y

-- none is given only for samples that are the same
pub record FirstPlace (xs ys : List Float) (r : Option ℕ) : Type 0 where
  pub is : r ≡ first_difference xs ys
  pub none : r ≡ None → xs ≡ ys
