-- The counts of the rows: ten samples at most. Assumes nothing.
use mathlib.Core.Path.{◌≡◌, refl}
use mathlib.Core.Bool.{Bool, true, false, cond}
use Prim.Native.Nat.{ℕ, ◌≤◌}
use lib.Dec.{leb, eqb}
use borrow.Author.Tests.{leb-true}
use Rattle.sheet.specs.declared.Row.{Row}
use Rattle.sheet.specs.Rows.{row_of}

pub record Few (r : Row) : Type 0 where
  pub count : r.count ≤ 10
  pub again : r.again ≤ 10

either : (b : Bool) {x y : Row} → Few x → Few y → Few (cond b x y)
either true few many = few
either false few many = many

few : {r : Row} → leb r.count 10 ≡ true → leb r.again 10 ≡ true → Few r
few {r} p q = record { count = leb-true r.count 10 p; again = leb-true r.again 10 q }

pub few_samples : (n : ℕ) → Few (row_of n)
unfolding row_of
few_samples n =
    either (eqb n 2) (few refl refl) (either (eqb n 3) (few refl refl) (either (eqb n 4) (few refl refl) (either (eqb n 5) (few refl refl) (either (eqb n 6) (few refl refl)
    (either (eqb n 7) (few refl refl) (either (eqb n 8) (few refl refl) (either (eqb n 9) (few refl refl) (either (eqb n 10) (few refl refl) (either (eqb n 11) (few refl refl) (few refl refl))))))))))
