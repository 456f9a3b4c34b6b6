-- The rows are document 01's sheet: the acts of each are those of the table that the checker computes, `bench_sheet` of `rules`. Assumes nothing.
use mathlib.Core.Path.{◌≡◌, refl}
use mathlib.Core.Bool.{cond}
use mathlib.Core.List.{List, [], ◌∷◌, ◌++◌, map}
use Rattle.std.specs.Prelude.{Option, None, Some}
use Prim.Native.Nat.{ℕ, zero, suc}
use Rattle.rules.specs.Block.{step, linear, exponential, curve, cancel, hold}
use Rattle.rules.proofs.Table.{Act, make, ask, play, intrinsic, Case, n0, n4}
use Rattle.rules.proofs.Sheet.{sheet}
use Rattle.sheet.specs.declared.Call.{Call}
use Rattle.sheet.specs.declared.Row.{Row}
use Rattle.sheet.specs.Rows.{row_of}
use Rattle.sheet.specs.Played.{input_of}

unfoldable pub asking : Option Call → List Act
asking None = []
asking (Some (Call.Step v t)) = ask (step v t) ∷ []
asking (Some (Call.Linear v t)) = ask (linear v t) ∷ []
asking (Some (Call.Exponential v t)) = ask (exponential v t) ∷ []
asking (Some (Call.Curve a b c t d)) = ask (curve t d (a ∷ b ∷ c ∷ [])) ∷ []
asking (Some (Call.Hold t)) = ask (hold t) ∷ []
asking (Some (Call.Cancel t)) = ask (cancel t) ∷ []

-- a second block at time 4
unfoldable pub second : ℕ → List Act
second zero = []
second (suc n) = play n4 (suc n) [] ∷ []

unfoldable pub acts_of : Row → List Act
acts_of r =
    make r.bounds r.rate
    ∷ (asking r.first ++ (asking r.second ++ (asking r.third
    ++ (play n0 r.count (input_of r.noisy) ∷ (cond r.shows (intrinsic ∷ []) [] ++ (asking r.between ++ second r.again))))))

pub rows_are_the_sheet : map (λ (n : ℕ). acts_of (row_of n)) (2 ∷ 3 ∷ 4 ∷ 5 ∷ 6 ∷ 7 ∷ 8 ∷ 9 ∷ 10 ∷ 11 ∷ 12 ∷ []) ≡ map (λ (c : Case). c.acts) sheet
unfolding acts_of asking second input_of row_of sheet
rows_are_the_sheet = refl
