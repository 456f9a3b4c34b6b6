-- A row, played: what its calls do to the parameter and the store, by document 01's rules.
use Rattle.std.specs.Prelude.{◌≡◌, Bool, true, false, ℕ, List, [], ◌∷◌, replicate, pos, Float, Option, None, Some, Ok}
use Rattle.std.specs.Float.{nan, fin}
use Rattle.rules.specs.Block.{Param, Answer, made, answered, Called, called, step, linear, exponential, curve, cancel, hold}
use Rattle.param.specs.declared.AudioParam.{AudioParam}
use Rattle.param.specs.declared.Outcome.{Outcome}
use Rattle.param.specs.declared.Processed.{Processed}
use Rattle.param.specs.Param.{param_of, struct_of, SoundParam}
use Rattle.block.specs.Asked.{asked}
use Rattle.sheet.specs.declared.Blocks.{Blocks}
use Rattle.sheet.specs.declared.Call.{Call}
use Rattle.sheet.specs.declared.Row.{Row}
use Rattle.sheet.specs.Rows.{n0, n4}

-- "Period 1"
abbrev pub n1 : Float
n1 = fin false 1 (pos 0)

-- a buffer of n zeros
abbrev pub zeros : ℕ → List Float
zeros n = replicate n n0

-- "input NaN 0", or silence
unfoldable pub input_of : Bool → List Float
input_of true = nan ∷ fin false 0 (pos 0) ∷ []
input_of false = []

-- what a call of a row gives back
unfoldable pub applied : Param → List Float → Option Call → Called
applied p s None = record { verdict = Ok tt; param = p; store = s }
applied p s (Some (Call.Step v t)) = called p s (step v t)
applied p s (Some (Call.Linear v t)) = called p s (linear v t)
applied p s (Some (Call.Exponential v t)) = called p s (exponential v t)
applied p s (Some (Call.Curve a b c t d)) = called p s (curve t d (a ∷ b ∷ c ∷ []))
applied p s (Some (Call.Hold t)) = called p s (hold t)
applied p s (Some (Call.Cancel t)) = called p s (cancel t)

-- the parameter of a row after the calls before its first block, and the store
unfoldable pub set_up : Row → List Float → Called
set_up row s =
    let a = applied (made row.bounds row.rate 1) s row.first in
    let b = applied a.param a.store row.second in
    applied b.param b.store row.third

-- "block time 0 (4 for a second block)"
unfoldable pub first_block : Row → List Float → List Float → Answer
first_block row s output =
    let a = set_up row s in
    answered a.param a.store (asked n0 n1 row.count (input_of row.noisy) output)

-- behind the first block and the call between, with silence
unfoldable pub second_block : Row → List Float → List Float → List Float → Answer
second_block row s output later =
    let f = first_block row s output in
    let a = applied f.param f.store row.between in
    answered a.param a.store (asked n4 n1 row.again [] later)

-- ---- what the code ensures

pub record Applies (p : AudioParam) (s : List Float) (c : Option Call) (r : Outcome) (after : List Float) : Type 0 where
  pub verdict : r.verdict ≡ (applied (param_of p) s c).verdict
  pub param : r.param ≡ struct_of (applied (param_of p) s c).param
  pub left : after ≡ (applied (param_of p) s c).store
  pub sound : SoundParam r.param

pub record SetsUp (row : Row) (s : List Float) (r : AudioParam) (after : List Float) : Type 0 where
  pub param : r ≡ struct_of (set_up row s).param
  pub left : after ≡ (set_up row s).store
  pub sound : SoundParam r

-- a block answers so, its output left so
pub record Says (a : Answer) (r : Processed) (output : List Float) : Type 0 where
  pub verdict : r.verdict ≡ a.verdict
  pub param : r.param ≡ struct_of a.param
  pub steps : r.steps ≡ a.steps
  pub current : r.current ≡ a.current
  pub one : r.one ≡ a.one_valued
  pub written : output ≡ a.output
  pub sound : SoundParam r.param

-- a row by any renderer: what its two blocks answer, and what is left of their outputs and of the store
pub record PlaysRow (row : Row) (s output later : List Float) (r : Blocks) (output' later' after : List Float) : Type 0 where
  pub first : Says (first_block row s output) r.first output'
  pub second : Says (second_block row s output later) r.second later'
  pub left : after ≡ (second_block row s output later).store
