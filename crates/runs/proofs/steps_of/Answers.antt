-- `runs::steps_of` meets its contract. Assumes nothing.
use Rattle.std.proofs.Common.{◌≡◌, ℕ, ◌+◌, ◌*◌, ◌^◌, ◌≤◌, T, pos, ap, le_trans, lt_of_le_of_lt, arith, lit≤, le→leb, w64, to_z}
use lib.Ieee.{binary64, in_float, of_int}
use mir.Facts.{to_z_pos}
use Rattle.rules.specs.Numbers.{wide}
use Rattle.runs.proofs.steps_of.Goals as goal

module _ (few : ℕ) (h : few ≤ 124) where
  abbrev steps : ℕ
  steps = (few + 1) * 16777216

  least : steps ≤ 125 * 16777216
  least = omega arith

  same : to_z w64 steps ≡ pos steps
  same = to_z_pos w64 (lt_of_le_of_lt least (lit≤ tt))

  held : T (in_float binary64 (pos steps))
  unfolding in_float
  held = le→leb steps (2 ^ 53) (le_trans least (lit≤ tt))

  is_wide : of_int binary64 (to_z w64 steps) ≡ wide steps
  unfolding wide
  is_wide = ap (of_int binary64) same

pub int_to_float-result : goal.int_to_float-result
int_to_float-result c = rw (same c.args.few c.requires) (held c.args.few c.requires)

pub returns : goal.returns
returns c = is_wide c.args.few c.requires
