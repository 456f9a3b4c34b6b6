-- `samples::limit_of` meets its contract: signed, the place is the same number. Assumes nothing.
use Rattle.std.proofs.Common.{◌≡◌, ℕ, ◌^◌, ◌≤◌, pos, refl, lt_of_le_of_lt, lit≤, w64, to_z, le-leb}
use lib.Ieee.{in_float, of_bits}
use mir.Facts.{to_z_pos}
use Rattle.rules.specs.Numbers.{limit, wide}
use Rattle.samples.proofs.limit_of.Goals as goal

same : (n : ℕ) → n ≤ 2 ^ 53 → to_z w64 n ≡ pos n
same n h = to_z_pos w64 (lt_of_le_of_lt h (lit≤ tt))

pub overflow_cast-result : goal.overflow_cast-result
overflow_cast-result c = record { sfits = lt_of_le_of_lt c.requires (lit≤ tt) }

pub int_to_float-result : goal.int_to_float-result
unfolding in_float
int_to_float-result c = rw (same c.args.n c.requires, le-leb c.args.n (2 ^ 53) c.requires) tt

pub returns : goal.returns
unfolding limit wide of_bits
returns c = rw (same c.args.n c.requires) refl
