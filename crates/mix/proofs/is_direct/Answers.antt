-- `is_direct` meets its contract. Assumes nothing.
use mathlib.Core.Bool.{false≢true}
use Rattle.mix.proofs.is_direct.Goals as goal

pub returns-then-bounds : goal.returns-then-bounds
returns-then-bounds c h = absurd (false≢true h)

pub returns-then-stands : goal.returns-then-stands
returns-then-stands c h = record { ordered = c.if-bounds.false; low = c.stands.ensures c.if-stands.true; high = c.stands-then-stands.ensures h }

pub returns : goal.returns
returns c h = absurd (false≢true h)
