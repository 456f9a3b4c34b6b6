-- `field::time_in` meets its contract: a curve begins with its time, all else has a value before it. Assumes nothing.
use mathlib.Core.Path.{sym, ◌∙◌}
use Prim.Native.Nat.{◌≤◌}
use native.Mathlib.Omega.{arith}
use lib.ListN.{length}
use Rattle.card.specs.Card.{tag_of}
use Rattle.card.proofs.Fields.{room}
use Rattle.card_reader.proofs.Events.{time_behind, time_first}
use Rattle.card_reader.proofs.field.time_in.Goals as goal
use Rattle.card_reader.proofs.field.time_in.Goals.{Start}

long : (s : Start) → 15 ≤ length s.args.bytes.now
long s = room s.args.bytes.now s.requires.0.whole s.requires.0.right

pub bounds-bytes-0 : goal.bounds-bytes-0
bounds-bytes-0 c = omega (arith, long (goal.at.bounds-bytes-0 c).Start)

pub real_at-requires : goal.real_at-requires
real_at-requires c = long (goal.at.real_at-requires c).Start

pub real_at-requires-else-bytes-le4 : goal.real_at-requires-else-bytes-le4
real_at-requires-else-bytes-le4 c = omega (arith, long (goal.at.real_at-requires-else-bytes-le4 c).Start)

pub returns-then-bytes-le4 : goal.returns-then-bytes-le4
unfolding tag_of
returns-then-bytes-le4 c = c.real_at.ensures ∙ sym (time_behind c.args.bytes.now c.requires.0.tag c.if-bytes-le4.true)

pub returns-else-bytes-le4 : goal.returns-else-bytes-le4
unfolding tag_of
returns-else-bytes-le4 c = c.real_at-else-bytes-le4.ensures ∙ sym (time_first c.args.bytes.now c.requires.0.tag c.requires.1 c.if-bytes-le4.false)
