-- `field::worst_of` meets its contract: with i numbers passed, the others decide. Assumes nothing.
use mathlib.Core.Path.{◌≡◌}
use Prim.Native.Nat.{◌≤◌}
use Rattle.rules.specs.Refusals.{all_finite}
use Rattle.words.specs.Words.{singles_at}
use Rattle.card_reader.proofs.Singles.{singles_from}
use Rattle.card_reader.proofs.field.worst_of.Given as goal

abbrev pub invariant-loop-i : goal.invariant-loop-i
invariant-loop-i l = (l.i ≤ l.n) × (all_finite (singles_at l.bytes l.at l.n) ≡ all_finite (singles_from l.bytes l.at l.n l.i))
