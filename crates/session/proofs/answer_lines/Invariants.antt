-- `session::answer_lines` meets its contract: with each line that is taken one more is answered, and fewer bytes are left. Assumes nothing.
use mathlib.Core.Path.{◌≡◌}
use Prim.Native.Nat.{◌-◌}
use lib.ListN.{length}
use Rattle.session.specs.Session.{Going, Through}
use Rattle.session.proofs.answer_lines.Given as goal

abbrev pub invariant-loop-at : goal.invariant-loop-at
invariant-loop-at l =
    Going l.desk l.lines l.at l.input l.numbers l.file l.store l.out × Through l.input l.s.desk l.s.lines l.s.at l.initial.store l.initial.out l.desk l.lines l.at l.store l.out
    × (length l.numbers ≡ length l.initial.numbers) × (length l.file ≡ length l.initial.file) × (length l.store ≡ length l.initial.store) × (length l.out ≡ length l.initial.out)

abbrev pub decreases-loop-at : goal.decreases-loop-at
decreases-loop-at l = l.lines.to - l.lines.from
