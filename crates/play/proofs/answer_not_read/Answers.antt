-- `play::answer_not_read` meets its contract: the line's number, and a newline. Assumes nothing.
use mathlib.Core.Path.{refl}
use native.Mathlib.Omega.{arith}
use Rattle.text.proofs.Writing.{put_then}
use Rattle.desk.specs.Desk.{with_newline}
use Rattle.desk.proofs.Turns.{said}
use Rattle.play.proofs.answer_not_read.Goals as goal

pub returns : goal.returns
unfolding with_newline
returns c =
    let w = c.put_not_read-to.ensures in
    let v = c.put_byte-next.ensures in
    λ s. said _ _ s c.args.desk.lent s _ c.requires.0 refl c.requires.0.lent refl (put_then w.put v (omega (arith, w.upper_bound))) (omega (arith, w.upper_bound, v.place))
