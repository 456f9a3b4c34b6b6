-- `play::answer_cost` meets its contract: the totals in words, and a newline. Assumes nothing.
use mathlib.Core.Path.{refl, ap}
use Prim.Native.Nat.{ℕ}
use native.Mathlib.Omega.{arith}
use Rattle.text.proofs.Writing.{put_same, put_then}
use Rattle.tally.specs.Tally.{cost_text}
use Rattle.desk.specs.Desk.{with_newline}
use Rattle.desk.proofs.Turns.{said}
use Rattle.play.specs.Played.{cost_turn}
use Rattle.play.proofs.answer_cost.Goals as goal

pub returns : goal.returns
unfolding with_newline cost_turn
returns c =
    let w = c.put_cost-to.ensures in
    let v = c.put_byte-next.ensures in
    let text = put_same (ap (λ (n : ℕ). cost_text c.args.desk.totals n) c.len.ensures) w.put in
    λ s. said _ _ s c.args.desk.lent s _ c.requires.0 refl c.requires.0.lent refl (put_then text v (omega (arith, w.upper_bound))) (omega (arith, w.upper_bound, v.place))
