-- `desk::state` meets its contract: its parts one behind the other. Assumes nothing.
use mathlib.Core.Path.{refl, sym, subst}
use Prim.Native.Nat.{ℕ, ◌≤◌}
use native.Mathlib.Omega.{arith}
use lib.Seq.{length-take-le}
use Rattle.param.specs.Param.{param_of}
use Rattle.text.proofs.Writing.{put_same, put_then}
use Rattle.desk.specs.Desk.{stating}
use Rattle.desk.proofs.Queues.{state_line_lem}
use Rattle.desk.proofs.Turns.{said}
use Rattle.desk.proofs.state.Goals as goal

pub slice_bounds-is_zeros-end : goal.slice_bounds-is_zeros-end
slice_bounds-is_zeros-end c = sym (length-take-le 4096 c.args.store.now (subst (λ (n : ℕ). 4096 ≤ n) (sym c.requires.1) (omega arith)))

pub offset_of-requires : goal.offset_of-requires
offset_of-requires c = c.requires.0.param

pub put_zeros-next-requires : goal.put_zeros-next-requires
put_zeros-next-requires c = omega (arith, c.requires.2, c.put_state-next.ensures.upper_bound, c.put_state-next.auto.out, c.put_queue-next.ensures.upper_bound, c.put_queue-next.auto.out)

pub returns : goal.returns
unfolding stating
returns c =
    said _ _ _ c.args.desk.lent _ _ c.requires.0 refl c.requires.0.lent refl
    (put_same
    (state_line_lem (param_of c.args.desk.param) c.args.store.now c.automation_rate.ensures c.edition.ensures c.bounds.ensures c.intrinsic_value.ensures c.last_block_time.ensures c.last_block_end.ensures c.last_event.ensures c.len-n.ensures c.offset_of.ensures c.is_zeros.ensures)
    (put_then c.put_state-next.ensures.put (put_then c.put_queue-next.ensures.put c.put_zeros-next.ensures.put (omega (arith, c.requires.2, c.put_state-next.ensures.upper_bound, c.put_state-next.auto.out, c.put_queue-next.ensures.upper_bound))) (omega (arith, c.requires.2, c.put_state-next.ensures.upper_bound))))
    (omega (arith, c.requires.2, c.put_state-next.ensures.upper_bound, c.put_state-next.auto.out, c.put_queue-next.ensures.upper_bound, c.put_zeros-next.ensures.upper_bound))
