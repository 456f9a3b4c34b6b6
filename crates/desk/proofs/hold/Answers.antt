-- `desk::hold` meets its contract: what the call ensures of the part of the store that it is lent. Assumes nothing.
use mathlib.Core.Path.{sym, subst}
use Prim.Native.Nat.{ℕ, ◌≤◌}
use lib.Seq.{length-take-le}
use Rattle.desk.proofs.Turns.{lent}
use Rattle.desk.proofs.hold.Goals as goal

pub slice_bounds-cancel_and_hold_at_time-end-2 : goal.slice_bounds-cancel_and_hold_at_time-end-2
slice_bounds-cancel_and_hold_at_time-end-2 c =
    sym (length-take-le c.args.desk.lent c.args.store.now (subst (λ (n : ℕ). c.args.desk.lent ≤ n) (sym c.requires.1) c.requires.0.lent))

pub returns : goal.returns
returns c = lent _ _ _ _ _ _ _ _ c.requires.0 c.called.ensures _ c.cancel_and_hold_at_time-r.ensures
