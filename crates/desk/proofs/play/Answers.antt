-- `desk::play` meets its contract: what the block ensures of the part of the store that it is lent, and its text. Assumes nothing.
use mathlib.Core.Path.{sym, subst}
use Prim.Native.Nat.{ℕ, ◌≤◌}
use lib.Seq.{length-take-le}
use Rattle.desk.proofs.Blocks.{block_fits, played}
use Rattle.desk.proofs.play.Goals as goal

pub slice_bounds-render-end-2 : goal.slice_bounds-render-end-2
slice_bounds-render-end-2 c =
    sym (length-take-le c.args.desk.lent c.args.store.now (subst (λ (n : ℕ). c.args.desk.lent ≤ n) (sym c.requires.1) c.requires.0.lent))

pub put_processed-next-requires : goal.put_processed-next-requires
put_processed-next-requires c =
    (block_fits _ _ _ _ _ c.args.desk c.args.store.now c.render-r.ensures, c.requires.2)

pub played-desk-requires : goal.played-desk-requires
played-desk-requires c = (c.requires.0.param, c.render-r.ensures.sound)

pub returns : goal.returns
returns c =
    played _ _ _ _ _ c.args.desk c.args.store.now c.render-r.ensures c.requires.0 c.played-desk.ensures c.put_processed-next.ensures.put c.put_processed-next.ensures.upper_bound
