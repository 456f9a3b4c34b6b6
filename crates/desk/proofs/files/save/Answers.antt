-- `desk::files::save` meets its contract: what the writer ensures of the first 4,096 numbers, and its text. Assumes nothing.
use mathlib.Core.Path.{refl, sym}
use native.Mathlib.Omega.{arith}
use lib.Seq.{length-take-le}
use Rattle.text.proofs.Writing.{put_same}
use Rattle.desk.specs.Desk.{saving}
use Rattle.desk.proofs.Turns.{said}
use Rattle.desk.proofs.Schedules.{prints}
use Rattle.desk.proofs.files.save.Goals as goal

pub slice_bounds-write-end : goal.slice_bounds-write-end
slice_bounds-write-end c = sym (length-take-le 4096 c.args.store.now (omega (arith, c.requires.1)))

pub put_written-next-requires : goal.put_written-next-requires
put_written-next-requires c =
    ((prints c.args.desk.param _ c.args.file.now c.requires.0.param (length-take-le 4096 c.args.store.now (omega (arith, c.requires.1))) (omega (arith, c.requires.2)) c.write-said.ensures).1, c.requires.3)

pub returns : goal.returns
unfolding saving
returns c =
    let p = prints c.args.desk.param _ c.args.file.now c.requires.0.param (length-take-le 4096 c.args.store.now (omega (arith, c.requires.1))) (omega (arith, c.requires.2)) c.write-said.ensures in
    said _ _ _ c.args.desk.lent _ _ c.requires.0 refl c.requires.0.lent refl (put_same p.0 c.put_written-next.ensures.put) c.put_written-next.ensures.upper_bound
