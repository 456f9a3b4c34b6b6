-- `wording::translate` meets its contract: the line up to its comment. Assumes nothing.
use mathlib.Core.Path.{sym}
use native.Mathlib.Omega.{arith}
use lib.Seq.{length-take-le}
use Rattle.wording.proofs.Steps.{comment_off, wrote_same}
use Rattle.wording.proofs.translate.Goals as goal

pub slice_bounds-put_call-end : goal.slice_bounds-put_call-end
slice_bounds-put_call-end c = sym (length-take-le _ _ (omega arith))

pub put_call-requires : goal.put_call-requires
put_call-requires c = omega (arith, length-take-le c.find-end.result c.args.line.now (omega arith))

pub returns : goal.returns
returns c = (wrote_same _ _ _ _ (comment_off _ _ c.find-end.ensures.0) c.put_call.ensures.0, c.put_call.ensures.1)
