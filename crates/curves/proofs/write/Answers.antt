-- `write` meets its contract: the first i are copied. Assumes nothing.
use lib.Ieee.{nan}
use lib.Seq.{paste, paste-zero}
use Rattle.curves.proofs.Parts.{paste_turn}
use mathlib.Core.Path.{◌≡◌, refl, ap, ◌∙◌}
use Prim.Native.Nat.{◌+◌}
use native.Mathlib.Omega.{arith}
use lib.ListN.{length, length-set}
use Rattle.curves.proofs.write.Goals as goal

pub loop-i-init : goal.loop-i-init
loop-i-init c = let a = c.args in (omega arith, refl, paste-zero a.part.now a.at a.values.now)

pub offset_bounds-values-i : goal.offset_bounds-values-i
offset_bounds-values-i c = omega arith

pub bounds-values-i : goal.bounds-values-i
bounds-values-i c = omega arith

pub overflow_add-part : goal.overflow_add-part
overflow_add-part c = omega arith

pub offset_bounds-part-at : goal.offset_bounds-part-at
offset_bounds-part-at c = omega arith

pub bounds-part-at : goal.bounds-part-at
bounds-part-at c = omega arith

pub overflow_add-i : goal.overflow_add-i
overflow_add-i c = omega arith

pub loop-i-smaller : goal.loop-i-smaller
loop-i-smaller c = omega arith

pub loop-i-preserved : goal.loop-i-preserved
loop-i-preserved c =
    let a = c.args in
    let l = c.loop-i in
    let o = a.part.now in
    let s = a.values.now in (
      omega arith,
      rw length-set l.invariant.1,
      paste_turn nan o s a.at l.i l.part l.invariant.2 (omega arith) (omega arith) (a.at + l.i) _ refl refl,
    )

pub shape_of-part : goal.shape_of-part
shape_of-part c = omega arith

pub returns : goal.returns
returns c =
    let a = c.args in
    let l = c.loop-i in
    let e : l.i ≡ length a.values.now = omega arith in
    l.invariant.2 ∙ ap (paste a.part.now a.at a.values.now) e
