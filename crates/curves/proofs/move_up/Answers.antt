-- `move_up` meets its contract: all but the first i are copied, and those are as they were. Assumes nothing.
use lib.Ieee.{nan}
use Rattle.curves.proofs.Parts.{Lifted, lifted_none, lifted_all, lifted_turn}
use mathlib.Core.Path.{◌≡◌, refl, ap, ◌∙◌}
use Prim.Native.Nat.{ℕ, ◌+◌, ◌-◌}
use native.Mathlib.Omega.{arith}
use lib.ListN.{length-set}
use Rattle.curves.proofs.move_up.Goals as goal

pub loop-i-init : goal.loop-i-init
loop-i-init c = let a = c.args in (omega arith, refl, lifted_none a.part.now a.from a.to a.n)

pub overflow_sub-i : goal.overflow_sub-i
overflow_sub-i c = omega arith

pub overflow_add-part : goal.overflow_add-part
overflow_add-part c = omega arith

pub offset_bounds-part-from : goal.offset_bounds-part-from
offset_bounds-part-from c = omega arith

pub bounds-part-from : goal.bounds-part-from
bounds-part-from c = omega arith

pub overflow_add-part-in-loop-i : goal.overflow_add-part-in-loop-i
overflow_add-part-in-loop-i c = omega arith

pub offset_bounds-part-to : goal.offset_bounds-part-to
offset_bounds-part-to c = omega arith

pub bounds-part-to : goal.bounds-part-to
bounds-part-to c = omega arith

pub loop-i-smaller : goal.loop-i-smaller
loop-i-smaller c = omega arith

pub loop-i-preserved : goal.loop-i-preserved
loop-i-preserved c =
    let a = c.args in
    let l = c.loop-i in
    let o = a.part.now in
    let j : ℕ = l.i - 1 in
    let e : l.i ≡ j + 1 = omega arith in (
      omega arith,
      rw length-set l.invariant.1,
      lifted_turn o a.from a.to a.n nan c.requires.0 c.requires.1 j (omega arith) l.part
          (l.invariant.2 ∙ ap (Lifted o a.from a.to a.n) e) (a.to + j) _ refl refl,
    )

pub shape_of-part : goal.shape_of-part
shape_of-part c = omega arith

pub returns : goal.returns
returns c =
    let a = c.args in
    let l = c.loop-i in
    let e : l.i ≡ 0 = omega arith in
    l.invariant.2 ∙ ap (Lifted a.part.now a.from a.to a.n) e ∙ lifted_all a.part.now a.from a.to a.n
