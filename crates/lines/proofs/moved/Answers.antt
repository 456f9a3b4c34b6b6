-- `lines::moved` meets its contract. The invariant of its loop: so many bytes are moved. Assumes nothing.
use mathlib.Core.Path.{refl, sym, ap, ◌∙◌}
use mathlib.Core.List.{List}
use Prim.Native.Nat.{ℕ, ◌+◌}
use native.Mathlib.Nat.{le_antisymm}
use native.Mathlib.Omega.{arith}
use lib.ListN.{get_or, take, drop, set}
use Rattle.text.specs.Put.{put}
use Rattle.lines.proofs.Moving.{none_moved, one_moved}
use Rattle.lines.proofs.moved.Goals as goal

pub loop-i-init : goal.loop-i-init
loop-i-init c = sym (none_moved _)

pub loop-i-preserved : goal.loop-i-preserved
loop-i-preserved c =
    let a = c.args in
    let l = c.loop-i in
    ap (λ (b : List ℕ). set b l.i (get_or b (a.from + l.i) 0)) l.invariant ∙ one_moved a.buf.now a.from l.i (omega (arith, c.requires, c.loop-i-test.true))

pub returns : goal.returns
returns c =
    let a = c.args in
    let l = c.loop-i in
    (refl, l.invariant ∙ ap (λ (k : ℕ). put a.buf.now 0 (take k (drop a.from a.buf.now))) (le_antisymm l.auto.i-end c.loop-i-test.false))
