-- `desk::files::read_file` meets its contract. The invariant of its loop: what has come of the file is read. Assumes nothing.
use mathlib.Core.Path.{refl, ◌∙◌, subst}
use mathlib.Core.List.{List}
use Prim.Native.Nat.{ℕ, ◌+◌, zero-le}
use native.Mathlib.Omega.{arith}
use lib.Seq.{take_all}
use Rattle.rules.specs.declared.AutomationRate.{AutomationRate}
use Rattle.desk.specs.Desk.{ReadsFile}
use Rattle.desk.proofs.Schedules.{opened_rate, opened_reads, part_reads, part_taken}
use Rattle.desk.proofs.files.read_file.Goals as goal

pub open-reader-requires : goal.open-reader-requires
open-reader-requires c = c.requires.3

pub loop-from-init : goal.loop-from-init
loop-from-init c = (zero-le, refl, refl, opened_reads _ c.requires.2 c.open-reader.ensures)

pub slice_bounds-take-count : goal.slice_bounds-take-count
slice_bounds-take-count c = omega arith

pub slice_bounds-take-start : goal.slice_bounds-take-start
slice_bounds-take-start c = omega arith

pub slice_bounds-take-end : goal.slice_bounds-take-end
slice_bounds-take-end c = omega (arith, c.min.ensures)

pub take-requires : goal.take-requires
take-requires c = (c.loop-from.invariant.3.sound, c.loop-from.invariant.3.fits)

pub returns-in_default : goal.returns-in_default
returns-in_default c = absurd (part_taken _ _ _ _ _ _ c.loop-from.from (c.loop-from.from + c.min.result) (omega (arith, c.min.ensures, c.requires.1)) c.in_default.ensures refl)

pub loop-from-smaller : goal.loop-from-smaller
loop-from-smaller c = omega (arith, c.min.ensures, c.requires.0)

pub loop-from-preserved : goal.loop-from-preserved
loop-from-preserved c =
    let l = c.loop-from in
    let t = c.take in
    (omega (arith, c.min.ensures), t.auto.window ∙ l.invariant.1, t.auto.numbers ∙ l.invariant.2, part_reads _ l.from _ (omega arith) (omega (arith, c.min.ensures, c.requires.1)) l.invariant.3 c.in-Some.ensures refl)

pub shape_of-window : goal.shape_of-window
shape_of-window c = c.loop-from.invariant.1

pub shape_of-numbers : goal.shape_of-numbers
shape_of-numbers c = c.loop-from.invariant.2 ∙ c.open-reader.auto.numbers

pub returns : goal.returns
returns c =
    let l = c.loop-from in
    let file = c.args.file.now in
    subst (λ (q : AutomationRate). ReadsFile q c.args.edition file l.reader l.numbers l.window) (opened_rate c.open-reader.ensures)
    (subst (λ (f : List ℕ). ReadsFile c.open-reader.result.rate c.args.edition f l.reader l.numbers l.window) (take_all l.from file c.loop-from-test.false) l.invariant.3)
