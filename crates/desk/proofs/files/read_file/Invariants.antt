-- `desk::files::read_file` meets its contract. The invariant of its loop: what has come of the file is read. Assumes nothing.
use mathlib.Core.Path.{◌≡◌}
use Prim.Native.Nat.{◌-◌, ◌≤◌}
use lib.ListN.{length, take}
use Rattle.desk.specs.Desk.{ReadsFile}
use Rattle.desk.proofs.files.read_file.Given as goal

abbrev pub invariant-loop-from : goal.invariant-loop-from
invariant-loop-from l =
    (l.from ≤ length l.file) × (length l.window ≡ length l.initial.window) × (length l.numbers ≡ length l.initial.numbers)
    × ReadsFile l.initial.reader.rate l.edition (take l.from l.file) l.reader l.numbers l.window

abbrev pub decreases-loop-from : goal.decreases-loop-from
decreases-loop-from l = length l.file - l.from
