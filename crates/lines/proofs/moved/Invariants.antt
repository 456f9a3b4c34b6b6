-- `lines::moved` meets its contract. The invariant of its loop: so many bytes are moved. Assumes nothing.
use mathlib.Core.Path.{◌≡◌}
use lib.ListN.{take, drop}
use Rattle.text.specs.Put.{put}
use Rattle.lines.proofs.moved.Given as goal

abbrev pub invariant-loop-i : goal.invariant-loop-i
invariant-loop-i l = l.buf ≡ put l.initial.buf 0 (take l.i (drop l.from l.initial.buf))
