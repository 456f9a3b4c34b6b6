-- `vector_line::digit` meets its contract. Assumes nothing.
use mathlib.Core.Path.{sym, ap}
use mathlib.Core.Bool.{Bool, cond}
use Prim.Native.Nat.{◌+◌, ◌%◌}
use borrow.Author.Tests.{lt-ltb, le-ltb}
use Rattle.vector_line.proofs.digit.Goals as goal

pub returns-then-c-lt97 : goal.returns-then-c-lt97
returns-then-c-lt97 c = let x = c.args.c in sym (ap (λ (i : Bool). cond i (x % 16) ((x % 16 + 9) % 16)) (lt-ltb x 97 c.if-c-lt97.true))

pub returns-else-c-lt97 : goal.returns-else-c-lt97
returns-else-c-lt97 c = let x = c.args.c in sym (ap (λ (i : Bool). cond i (x % 16) ((x % 16 + 9) % 16)) (le-ltb x 97 c.if-c-lt97.false))
