-- `vector_line::fuses64` meets its contract. Assumes nothing.
use mathlib.Core.Path.{◌≡◌, sym, ap}
use mathlib.Core.Bool.{Bool, false, cond}
use Prim.Native.Nat.{ℕ, ◌≤◌, ◌<◌}
use borrow.Author.Tests.{lt-ltb, le-ltb}
use lib.Ieee.{binary64, of_bits}
use Rattle.rules.specs.Numbers.{fused, wide}
use Rattle.vector_line.specs.Line.{same, fuses64_to}
use Rattle.vector_line.proofs.fuses64.Goals as goal

large : (a b c w : ℕ) → 1024 < a → fuses64_to a b c w ≡ false
unfolding fuses64_to
large a b c w h = ap (λ (i : Bool). cond i false (same binary64 (fused binary64 (wide a) (of_bits binary64 b) (of_bits binary64 c)) (of_bits binary64 w))) (lt-ltb 1024 a h)

small : (a b c w : ℕ) → a ≤ 1024 → fuses64_to a b c w ≡ same binary64 (fused binary64 (wide a) (of_bits binary64 b) (of_bits binary64 c)) (of_bits binary64 w)
unfolding fuses64_to
small a b c w h = ap (λ (i : Bool). cond i false (same binary64 (fused binary64 (wide a) (of_bits binary64 b) (of_bits binary64 c)) (of_bits binary64 w))) (le-ltb 1024 a h)

pub returns-then-a-gt1024 : goal.returns-then-a-gt1024
returns-then-a-gt1024 c = let a = c.args in sym (large a.a a.b a.c a.w c.if-a-gt1024.true)

pub returns : goal.returns
returns c =
    let a = c.args in
    let l = small a.a a.b a.c a.w c.if-a-gt1024.false in
    cc
