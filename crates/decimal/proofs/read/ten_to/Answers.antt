-- `decimal::read::ten_to` meets its contract. The invariant of its loop: the power is exact. Assumes nothing.
use Rattle.std.proofs.Common.{ℕ, ◌^◌, pos, refl, ap, ◌∙◌, arith}
use lib.Ieee.{Float, binary64, mul, of_int, of_bits}
use Rattle.decimal.proofs.Scaling.{tenfold}
use Rattle.decimal.proofs.read.ten_to.Goals as goal

pub loop-i-init : goal.loop-i-init
unfolding of_int of_bits
loop-i-init c = refl

pub loop-i-preserved : goal.loop-i-preserved
unfolding of_bits
loop-i-preserved c =
    let l = c.loop-i in
    ap (λ (x : Float). mul binary64 x (of_bits binary64 4621819117588971520)) l.invariant ∙ tenfold l._i (omega arith)

pub returns : goal.returns
returns c = c.loop-i.invariant ∙ ap (λ (j : ℕ). of_int binary64 (pos (10 ^ j))) (omega arith)
