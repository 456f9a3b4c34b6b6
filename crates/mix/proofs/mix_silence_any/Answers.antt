-- `mix_silence_any` meets its contract: the first i places are mixed. Assumes nothing.
use mathlib.Core.Path.{◌∙◌}
use native.Mathlib.Omega.{arith}
use lib.ListN.{length, replicate, length-replicate}
use lib.Ieee as Ieee
use Rattle.rules.specs.Numbers.{plus_zero}
use Rattle.rules.specs.Mix.{mixed_all}
use Rattle.laws.proofs.Within.{mixed-length}
use Rattle.mix.proofs.Writes.{begins, goes_on, ends, silence_at}
use Rattle.mix.proofs.mix_silence_any.Goals as goal

pub loop-i-init : goal.loop-i-init
loop-i-init c =
    let a = c.args in
    begins (mixed_all a.bounds (replicate (length a.values.now) plus_zero) a.values.now) (length a.values.now) a.output.now (mixed-length a.bounds (replicate (length a.values.now) plus_zero) a.values.now (length-replicate (length a.values.now) plus_zero)) (omega (arith, c.requires))

pub loop-i-preserved : goal.loop-i-preserved
unfolding Ieee.of_bits
loop-i-preserved c =
    let l = c.loop-i in
    let a = c.args in
    goes_on (mixed_all a.bounds (replicate (length a.values.now) plus_zero) a.values.now) (length a.values.now) a.output.now l.i l.output l.invariant c.mixed_value.result (omega arith) (c.mixed_value.ensures ∙ silence_at a.bounds a.values.now l.i (omega arith))

pub shape_of-output : goal.shape_of-output
shape_of-output c = c.loop-i.invariant.whole

pub returns : goal.returns
returns c =
    let l = c.loop-i in
    let a = c.args in
    ends (mixed_all a.bounds (replicate (length a.values.now) plus_zero) a.values.now) (length a.values.now) a.output.now l.i l.output l.invariant (omega arith)
