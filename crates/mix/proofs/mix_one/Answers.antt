-- `mix_one` meets its contract: the first i places are mixed. Assumes nothing.
use mathlib.Core.Path.{sym, ◌∙◌}
use native.Mathlib.Omega.{arith}
use lib.ListN.{length, replicate, length-replicate}
use Rattle.rules.specs.Mix.{mixed_all}
use Rattle.laws.proofs.Within.{mixed-length}
use Rattle.mix.proofs.Writes.{begins, goes_on, ends, one_at}
use Rattle.mix.proofs.mix_one.Goals as goal

pub loop-i-init : goal.loop-i-init
loop-i-init c =
    let a = c.args in
    begins (mixed_all a.bounds a.input.now (replicate (length a.input.now) a.value)) (length a.input.now) a.output.now (mixed-length a.bounds a.input.now (replicate (length a.input.now) a.value) (sym (length-replicate (length a.input.now) a.value)) ∙ length-replicate (length a.input.now) a.value) (omega (arith, c.requires))

pub loop-i-preserved : goal.loop-i-preserved
loop-i-preserved c =
    let l = c.loop-i in
    let a = c.args in
    goes_on (mixed_all a.bounds a.input.now (replicate (length a.input.now) a.value)) (length a.input.now) a.output.now l.i l.output l.invariant c.mixed_value.result (omega arith) (c.mixed_value.ensures ∙ one_at a.bounds a.input.now a.value l.i (omega arith))

pub shape_of-output : goal.shape_of-output
shape_of-output c = c.loop-i.invariant.whole

pub returns : goal.returns
returns c =
    let l = c.loop-i in
    let a = c.args in
    ends (mixed_all a.bounds a.input.now (replicate (length a.input.now) a.value)) (length a.input.now) a.output.now l.i l.output l.invariant (omega arith)
