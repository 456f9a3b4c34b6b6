-- `mix_input` meets its contract: the first i places are mixed. Assumes nothing.
use mathlib.Core.Path.{◌∙◌}
use native.Mathlib.Omega.{arith}
use lib.ListN.{length}
use Rattle.rules.specs.Mix.{mixed_all}
use Rattle.laws.proofs.Within.{mixed-length}
use Rattle.mix.proofs.Writes.{begins, goes_on, ends, mixed_at}
use Rattle.mix.proofs.mix_input.Goals as goal

pub loop-i-init : goal.loop-i-init
loop-i-init c =
    let a = c.args in
    (begins (mixed_all a.bounds a.input.now a.values.now) (length a.values.now) a.output.now (mixed-length a.bounds a.input.now a.values.now c.requires.0) (omega (arith, c.requires)), c.requires.0)

pub loop-i-preserved : goal.loop-i-preserved
loop-i-preserved c =
    let l = c.loop-i in
    let a = c.args in
    (goes_on (mixed_all a.bounds a.input.now a.values.now) (length a.values.now) a.output.now l.i l.output l.invariant.0 c.mixed_value.result (omega arith) (c.mixed_value.ensures ∙ mixed_at a.bounds a.input.now a.values.now l.i (omega arith) (omega arith)), l.invariant.1)

pub shape_of-output : goal.shape_of-output
shape_of-output c = c.loop-i.invariant.0.whole

pub returns : goal.returns
returns c =
    let l = c.loop-i in
    let a = c.args in
    ends (mixed_all a.bounds a.input.now a.values.now) (length a.values.now) a.output.now l.i l.output l.invariant.0 (omega arith)
