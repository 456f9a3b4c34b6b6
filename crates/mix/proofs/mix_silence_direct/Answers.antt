-- `mix_silence_direct` meets its contract: the first i places are mixed, unless a NaN was met. Assumes nothing.
use mathlib.Core.Path.{sym, ◌∙◌}
use mathlib.Core.Bool.{false≢true}
use native.Mathlib.Omega.{arith}
use lib.ListN.{length, replicate, length-replicate}
use Rattle.rules.specs.Numbers.{plus_zero}
use Rattle.rules.specs.Mix.{mixed_all}
use Rattle.laws.proofs.Within.{mixed-length}
use Rattle.mix.proofs.Writes.{trying_begins, trying_goes_on, trying_ends, silence_at, nan_test}
use Rattle.mix.proofs.mix_silence_direct.Goals as goal
use Rattle.mix.proofs.mix_silence_direct.Goals.{then-value, else-value}

pub loop-i-init : goal.loop-i-init
loop-i-init c =
    let vs = c.args.values.now in
    trying_begins (mixed_all c.args.bounds (replicate (length vs) plus_zero) vs) (length vs) c.args.output.now (mixed-length c.args.bounds (replicate (length vs) plus_zero) vs (length-replicate (length vs) plus_zero)) (omega (arith, c.requires.1))

pub silent_value-requires : goal.silent_value-requires
silent_value-requires c = c.requires.0

pub loop-i-preserved : goal.loop-i-preserved
loop-i-preserved c =
    let a = c.before.before.before.before in
    let l = c.loop-i in
    let vs = c.args.values.now in
    trying_goes_on (mixed_all c.args.bounds (replicate (length vs) plus_zero) vs) (length vs) c.args.output.now l.i l.output l.told l.invariant c.if-value.told c.silent_value.result (omega arith)
    (λ e.
    elim c.if-value.branch [
      | then-value w ↦ absurd (false≢true (sym w.told-is ∙ e))
      | else-value w ↦ (sym w.told-is ∙ e, c.silent_value.ensures (nan_test _ ∙ w.if-value.false) ∙ silence_at c.args.bounds vs l.i (omega arith))
    ])

pub shape_of-output : goal.shape_of-output
shape_of-output c = c.loop-i.invariant.whole

pub returns : goal.returns
returns c =
    let l = c.loop-i in
    let vs = c.args.values.now in
    trying_ends (mixed_all c.args.bounds (replicate (length vs) plus_zero) vs) (length vs) c.args.output.now l.i l.output l.told l.invariant (omega arith)
