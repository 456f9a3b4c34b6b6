-- `mix_silence` meets its contract. Assumes nothing.
use mathlib.Core.Path.{◌∙◌}
use lib.ListN.{length, replicate, length-replicate}
use Rattle.rules.specs.Numbers.{plus_zero}
use Rattle.rules.specs.Mix.{mixed_all}
use Rattle.laws.proofs.Within.{mixed-length}
use Rattle.mix.proofs.Writes.{tried_or}
use Rattle.mix.proofs.mix_silence.Goals as goal

pub returns-then-mix_silence_told : goal.returns-then-mix_silence_told
returns-then-mix_silence_told c = c.mix_silence_told.ensures.written c.if-mix_silence_told.true

pub returns : goal.returns
returns c =
    let t = c.before.before.before.before.before.before.before in
    let vs = c.args.values.now in
    c.mix_silence_any.ensures
    ∙ tried_or (mixed_all c.args.bounds (replicate (length vs) plus_zero) vs) (length vs) c.args.output.now _ _ (mixed-length c.args.bounds (replicate (length vs) plus_zero) vs (length-replicate (length vs) plus_zero)) c.mix_silence_told.ensures
