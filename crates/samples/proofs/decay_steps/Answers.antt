-- `samples::decay_steps` meets its contract. Assumes nothing.
use Rattle.std.proofs.Common.{◌∙◌, arith}
use Rattle.samples.proofs.Fading.{steps_norm}
use Rattle.samples.proofs.decay_steps.Goals as goal

pub overflow_sub-p : goal.overflow_sub-p
overflow_sub-p c = omega arith

pub returns : goal.returns
returns c =
    c.norm.ensures ∙ rw c.falling_power.ensures (steps_norm c.args.p c.requires)
