-- `powers::falling_by` meets its contract. Assumes nothing.
use Rattle.std.proofs.Common.{ℕ, ◌-◌, ◌^◌, ap, ◌∙◌, drop}
use Rattle.rules.specs.Kernels.{table, falling_from}
use Rattle.powers.proofs.Near.{later}
use Rattle.powers.proofs.falling_by.Goals as goal

pub returns : goal.returns
returns c =
    let a = c.args.a in
    c.falling_from.ensures
    ∙ ap (λ (x : ℕ). falling_from (drop 8 table) a (2 ^ 32 - x)) c.entry.ensures.0
    ∙ later a c.requires
