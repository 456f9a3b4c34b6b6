-- `powers::falling_near` meets its contract. Assumes nothing.
use Rattle.std.proofs.Common.{ℕ, ◌-◌, ◌^◌, ap}
use Rattle.powers.proofs.Near.{near}
use Rattle.powers.proofs.falling_near.Goals as goal

pub returns : goal.returns
returns c =
    let n = near c.args.a (2 ^ 32 - c.entry-t.result) c.less.result c.less-2.result c.entry.result c.entry-2.result c.requires
    (ap (λ (x : ℕ). 2 ^ 32 - x) c.entry-t.ensures.0) c.less.ensures.1 c.entry.ensures.0
    c.less.ensures.0 c.entry-2.ensures.0 c.less-2.ensures.0 in
    (n.0, n.1, c.less-2.ensures.1)
