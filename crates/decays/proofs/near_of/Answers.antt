-- `decays::near_of` meets its contract. Assumes nothing.
use Rattle.decays.proofs.Window.{last_steps, shows_near}
use Rattle.decays.proofs.near_of.Goals as goal

pub returns : goal.returns
returns c =
    let b = c.args.b in
    let s = c.requires in
    let n = c.falling_near.ensures in
    shows_near b s c.falling_near.result (rw (last_steps b s) at n.0) (rw (last_steps b s) at n.1) n.2
