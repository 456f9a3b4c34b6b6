-- `param_in` meets its contract. Assumes nothing.
use Rattle.coding.proofs.Read.{answered_state, answered_long, refused_state}
use Rattle.crackledray.proofs.param_in.Goals as goal

pub returns-in_default : goal.returns-in_default
returns-in_default c = refused_state c.decode-d.ensures c.in_default.is

pub returns : goal.returns
returns c =
    let x = c.decode-d.ensures in
    let o = answered_state x c.in-Ok.is in
    record { good = o.0; is = o.1; sound = x.sound; long = answered_long x c.in-Ok.is }
