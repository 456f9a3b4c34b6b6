-- `put_last` meets its contract. Assumes nothing.
use mathlib.Core.Path.{refl}
use Rattle.coding.specs.Coding.{last_in, last_flag, last_time, last_value}
use Rattle.coding.proofs.put_last.Goals as goal

pub returns-in-None : goal.returns-in-None
unfolding last_in last_flag last_time last_value
returns-in-None c = rw c.in-None.is (record { is = refl; back = refl })

pub returns-in-Some : goal.returns-in-Some
unfolding last_in last_flag last_time last_value
returns-in-Some c =
    let t = c.bits.ensures in
    let v = c.bits-in-Some.ensures in
    rw c.in-Some.is (record { is = rw (t.is, v.is); back = rw (t.back, v.back) })
