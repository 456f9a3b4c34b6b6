-- `text::write::places` meets its contract: by the power of 10 that the number reaches. Assumes nothing.
use mathlib.Core.Path.{sym}
use native.Mathlib.Omega.{arith}
use Rattle.text.proofs.Writing.{places_is, no_places}
use Rattle.text.proofs.write.places.Goals as goal

pub returns-in-Some : goal.returns-in-Some
returns-in-Some c =
    let e = c.in-Some.ensures in
    (sym (places_is c.in-Some.k 19 c.args.n (omega (arith, e.bound)) e.power_le e.next_power_gt), omega (arith, e.bound))

pub returns-in-None : goal.returns-in-None
returns-in-None c = (sym (no_places 19 c.args.n c.in-None.ensures.none), omega arith)
