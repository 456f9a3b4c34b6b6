-- `sheet::set_up` meets its contract: its calls in turn. Assumes nothing.
use Rattle.sheet.proofs.Asks.{sets_up}
use Rattle.sheet.proofs.set_up.Goals as goal

pub returns : goal.returns
returns c =
    sets_up c.new-made.ensures c.ask-one.ensures c.ask-two.ensures c.ask-three.ensures
