-- `desk::set` meets its contract: what the call ensures, whatever the store is. Assumes nothing.
use Rattle.desk.proofs.Turns.{storeless_set, alone}
use Rattle.desk.proofs.set.Goals as goal

pub returns : goal.returns
returns c = λ s. alone _ _ s _ _ _ _ _ c.requires.0 c.called.ensures (storeless_set _) c.set_value.ensures
