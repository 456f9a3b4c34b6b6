-- `desk::target` meets its contract: what the call ensures, whatever the store is. Assumes nothing.
use Rattle.desk.proofs.Turns.{storeless_target, alone}
use Rattle.desk.proofs.target.Goals as goal

pub returns : goal.returns
returns c = λ s. alone _ _ s _ _ _ _ _ c.requires.0 c.called.ensures (storeless_target _ _ _) c.set_target_at_time.ensures
