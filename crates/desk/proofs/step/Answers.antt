-- `desk::step` meets its contract: what the call ensures, whatever the store is. Assumes nothing.
use Rattle.desk.proofs.Turns.{storeless_step, alone}
use Rattle.desk.proofs.step.Goals as goal

pub returns : goal.returns
returns c = λ s. alone _ _ s _ _ _ _ _ c.requires.0 c.called.ensures (storeless_step _ _) c.set_value_at_time.ensures
