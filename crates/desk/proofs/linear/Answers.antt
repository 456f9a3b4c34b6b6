-- `desk::linear` meets its contract: what the call ensures, whatever the store is. Assumes nothing.
use Rattle.desk.proofs.Turns.{storeless_linear, alone}
use Rattle.desk.proofs.linear.Goals as goal

pub returns : goal.returns
returns c = λ s. alone _ _ s _ _ _ _ _ c.requires.0 c.called.ensures (storeless_linear _ _) c.linear_ramp_to_value_at_time.ensures
