-- `desk::exponential` meets its contract: what the call ensures, whatever the store is. Assumes nothing.
use Rattle.desk.proofs.Turns.{storeless_exponential, alone}
use Rattle.desk.proofs.exponential.Goals as goal

pub returns : goal.returns
returns c = λ s. alone _ _ s _ _ _ _ _ c.requires.0 c.called.ensures (storeless_exponential _ _) c.exponential_ramp_to_value_at_time.ensures
