-- `crackledray_exponential` meets its contract. Assumes nothing.
use Rattle.crackledray.proofs.Closing.{tells_bad, tells}
use Rattle.crackledray.proofs.crackledray_exponential.Goals as goal

pub returns-in_default : goal.returns-in_default
returns-in_default c = tells_bad c.in_default.ensures

pub close-requires : goal.close-requires
close-requires c = (c.exponential_ramp_to_value_at_time.ensures.sound, c.in-Some.ensures.long)

pub returns : goal.returns
returns c = tells c.in-Some.ensures c.exponential_ramp_to_value_at_time.ensures c.close.ensures
