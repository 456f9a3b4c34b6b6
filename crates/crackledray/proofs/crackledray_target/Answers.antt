-- `crackledray_target` meets its contract. Assumes nothing.
use Rattle.crackledray.proofs.Closing.{tells_bad, tells}
use Rattle.crackledray.proofs.crackledray_target.Goals as goal

pub returns-in_default : goal.returns-in_default
returns-in_default c = tells_bad c.in_default.ensures

pub close-requires : goal.close-requires
close-requires c = (c.set_target_at_time.ensures.sound, c.in-Some.ensures.long)

pub returns : goal.returns
returns c = tells c.in-Some.ensures c.set_target_at_time.ensures c.close.ensures
