-- `rest` meets its contract. Assumes nothing.
use mathlib.Core.Path.{refl}
use Rattle.param.proofs.Plays.{rests}
use Rattle.param.proofs.AudioParam.rest.Goals as goal

pub returns : goal.returns
returns c part =
    rests c.args.self c.args.infos _ _ part c.mix_value.ensures (c.says_one.ensures _ refl)
