-- `len` meets its contract. Assumes nothing.
use mathlib.Core.Path.{sym}
use Rattle.timeline.proofs.Laws.{count}
use Rattle.param.proofs.AudioParam.len.Goals as goal

pub returns : goal.returns
returns c = sym (count c.args.self.timeline c.requires.neat)
