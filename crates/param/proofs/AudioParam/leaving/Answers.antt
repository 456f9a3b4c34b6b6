-- `leaving` meets its contract. Assumes nothing.
use Rattle.param.proofs.Plays.{left_neat, gives}
use Rattle.param.proofs.AudioParam.leaving.Goals as goal

pub replace_peek-timeline-requires : goal.replace_peek-timeline-requires
replace_peek-timeline-requires c =
    left_neat c.args.self.timeline _ c.args.played.at c.requires.0 c.consume-rest.ensures

pub returns : goal.returns
returns c =
    let a = c.args in
    gives a.self a.infos a.played _ _ c.consume-rest.ensures c.replace_peek-timeline.ensures c.after.ensures
