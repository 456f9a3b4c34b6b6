-- `fill_value` meets its contract: the places lent take one value. Assumes nothing.
use Rattle.fills.proofs.Along.{none, upward, alike}
use Rattle.fills.proofs.fill_value.Goals as goal

pub returns-then-writes_none : goal.returns-then-writes_none
returns-then-writes_none c = none c.args.infos c.requires c.writes_none.ensures c.if-writes_none.true

pub slice_bounds-fill-count : goal.slice_bounds-fill-count
slice_bounds-fill-count c = upward c.args.infos c.requires c.writes_none.ensures c.if-writes_none.false

pub slice_bounds-fill-start : goal.slice_bounds-fill-start
slice_bounds-fill-start c = upward c.args.infos c.requires c.writes_none.ensures c.if-writes_none.false

pub returns : goal.returns
returns c = alike c.args.infos c.requires c.writes_none.ensures c.if-writes_none.false (c.fill.ensures.after (λ y e. e))
