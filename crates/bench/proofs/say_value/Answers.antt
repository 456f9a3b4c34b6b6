-- `bench::say_value` meets its contract: the text fits its buffer. Assumes nothing.
use Rattle.bench.proofs.Cuts.{cut_length, put-within}
use Rattle.bench.proofs.say_value.Goals as goal

pub slice_bounds-text-end : goal.slice_bounds-text-end
slice_bounds-text-end c = put-within c.put_value-n.ensures

pub slice_bounds-say-end : goal.slice_bounds-say-end
slice_bounds-say-end c = cut_length _ _ (put-within c.put_value-n.ensures)
