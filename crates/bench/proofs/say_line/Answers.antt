-- `bench::say_line` meets its contract. Assumes nothing.
use Rattle.sheet.proofs.Counts.{few_samples}
use Rattle.bench.proofs.say_line.Goals as goal

pub say_row-requires : goal.say_row-requires
say_row-requires c = rw c.row_of.ensures ((few_samples _).count, (few_samples _).again)
