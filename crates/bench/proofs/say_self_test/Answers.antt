-- `bench::say_self_test` meets its contract. Assumes nothing.
use Rattle.sheet.proofs.Counts.{few_samples}
use Rattle.bench.proofs.say_self_test.Goals as goal

pub say_row-requires : goal.say_row-requires
say_row-requires c = rw c.row_of.ensures ((few_samples _).count, (few_samples _).again)

pub say_row-requires-2 : goal.say_row-requires-2
say_row-requires-2 c = rw c.row_of-2.ensures ((few_samples _).count, (few_samples _).again)
