-- `rate_word` meets its contract. Assumes nothing.
use Rattle.coding.specs.Coding.{rate_word}
use Rattle.coding.proofs.rate_word.Goals as goal

pub returns-in-A : goal.returns-in-A
unfolding rate_word
returns-in-A c = rw c.in-A.is

pub returns-in-K : goal.returns-in-K
unfolding rate_word
returns-in-K c = rw c.in-K.is
