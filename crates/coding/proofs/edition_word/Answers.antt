-- `edition_word` meets its contract. Assumes nothing.
use Rattle.laws.specs.Editions.{number_of_edition}
use Rattle.coding.proofs.edition_word.Goals as goal

pub returns-in-First : goal.returns-in-First
unfolding number_of_edition
returns-in-First c = rw c.in-First.is

pub returns-in-Second : goal.returns-in-Second
unfolding number_of_edition
returns-in-Second c = rw c.in-Second.is
