-- `ceiling_of` meets its contract. Assumes nothing.
use Rattle.rules.specs.Numbers.{ceiling_of}
use borrow.Author.Rules.{rules}
use Rattle.param.proofs.ceiling_of.Goals as goal

pub returns-in-First : goal.returns-in-First
unfolding ceiling_of
returns-in-First c = search rules

pub returns-in-Second : goal.returns-in-Second
unfolding ceiling_of
returns-in-Second c = search rules
