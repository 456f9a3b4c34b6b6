-- `number_of` meets its contract. Assumes nothing.
use borrow.Author.Rules.{rules}
use Rattle.rules.specs.Refusals.{number_of}
use Rattle.refusals.proofs.number_of.Goals as goal

pub returns-in-Bounds : goal.returns-in-Bounds
unfolding number_of
returns-in-Bounds c = search rules

pub returns-in-NotFinite : goal.returns-in-NotFinite
unfolding number_of
returns-in-NotFinite c = search rules

pub returns-in-BeforeZero : goal.returns-in-BeforeZero
unfolding number_of
returns-in-BeforeZero c = search rules

pub returns-in-NotAbove : goal.returns-in-NotAbove
unfolding number_of
returns-in-NotAbove c = search rules

pub returns-in-ZeroTarget : goal.returns-in-ZeroTarget
unfolding number_of
returns-in-ZeroTarget c = search rules

pub returns-in-ShortCurve : goal.returns-in-ShortCurve
unfolding number_of
returns-in-ShortCurve c = search rules

pub returns-in-QueueFull : goal.returns-in-QueueFull
unfolding number_of
returns-in-QueueFull c = search rules

pub returns-in-StoreFull : goal.returns-in-StoreFull
unfolding number_of
returns-in-StoreFull c = search rules

pub returns-in-BadBlock : goal.returns-in-BadBlock
unfolding number_of
returns-in-BadBlock c = search rules

pub returns-in-OutOfOrder : goal.returns-in-OutOfOrder
unfolding number_of
returns-in-OutOfOrder c = search rules

pub returns-in-Inside : goal.returns-in-Inside
unfolding number_of
returns-in-Inside c = search rules

pub returns-in-UnknownEdition : goal.returns-in-UnknownEdition
unfolding number_of
returns-in-UnknownEdition c = search rules

pub returns-in-BadStore : goal.returns-in-BadStore
unfolding number_of
returns-in-BadStore c = search rules
