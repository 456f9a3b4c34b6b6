-- `text::read::digit` meets its contract: the range that the character lies in. Assumes nothing.
use native.Mathlib.Omega.{arith}
use Rattle.text.proofs.Reading.{figure, letter, below, between, above}
use Rattle.text.proofs.read.digit.Goals as goal

pub returns-in-48-to-57 : goal.returns-in-48-to-57
returns-in-48-to-57 c = figure (omega arith) (omega arith)

pub returns-in-97-to-102 : goal.returns-in-97-to-102
returns-in-97-to-102 c = letter (omega arith) (omega arith)

pub returns-in_default : goal.returns-in_default
returns-in_default c = below (omega arith)

pub returns-in_default-2 : goal.returns-in_default-2
returns-in_default-2 c = between (omega arith) (omega arith)

pub returns-in_default-3 : goal.returns-in_default-3
returns-in_default-3 c = above (omega arith)
