-- `decimal::read::sign_of` meets its contract: by the first character. Assumes nothing.
use Rattle.decimal.proofs.Reading.{no_character, a_minus, a_plus, no_sign}
use Rattle.decimal.proofs.read.sign_of.Goals as goal

pub returns-then-word-eq0 : goal.returns-then-word-eq0
returns-then-word-eq0 c = no_character _ c.if-word-eq0.true

pub returns-then-word-eq45 : goal.returns-then-word-eq45
returns-then-word-eq45 c = a_minus _ c.if-word-eq0.false c.if-word-eq45.true

pub returns-then-word-eq43 : goal.returns-then-word-eq43
returns-then-word-eq43 c = a_plus _ c.if-word-eq0.false c.if-word-eq43.true

pub returns : goal.returns
returns c = no_sign _ c.if-word-eq0.false c.if-word-eq45.false c.if-word-eq43.false
