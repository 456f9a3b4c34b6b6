-- `answer` meets its contract. Assumes nothing.
use Rattle.refusals.proofs.Rows.{found}
use Rattle.crackledray.proofs.Closing.{closes_answered, closes_refused}
use Rattle.crackledray.proofs.answer.Goals as goal

pub returns-then-is_ok : goal.returns-then-is_ok
returns-then-is_ok c =
    closes_answered c.requires.0 c.requires.1 c.encode.ensures _ c.number_of-number.ensures (found c.is_ok.ensures.value c.if-is_ok.true)

pub returns-else-is_ok : goal.returns-else-is_ok
returns-else-is_ok c = closes_refused _ _ _ c.number_of-number.ensures (found c.is_ok.ensures.value c.if-is_ok.false)
