-- `decimal::read::decimal_in` meets its contract: its sign, and what stands behind it. Assumes nothing.
use Rattle.std.proofs.Common.{◌∙◌}
use Rattle.decimal.proofs.Reading.{decimal_by}
use Rattle.decimal.proofs.read.decimal_in.Goals as goal

pub returns : goal.returns
returns c = c.unsigned_in.ensures ∙ (decimal_by _ _ _ c.sign_of-sign.ensures)
