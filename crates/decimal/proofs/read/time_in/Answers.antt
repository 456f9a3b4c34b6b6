-- `decimal::read::time_in` meets its contract: its bits, or a number as it is. Assumes nothing.
use Rattle.std.proofs.Common.{sym, ◌∙◌}
use lib.Ieee.{binary64}
use Rattle.std.proofs.lemmas.Iterator.Adapters.{option_map_id}
use Rattle.decimal.proofs.Reading.{plain_none, plain_bits, plain_number, held-double}
use Rattle.decimal.proofs.read.time_in.Goals as goal

pub returns-then-word-eq0 : goal.returns-then-word-eq0
returns-then-word-eq0 c = sym (plain_none binary64 _ c.if-word-eq0.true)

pub returns-then-word-eq120 : goal.returns-then-word-eq120
returns-then-word-eq120 c = sym (option_map_id _) ∙ c.real_in.ensures ∙ plain_bits binary64 _ c.if-word-eq0.false c.if-word-eq120.true

pub returns : goal.returns
returns c = c.named_in.ensures ∙ (sym (held-double _) ∙ plain_number binary64 _ c.if-word-eq0.false c.if-word-eq120.false)
