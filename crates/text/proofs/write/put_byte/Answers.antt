-- `text::write::put_byte` meets its contract: one store. Assumes nothing.
use mathlib.Core.Path.{sym, ◌∙◌}
use borrow.Author.Rules.{rules}
use Rattle.text.proofs.Writing.{put_none, put_first}
use Rattle.text.proofs.write.put_byte.Goals as goal

pub returns : goal.returns
returns c = record { bytes = sym (put_none _ _) ∙ put_first _ _ _ _ c.requires; place = search rules }
