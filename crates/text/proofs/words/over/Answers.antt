-- `text::words::over` meets its contract. Assumes nothing.
use Rattle.text.proofs.Splitting.{is_over_lem}
use Rattle.text.proofs.words.over.Goals as goal

pub returns : goal.returns
returns c = is_over_lem _ _
