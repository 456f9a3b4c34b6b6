-- `wording::put_length` meets its contract: by the count. Assumes nothing.
use mathlib.Core.Path.{sym, ap, ◌∙◌}
use borrow.Author.Tests.{le-leb, lt-leb}
use Rattle.text.proofs.Writing.{put_same}
use Rattle.wording.specs.Plain.{spaced, capped_at, length_for}
use Rattle.wording.proofs.put_length.Goals as goal

pub returns-then-n-le4096 : goal.returns-then-n-le4096
unfolding length_for capped_at
returns-then-n-le4096 c = put_same (ap spaced (sym (ap (capped_at _) (sym c.in-Some.ensures) ∙ rw (le-leb _ 4096 c.if-n-le4096.true)))) c.put_spaced.ensures

pub returns-else-n-le4096 : goal.returns-else-n-le4096
unfolding length_for capped_at
returns-else-n-le4096 c = put_same (ap spaced (sym (ap (capped_at _) (sym c.in-Some.ensures) ∙ rw (lt-leb _ 4096 c.if-n-le4096.false)))) c.put_spaced-else-n-le4096.ensures

pub returns-in-None : goal.returns-in-None
unfolding length_for capped_at
returns-in-None c = put_same (ap spaced (sym (ap (capped_at _) (sym c.in-None.ensures)))) c.put_spaced-in-None.ensures
