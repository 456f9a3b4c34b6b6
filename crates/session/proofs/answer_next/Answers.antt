-- `session::answer_next` meets its contract: what is ensured of each kind of line. Assumes nothing.
use mathlib.Core.Path.{refl, ap, ◌∙◌}
use Rattle.std.specs.Prelude.{Some}
use native.Mathlib.Omega.{arith}
use Rattle.text.proofs.Writing.{put-nothing}
use Rattle.desk.proofs.Turns.{said}
use Rattle.session.specs.Session.{next_turn}
use Rattle.session.proofs.Steps.{by_next}
use Rattle.session.proofs.answer_next.Goals as goal

pub returns-in-Some-At : goal.returns-in-Some-At
unfolding next_turn
returns-in-Some-At c = by_next _ (c.in-Some-At.is ∙ ap Some (rw c.in-Some-At.is at c.in-Some-At.field-0-is)) c.answer_line.ensures

pub returns-in-Some-Long : goal.returns-in-Some-Long
unfolding next_turn
returns-in-Some-Long c = by_next _ (c.in-Some-Long.is ∙ ap Some (rw c.in-Some-Long.is at c.in-Some-Long.field-0-is)) (c.answer_long.ensures c.args.store.now)

pub returns-in-None : goal.returns-in-None
unfolding next_turn
returns-in-None c =
    by_next _ c.in-None.is (said _ _ _ c.args.desk.lent _ _ c.requires.0 refl c.requires.0.lent refl (put-nothing _ _) (omega arith))
