-- `decimal::write::put_sign` meets its contract: a minus, or nothing. Assumes nothing.
use Rattle.std.proofs.Common.{sym, ap}
use Rattle.text.proofs.Writing.{put_same}
use Rattle.decimal.specs.Shown.{sign_text}
use Rattle.decimal.proofs.Written.{put-nothing}
use Rattle.decimal.proofs.write.put_sign.Goals as goal

pub returns-then-minus : goal.returns-then-minus
unfolding sign_text
returns-then-minus c = put_same (ap sign_text (sym c.if-minus.true)) c.put_byte.ensures

pub returns-else-minus : goal.returns-else-minus
unfolding sign_text
returns-else-minus c = put_same (ap sign_text (sym c.if-minus.false)) (put-nothing _ _)
