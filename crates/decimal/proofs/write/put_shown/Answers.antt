-- `decimal::write::put_shown` meets its contract: by what is shown. Assumes nothing.
use Rattle.std.proofs.Common.{sym, ap, arith}
use Rattle.text.proofs.Writing.{put_same, put_then}
use Rattle.decimal.specs.Shown.{shown_text}
use Rattle.decimal.proofs.Written.{length_sign}
use Rattle.decimal.proofs.write.put_shown.Goals as goal

pub put_word-requires-in-Infinite : goal.put_word-requires-in-Infinite
put_word-requires-in-Infinite c = omega (arith, c.put_sign-next.ensures.place, length_sign c.in-Infinite.minus)

pub returns-in-NotANumber : goal.returns-in-NotANumber
unfolding shown_text
returns-in-NotANumber c = put_same (ap shown_text (sym c.in-NotANumber.is)) c.put_word.ensures

pub returns-in-Infinite : goal.returns-in-Infinite
unfolding shown_text
returns-in-Infinite c =
    put_same (ap shown_text (sym c.in-Infinite.is))
    (put_then c.put_sign-next.ensures c.put_word-in-Infinite.ensures (omega (arith, c.put_sign-next.ensures.place, length_sign c.in-Infinite.minus)))

pub returns-in-Decimal : goal.returns-in-Decimal
returns-in-Decimal c = put_same (ap shown_text (sym c.in-Decimal.is)) c.put_decimal.ensures
