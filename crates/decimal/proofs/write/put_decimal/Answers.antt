-- `decimal::write::put_decimal` meets its contract: the sign, the whole part, the places. Assumes nothing.
use Rattle.std.proofs.Common.{arith}
use Rattle.text.proofs.Writing.{put_then, length_decimal}
use Rattle.decimal.specs.Shown.{shown_text}
use Rattle.decimal.proofs.Written.{length_sign}
use Rattle.decimal.proofs.write.put_decimal.Goals as goal

pub put_count-next-requires : goal.put_count-next-requires
put_count-next-requires c = omega (arith, c.put_sign-next.ensures.place, length_sign c.args.minus)

pub put_places-requires : goal.put_places-requires
put_places-requires c = omega (arith, c.put_sign-next.ensures.place, length_sign c.args.minus, c.put_count-next.ensures.place, length_decimal c.args.whole)

pub returns : goal.returns
unfolding shown_text
returns c =
    put_then c.put_sign-next.ensures
    (put_then c.put_count-next.ensures c.put_places.ensures (omega (arith, c.put_sign-next.ensures.place, length_sign c.args.minus, c.put_count-next.ensures.place, length_decimal c.args.whole)))
    (omega (arith, c.put_sign-next.ensures.place, length_sign c.args.minus))
