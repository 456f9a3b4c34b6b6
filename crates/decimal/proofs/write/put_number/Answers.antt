-- `decimal::write::put_number` meets its contract: what is shown, or the bits. Assumes nothing.
use Rattle.std.proofs.Common.{ap, sym, arith}
use Rattle.text.proofs.Writing.{put_same, put_then}
use Rattle.decimal.specs.Shown.{text_of}
use Rattle.decimal.proofs.Written.{digits_short}
use Rattle.decimal.proofs.write.put_number.Goals as goal

pub returns-in-Some : goal.returns-in-Some
unfolding text_of
returns-in-Some g c = put_same (ap (text_of _ _) (sym c.in-Some.is)) c.put_shown.ensures

pub put_real-requires : goal.put_real-requires
put_real-requires g c = omega (arith, c.put_byte-next.ensures.place, digits_short g.T.Real.format)

pub returns-in-None : goal.returns-in-None
unfolding text_of
returns-in-None g c =
    put_same (ap (text_of _ _) (sym c.in-None.is)) (put_then c.put_byte-next.ensures c.put_real.ensures (omega (arith, c.put_byte-next.ensures.place)))
