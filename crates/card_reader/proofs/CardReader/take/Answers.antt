-- `CardReader::take` meets its contract. The invariant of its loop: the part up to `from` is read. Assumes nothing.
use mathlib.Core.Path.{refl, sym, ap, ◌∙◌}
use Prim.Native.Nat.{◌+◌, ◌≤◌}
use native.Mathlib.Omega.{arith}
use lib.ListN.{length, length-take}
use lib.Seq.{take_all}
use borrow.Author.Tests.{lt-leb, le-leb}
use Rattle.card.specs.Card.{fed}
use Rattle.card_reader.specs.Reader.{part_length, TakesPart}
use Rattle.card_reader.proofs.Feeding.{fed_none, fed_further}
use Rattle.card_reader.proofs.CardReader.take.Goals as goal

pub returns-then-part-gt-PART : goal.returns-then-part-gt-PART
unfolding TakesPart
returns-then-part-gt-PART c = rw (lt-leb _ part_length c.if-part-gt-PART.true) (refl, refl, refl)

pub loop-from-init : goal.loop-from-init
loop-from-init c = (omega arith, c.requires.0, c.requires.1, sym (fed_none _ c.requires.1.waits))

pub absorb-reader-requires : goal.absorb-reader-requires
absorb-reader-requires c =
    let l = c.loop-from in
    (l.invariant.1, l.invariant.2, simp length-take (omega (arith, c.min.ensures, l.invariant.2.room)))

pub loop-from-preserved : goal.loop-from-preserved
loop-from-preserved c =
    let feeds = c.absorb-reader.ensures in
    let later : c.loop-from.from ≤ c.loop-from.from + c.min.result = omega arith in
    (omega (arith, c.min.ensures, c.loop-from.invariant.0), feeds.sound, feeds.fits, fed_further _ c.args.part.now later c.loop-from.invariant.3 feeds.reading)

pub returns : goal.returns
unfolding TakesPart
returns c =
    let part = c.args.part.now in
    rw (le-leb (length part) part_length c.if-part-gt-PART.false)
    (c.loop-from.reader, refl, record { reading = c.loop-from.invariant.3 ∙ ap (fed _) (take_all c.loop-from.from part c.loop-from-test.false); sound = c.loop-from.invariant.1; fits = c.loop-from.invariant.2 })
