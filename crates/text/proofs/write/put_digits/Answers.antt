-- `text::write::put_digits` meets its contract. The invariant of its loop: with the digits left written, the buffer is what it is to be.
-- Assumes nothing.
use mathlib.Core.Path.{sym, ◌∙◌}
use native.Mathlib.Nat.{mod-lt, lt_of_lt_of_le}
use native.Mathlib.Omega.{arith}
use Rattle.text.proofs.Writing.{length_digits, last_digit, no_digit_left}
use Rattle.text.proofs.write.put_digits.Goals as goal

pub glyph-requires : goal.glyph-requires
glyph-requires c = lt_of_lt_of_le (mod-lt _ c.requires.0) c.requires.1

pub loop-i-preserved : goal.loop-i-preserved
loop-i-preserved c = c.loop-i.invariant ∙ last_digit _ _ _ _ _ _ c.loop-i-test.true (omega (arith, c.loop-i.auto.out, c.loop-i.auto.i)) c.glyph.ensures

pub returns : goal.returns
returns c = record { bytes = sym (c.loop-i.invariant ∙ no_digit_left _ _ _ _ _ c.loop-i-test.false); place = rw length_digits }
