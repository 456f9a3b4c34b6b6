-- The test meets what `Parts::of` asks: -400 is finite. Assumes nothing.
use lib.Ieee.{of_bits, neg}
use Rattle.rounding.proofs.formats.tests.volts_are_rounded_and_parted.Goals as goal

pub of-parts-requires : goal.of-parts-requires
unfolding of_bits neg
of-parts-requires c d = tt
