-- Words as a person writes them, and what is shown of a float, computed. Assumes nothing.
use Rattle.std.proofs.Common.{◌≡◌, ℕ, true, false, pos, negsuc, refl}
use Rattle.std.specs.Prelude.{None, Some}
use Prim.Native.String.{String}
use lib.Ieee.{Float, nan, inf, fin, Format, binary32, binary64, round, of_bits, to_bits}
use Rattle.rules.specs.Numbers.{narrowed}
use Rattle.scan.specs.Bytes.{index_of, index_after}
use Rattle.text.specs.Digits.{digit_of, are_digits, value_from, number_from, number_in, bits_in, glyph_of, digits_of, places_of, decimal_of}
use Rattle.text.specs.Floats.{float_of, float_in, float_text}
use Rattle.text.specs.Words.{up_to, count_in}
use Rattle.decimal.specs.Codes.{codes}
use Rattle.decimal.specs.Decimals.{is_minus, sign_length, behind_sign, before, digits_part, whole_digits, fraction_digits, digits_in, tens_of, tens_in, scaled_by, scaled, unsigned_in, decimal_in, named_in, held, plain_in}
use Rattle.decimal.specs.Shown.{millionths, shown_as, shown, sign_text, places_text, shown_text, text_of, plain_text}

-- ---- read

abbrev Reads : Format → String → Float → Type 0
Reads f w x = plain_in f (codes w) ≡ Some x

abbrev Refuses : String → Type 0
Refuses w = plain_in binary64 (codes w) ≡ None

pub examples_read :
    Reads binary64 "0.1" (of_bits binary64 4591870180066957722)
    × Reads binary32 "0.1" (of_bits binary32 1036831949)
    × Reads binary64 "-0" (fin true 0 (pos 0))
    × Reads binary64 "+2.50" (fin false 5 (negsuc 0))
    × Reads binary64 ".5E1" (fin false 5 (pos 0))
    × Reads binary64 "1e22" (of_bits binary64 4936209963552724370)
    × Reads binary64 "9007199254740992" (fin false 1 (pos 53))
    × Reads binary64 "NaN" nan
    × Reads binary64 "-inf" (inf true)
    × Reads binary32 "x3f800000" (fin false 1 (pos 0))
unfolding plain_in held named_in decimal_in unsigned_in scaled scaled_by tens_in tens_of digits_in fraction_digits whole_digits digits_part before behind_sign sign_length is_minus float_in float_of bits_in count_in up_to number_in number_from are_digits value_from digit_of index_of index_after narrowed round of_bits
examples_read = (refl, refl, refl, refl, refl, refl, refl, refl, refl, refl)

pub examples_refused : Refuses "1e23" × Refuses "1e-40" × Refuses "9007199254740993" × Refuses "." × Refuses "1e" × Refuses "0x1" × Refuses "--1" × Refuses "x3f800000"
unfolding plain_in held named_in decimal_in unsigned_in scaled scaled_by tens_in tens_of digits_in fraction_digits whole_digits digits_part before behind_sign sign_length is_minus float_in float_of bits_in count_in up_to number_in number_from are_digits value_from digit_of index_of index_after
examples_refused = (refl, refl, refl, refl, refl, refl, refl, refl)

-- ---- written

abbrev Shows : Format → ℕ → String → Type 0
Shows f b w = plain_text f (of_bits f b) ≡ codes w

-- 0.1, 0.7 and 1/3 as f32; -0; 1/128 and 3/128, ties; a carry into the whole part; what is too small and too large
pub examples_shown :
    Shows binary32 1036831949 "0.1"
    × Shows binary32 1060320051 "0.7"
    × Shows binary32 1051372203 "0.333333"
    × Shows binary32 2147483648 "-0"
    × Shows binary64 4575657221408423936 "0.007812"
    × Shows binary64 4582412620849479680 "0.023438"
    × Shows binary64 4602678819172646912 "0.5"
    × Shows binary64 4607182418800017407 "1"
    × Shows binary32 1120403456 "100"
    × Shows binary32 869711765 "x33d6bf95"
    × Shows binary64 4890909195324358656 "9223372036854775808"
    × Shows binary64 4895412794951729152 "x43f0000000000000"
    × Shows binary32 4286578688 "-inf"
unfolding plain_text text_of shown_text places_text sign_text shown shown_as millionths float_text decimal_of places_of digits_of glyph_of to_bits of_bits
examples_shown = (refl, refl, refl, refl, refl, refl, refl, refl, refl, refl, refl, refl, refl)
