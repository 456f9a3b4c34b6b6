-- Lines as a person writes them, and the same in the session language, computed. Assumes nothing.
use mathlib.Core.Path.{◌≡◌, refl}
use Rattle.std.specs.Prelude.{None, Some}
use Prim.Native.String.{String}
use lib.Ieee.{round, of_bits, to_bits}
use Rattle.rules.specs.Numbers.{narrowed}
use Rattle.scan.specs.Bytes.{index_of, index_after}
use Rattle.text.specs.Digits.{digit_of, are_digits, value_from, number_from, number_in, bits_in, glyph_of, digits_of, places_of, decimal_of}
use Rattle.text.specs.Floats.{float_of, float_in, float_text}
use Rattle.text.specs.Words.{joined, up_to, count_in, is_over}
use Rattle.decimal.specs.Codes.{codes}
use Rattle.decimal.specs.Decimals.{is_minus, sign_length, behind_sign, before, digits_part, whole_digits, fraction_digits, digits_in, tens_of, tens_in, scaled_by, scaled, unsigned_in, decimal_in, named_in, held, plain_in}
use Rattle.wording.specs.Plain.{is_blank, split, is_one, is_small, kept, spoken, words_at, in_front, spaced, bits_of, field_of, with_field, fields, numbers, capped_at, length_for, length_and, block_fields, and_then, edition_fields, made_fields, tail_of, formed, formed_by, scheduling, rows, form_in, whole, translated, translation}

abbrev Means : String → String → Type 0
Means line strict = translation (codes line) ≡ Some (codes strict)

abbrev IsUnread : String → Type 0
IsUnread line = translation (codes line) ≡ None

pub examples :
    Means "make -10 0 10 a" "make c1200000 00000000 41200000 a"
    × Means "make 0 230 400 a edition 2" "make 00000000 43660000 43c80000 a 2"
    × Means "  step  to 5 at 2.5   # the dip" "step 40a00000 4004000000000000"
    × Means "target to 0 from 2 with 0.5" "target 00000000 4000000000000000 3fe0000000000000"
    × Means "curve from 0 for 4 over 0 4 0" "curve 0000000000000000 4010000000000000 3 00000000 40800000 00000000"
    × Means "block at 0 by 1 for 64" "block 0000000000000000 3ff0000000000000 64 64 0"
    × Means "block 3 1 2 2 -0 NaN" "block 4008000000000000 3ff0000000000000 2 2 2 80000000 7fc00000"
    × Means "plain at 0 by 1 for 64" "plain 0000000000000000 3ff0000000000000 64 64 0"
    × Means "set x00000001" "set 00000001"
    × Means " cost  # so far" "cost"
    × Means "# nothing" ""
    × Means "at" ""
    × IsUnread "step 5"
    × IsUnread "step 5 2 3"
    × IsUnread "step 1e-40 0"
    × IsUnread "jump 1 2"
    × IsUnread "cost 1"
    × IsUnread "make 0 230 400 a 2"
    × IsUnread "make 0 230 400 a edition"
    × IsUnread "make 0 230 400 edition 2"
    × IsUnread "make 0 230 400 a edition 2 2"
unfolding is_blank split is_one is_small kept spoken words_at in_front spaced bits_of field_of with_field fields numbers capped_at length_for length_and block_fields and_then edition_fields made_fields tail_of formed formed_by scheduling rows form_in whole translated translation is_over joined plain_in held named_in decimal_in unsigned_in scaled scaled_by tens_in tens_of digits_in fraction_digits whole_digits digits_part before behind_sign sign_length is_minus float_in float_of float_text bits_in count_in up_to number_in number_from are_digits value_from digit_of digits_of glyph_of decimal_of places_of index_of index_after narrowed round of_bits to_bits
examples = (refl, refl, refl, refl, refl, refl, refl, refl, refl, refl, refl, refl, refl, refl, refl, refl, refl, refl, refl, refl, refl)
