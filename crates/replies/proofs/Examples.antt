-- Answers of the session language, and the same for a person, computed. Assumes nothing.
use mathlib.Core.Path.{◌≡◌, refl}
use Prim.Native.String.{String}
use lib.Ieee.{round, of_bits, to_bits}
use Rattle.text.specs.Digits.{digit_of, are_digits, value_from, number_from, number_in, bits_in, glyph_of, digits_of, places_of, decimal_of}
use Rattle.text.specs.Floats.{float_of, float_in, float_text}
use Rattle.text.specs.Words.{joined, words_of, beside, taken, up_to, count_in}
use Rattle.decimal.specs.Codes.{codes}
use Rattle.decimal.specs.Shown.{millionths, shown_as, shown, sign_text, places_text, shown_text, text_of, plain_text}
use Rattle.replies.specs.Plain.{is_mark, parts, shown_or, plain_field, plain_fields, table, meaning_in, meaning_of, reason, reply}

abbrev Means : String → String → Type 0
Means line plain = reply (codes line) ≡ codes plain

pub examples :
    Means "" ""
    × Means "ok" "ok"
    × Means "unread" "unread"
    × Means "block 3 00000000 0 43c80000 3dcccccd 33f1aade clean" "block 3 0 0 400 0.1 x33f1aade clean"
    × Means "state k c1200000 40000000 41200000 7fc00000 - 4012000000000000:3f800000 1 curve:0000000000000000:4010000000000000:-:3:00000000,40800000,00000000 zeros"
    "state k -10 2 10 NaN - 4.5:1 1 curve:0:4:-:3:0,4,0 zeros"
    × Means "refused 3" "refused 3: a scheduled or cancel time is below 0"
    × Means "refused 9 clean" "refused 9 clean: block time, period or count out of range, or output or input of a wrong length"
    × Means "refused 11" "refused 11: inside a waiting curve, or with a waiting event inside"
    × Means "refused 12" "refused 12: the edition is neither 1 nor 2"
unfolding is_mark parts shown_or plain_field plain_fields table meaning_in meaning_of reason reply plain_text text_of shown_text places_text sign_text shown shown_as millionths words_of joined taken beside count_in up_to float_in float_of float_text bits_in number_in number_from are_digits value_from digit_of digits_of glyph_of decimal_of places_of round of_bits to_bits
examples = (refl, refl, refl, refl, refl, refl, refl, refl, refl)
