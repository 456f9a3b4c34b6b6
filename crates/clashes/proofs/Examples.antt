-- What calls run into, and that in words, computed. Assumes nothing.
use Rattle.std.proofs.Common.{Some, None}
use mathlib.Core.Path.{◌≡◌, refl}
use mathlib.Core.List.{List, [], ◌∷◌}
use Prim.Native.Nat.{ℕ}
use Prim.Native.String.{String}
use lib.Ieee.{Float, binary64, round, of_bits, to_bits, add, le, lt, eq}
use Rattle.rules.specs.declared.Event.{Event}
use Rattle.rules.specs.Numbers.{plus_zero, is_zero, taken_time}
use Rattle.rules.specs.Queue.{hold_or, filed_under, curve_end, is_inside, covers, is_filed_inside, those}
use Rattle.timeline.specs.Timeline.{first_of}
use Rattle.text.specs.Digits.{glyph_of, digits_of, places_of, decimal_of}
use Rattle.text.specs.Floats.{float_text}
use Rattle.calls.specs.declared.Call.{Call}
use Rattle.decimal.specs.Codes.{codes}
use Rattle.decimal.specs.Shown.{millionths, shown_as, shown, sign_text, places_text, shown_text, text_of, plain_text}
use Rattle.replies.specs.Plain.{table, meaning_in}
use Rattle.clashes.specs.Clashes.{span_of, curve_in, event_in, covered_by, holding, clash_of, clash_text}

-- a time by its bits
abbrev time : ℕ → Float
time b = of_bits binary64 b

-- a curve from 1 for 5 seconds, and one from 7 that is held at 8; a ramp to 12 that is held at 10
abbrev queue : List Event
queue =
    Event.Curve (time 0x3ff0000000000000) (time 0x4014000000000000) 3 None
    ∷ Event.Curve (time 0x401c000000000000) (time 0x4014000000000000) 3 (Some (time 0x4020000000000000))
    ∷ Event.Linear plus_zero (time 0x4028000000000000) (Some (time 0x4024000000000000)) ∷ []

abbrev Says : Call → String → Type 0
Says call sentence = clash_text (clash_of queue (Some call)) ≡ codes sentence

-- steps at 1 and 7.5; curves from 3, from 6 for 2, and from 8 for 3; a step at 6, which is not refused
pub examples :
    Says (Call.Step plus_zero (time 0x3ff0000000000000)) ": inside the curve from 1 to 6"
    × Says (Call.Step plus_zero (time 0x401e000000000000)) ": inside the curve from 7 to 8"
    × Says (Call.Curve (time 0x4008000000000000) (time 0x4014000000000000) 2) ": inside the curve from 1 to 6"
    × Says (Call.Curve (time 0x4018000000000000) (time 0x4000000000000000) 2) ": the event at 7 would be inside this curve"
    × Says (Call.Curve (time 0x4020000000000000) (time 0x4008000000000000) 2) ": the event at 10 would be inside this curve"
    × Says (Call.Step plus_zero (time 0x4018000000000000)) ": inside a waiting curve, or with a waiting event inside"
unfolding clash_text clash_of covered_by holding curve_in event_in span_of first_of those covers is_filed_inside is_inside curve_end hold_or filed_under taken_time is_zero table meaning_in plain_text text_of shown_text places_text sign_text shown shown_as millionths digits_of glyph_of decimal_of places_of float_text round of_bits to_bits add le lt eq
examples = (refl, refl, refl, refl, refl, refl)
