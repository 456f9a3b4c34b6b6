-- The answers of the session language, as its page has them: the characters of each, without the newline.
use Rattle.rules.specs.declared.Finished.{Finished}
use Rattle.rules.specs.declared.Refusal.{Refusal}
use Rattle.std.specs.Prelude.{Bool, cond, List, [], ◌∷◌, ◌++◌, ℕ, eqb, Float, Option, Some, None, Result, Ok, Err}
use Rattle.std.specs.List.{list_all}
use Rattle.std.specs.Float.Ieee as Ieee
use Rattle.std.specs.Float.{binary32, binary64}
use Rattle.std.specs.Float.Ieee.{of_bits, to_bits}
use Rattle.rules.specs.declared.AutomationRate.{AutomationRate}
use Rattle.rules.specs.declared.AutomationRate.TheVariants as Rate
use Rattle.rules.specs.declared.Edition.{Edition}
use Rattle.rules.specs.declared.Bounds.{Bounds}
use Rattle.rules.specs.declared.Event.{Event}
use Rattle.rules.specs.Refusals.{number_of}
use Rattle.text.specs.Digits.{decimal_of}
use Rattle.text.specs.Floats.{float_text}
use Rattle.text.specs.Hex.{bytes_text}

-- ---- fields: each behind its mark, a space (32), a colon (58) or a comma (44)

abbrev pub single : ℕ → Float → List ℕ
single mark x = mark ∷ float_text binary32 x

abbrev pub double : ℕ → Float → List ℕ
double mark x = mark ∷ float_text binary64 x

abbrev pub count : ℕ → ℕ → List ℕ
count mark n = mark ∷ decimal_of n

-- a time, "or `-`"
unfoldable pub time_text : Option Float → List ℕ
time_text None = 45 ∷ []
time_text (Some t) = float_text binary64 t

-- numbers, the first behind one mark and each other behind another
unfoldable pub list_text : ℕ → ℕ → List Float → List ℕ
list_text first mark [] = []
list_text first mark (x ∷ xs) = single first x ++ list_text mark mark xs

-- ---- answers

-- `ok`, or `refused NUMBER`
unfoldable pub verdict_text : Result Unit Refusal → List ℕ
verdict_text (Ok _) = 111 ∷ 107 ∷ []
verdict_text (Err why) = (114 ∷ 101 ∷ 102 ∷ 117 ∷ 115 ∷ 101 ∷ 100 ∷ []) ++ count 32 (number_of why)

-- "`saved HEX`" (02, C-11)
unfoldable pub saved_text : List ℕ → List ℕ
saved_text file = (115 ∷ 97 ∷ 118 ∷ 101 ∷ 100 ∷ 32 ∷ []) ++ bytes_text file

-- "`refused 24 PLACE`", "`refused NUMBER OFFSET`" (02, C-11)
unfoldable pub fault_text : ℕ → ℕ → List ℕ
fault_text number place = (114 ∷ 101 ∷ 102 ∷ 117 ∷ 115 ∷ 101 ∷ 100 ∷ []) ++ (count 32 number ++ count 32 place)

-- `block STEPS CURRENT ONE`
unfoldable pub block_text : ℕ → Float → Bool → List ℕ
block_text steps current one = (98 ∷ 108 ∷ 111 ∷ 99 ∷ 107 ∷ []) ++ (count 32 steps ++ (single 32 current ++ (32 ∷ cond one 49 48 ∷ [])))

-- REST: ` clean` or ` dirty`
unfoldable pub rest_text : Bool → List ℕ
rest_text clean = cond clean (32 ∷ 99 ∷ 108 ∷ 101 ∷ 97 ∷ 110 ∷ []) (32 ∷ 100 ∷ 105 ∷ 114 ∷ 116 ∷ 121 ∷ [])

-- ZEROS: ` zeros` or ` dirty`
unfoldable pub zeros_text : Bool → List ℕ
zeros_text zeros = cond zeros (32 ∷ 122 ∷ 101 ∷ 114 ∷ 111 ∷ 115 ∷ []) (32 ∷ 100 ∷ 105 ∷ 114 ∷ 116 ∷ 121 ∷ [])

-- ---- the state

unfoldable pub rate_text : AutomationRate → List ℕ
rate_text Rate.A = 32 ∷ 97 ∷ []
rate_text Rate.K = 32 ∷ 107 ∷ []

-- "RATE is `a2` or `k2` under the second edition"
unfoldable pub edition_text : Edition → List ℕ
edition_text Edition.First = []
edition_text Edition.Second = 50 ∷ []

unfoldable pub kind_text : AutomationRate → Edition → List ℕ
kind_text rate edition = rate_text rate ++ edition_text edition

-- "LAST is `TIME:VALUE` of the last finished event or `-`"
unfoldable pub last_text : Option Finished → List ℕ
last_text None = 32 ∷ 45 ∷ []
last_text (Some e) = double 32 e.time ++ single 58 e.value

unfoldable pub bounds_text : Bounds → List ℕ
bounds_text b = single 32 b.min ++ (single 32 b.default ++ single 32 b.max)

-- the end of the last answered block, where there is one
unfoldable pub end_text : Option Float → List ℕ
end_text None = []
end_text (Some t) = double 58 t

-- "BLOCK is `TIME:END` of the last answered block, or `-`"
unfoldable pub span_text : Option Float → Option Float → List ℕ
span_text block end = (32 ∷ time_text block) ++ end_text end

-- `state RATE MIN DEFAULT MAX INTRINSIC BLOCK LAST COUNT`
unfoldable pub state_text : AutomationRate → Edition → Bounds → Float → Option Float → Option Float → Option Finished → ℕ → List ℕ
state_text rate edition b v block end last n =
    (115 ∷ 116 ∷ 97 ∷ 116 ∷ 101 ∷ [])
    ++ (kind_text rate edition ++ (bounds_text b ++ (single 32 v ++ (span_text block end ++ (last_text last ++ count 32 n)))))

-- ---- a waiting event, behind a space and its word

-- `:V:T`
unfoldable pub step_text : Float → Float → List ℕ
step_text v t = single 58 v ++ double 58 t

-- `:V:T:H`, of a linear ramp and of an exponential one
unfoldable pub ramp_text : Float → Float → Option Float → List ℕ
ramp_text v t h = step_text v t ++ (58 ∷ time_text h)

-- `:V:T:TC:H`
unfoldable pub target_text : Float → Float → Float → Option Float → List ℕ
target_text v t c h = step_text v t ++ (double 58 c ++ (58 ∷ time_text h))

-- `:T:D:H:N`; the numbers are to follow
unfoldable pub curve_text : Float → Float → Option Float → ℕ → List ℕ
curve_text s d h n = double 58 s ++ (double 58 d ++ ((58 ∷ time_text h) ++ count 58 n))

unfoldable pub event_text : Event → List ℕ
event_text (Event.Step v t) = (32 ∷ 115 ∷ 116 ∷ 101 ∷ 112 ∷ []) ++ step_text v t
event_text (Event.Linear v t h) = (32 ∷ 108 ∷ 105 ∷ 110 ∷ 101 ∷ 97 ∷ 114 ∷ []) ++ ramp_text v t h
event_text (Event.Exponential v t h) = (32 ∷ 101 ∷ 120 ∷ 112 ∷ 111 ∷ 110 ∷ 101 ∷ 110 ∷ 116 ∷ 105 ∷ 97 ∷ 108 ∷ []) ++ ramp_text v t h
event_text (Event.Target v t c h) = (32 ∷ 116 ∷ 97 ∷ 114 ∷ 103 ∷ 101 ∷ 116 ∷ []) ++ target_text v t c h
event_text (Event.Curve s d n h) = (32 ∷ 99 ∷ 117 ∷ 114 ∷ 118 ∷ 101 ∷ []) ++ curve_text s d h n

-- ---- what REST and ZEROS look at

-- every place still has the mark `4b000000`
abbrev pub are_marks : List Float → Bool
are_marks = list_all (λ x. Ieee.eq x (of_bits binary32 0x4b000000))

-- every number is +0, whose bits are 0
abbrev pub are_zeros : List Float → Bool
are_zeros = list_all (λ x. eqb (to_bits binary32 x) 0)
