-- Document 01, "Numbers the unit lives with", and of "Arithmetic to be built" the fused and narrowed results; then places of a block and their times.
-- Every definition is total, as code is. Times may be +infinity and values NaN (DECISIONS, reading 13).
use Rattle.std.specs.Prelude.{Bool, true, false, cond, not, ◌&&◌, List, [], ◌∷◌, ◌++◌, ℕ, zero, suc, ◌-◌, ◌*◌, eqb, length, pos, negsuc, ◌+ℤ◌, Float}
use Rattle.std.specs.Float.Ieee as Ieee
use Rattle.std.specs.Float.{nan, inf, fin, Format, binary32, binary64}
use Rattle.rules.specs.declared.BlockInfos.{BlockInfos}
use Rattle.rules.specs.declared.AutomationRate.{AutomationRate}
use Rattle.rules.specs.declared.AutomationRate.TheVariants as Rate
use Rattle.rules.specs.declared.Edition.{Edition}

-- ---- the ceilings

-- "64 waiting events"
abbrev pub most_events : ℕ
most_events = 64

-- "4,096 curve numbers over all waiting curves"
abbrev pub store_length : ℕ
store_length = 4096

-- "block count 1 to 128"; "Under the second, counts go from 1 to 1,024" (02, C-19). What is said over count takes the ceiling as a parameter; `Block.verdict_of` alone
-- names an edition's.
unfoldable pub ceiling_of : Edition → ℕ
ceiling_of Edition.First = 128
ceiling_of Edition.Second = 1024

-- ---- floats

abbrev pub plus_zero : Float
plus_zero = fin false 0 (pos 0)

unfoldable pub is_finite : Float → Bool
is_finite nan = false
is_finite (inf s) = false
is_finite (fin s m e) = true

-- either zero
unfoldable pub is_zero : Float → Bool
is_zero x = Ieee.eq x plus_zero

-- "above 0": no NaN is, and neither zero
unfoldable pub is_positive : Float → Bool
is_positive x = Ieee.lt plus_zero x

-- "below 0": no NaN is, and neither zero
unfoldable pub is_negative : Float → Bool
is_negative x = Ieee.lt x plus_zero

unfoldable pub magnitude : Float → Float
magnitude nan = nan
magnitude (inf s) = inf false
magnitude (fin s m e) = fin false m e

-- not 0, and below the smallest normal f32, 2 ^ -126
unfoldable pub is_subnormal : Float → Bool
is_subnormal nan = false
is_subnormal (inf s) = false
is_subnormal (fin s m e) = not (eqb m 0) && Ieee.lt (fin false m e) (fin false 1 (negsuc 125))

-- "a time of −0, a block's or a hold's too, is taken as 0"
unfoldable pub taken_time : Float → Float
taken_time t = cond (is_zero t) plus_zero t

-- the later of two times, and the larger of two numbers: max(x, 0) is later_of 0 x, which is 0 where x is NaN
unfoldable pub later_of : Float → Float → Float
later_of s t = cond (Ieee.lt s t) t s

-- a whole number as an f64
unfoldable pub wide : ℕ → Float
wide n = Ieee.of_int binary64 (pos n)

-- The whole part of a float, as a cast to u64 has it: rules ask for it from 0 on and below 2 ^ 32. Outside that it is 0 for NaN and below 0, and at most 2 ^ 64 - 1.
unfoldable pub whole_part : Float → ℕ
whole_part x = Ieee.to_unsigned 64 x

-- ---- fused and narrowed: "IEEE 754's, rounded once, ties to even"

-- x * y, exact: what no format need hold
unfoldable pub product : Float → Float → Float
product nan y = nan
product (inf s) nan = nan
product (inf s) (inf t) = inf (Ieee.unlike s t)
product (inf s) (fin t n d) = cond (eqb n 0) nan (inf (Ieee.unlike s t))
product (fin s m e) nan = nan
product (fin s m e) (inf t) = cond (eqb m 0) nan (inf (Ieee.unlike s t))
product (fin s m e) (fin t n d) = fin (Ieee.unlike s t) (m * n) (e +ℤ d)

-- fused(x * y + z), for every format: the exact product and z, added and rounded once
unfoldable pub fused : Format → Float → Float → Float → Float
fused f x y z = Ieee.add f (product x y) z

-- "Narrowing f64 to f32 likewise": the f32 nearest to a float of any width
unfoldable pub narrowed : Float → Float
narrowed nan = nan
narrowed (inf s) = inf s
narrowed (fin s m e) = Ieee.round binary32 s (m * Ieee.up e) (Ieee.down e)

-- ---- places and their times

-- "n + 0.5", place n's half-sample limit
unfoldable pub limit : ℕ → Float
limit n = Ieee.add binary64 (wide n) (fin false 1 (negsuc 0))

-- the first place from n on whose limit is above q, of the k that are left; behind them all where there is none
unfoldable pub place_from : Float → ℕ → ℕ → ℕ
place_from q zero n = n
place_from q (suc k) n = let later = place_from q k (suc n) in cond (Ieee.lt q (limit n)) n later

-- "q = max(t − block time, 0) / period"
unfoldable pub periods_to : BlockInfos → Float → Float
periods_to f t = Ieee.div binary64 (later_of plus_zero (Ieee.sub binary64 t f.time)) f.dt

-- "The end place of a time t is the smallest n from 0 to count−1 with q < n + 0.5, or count if there is none"
unfoldable pub end_place : BlockInfos → Float → ℕ
end_place f t = place_from (periods_to f t) f.count 0

-- "The first sample time of a run is fused(start place × period + block time)"
unfoldable pub time_at : BlockInfos → ℕ → Float
time_at f n = fused binary64 (wide n) f.dt f.time

-- k samples from the time t on: "each next one adds the period"
unfoldable pub run : (Float → Float) → Float → ℕ → Float → List Float
run sample period zero t = []
run sample period (suc k) t = sample t ∷ run sample period k (Ieee.add binary64 t period)

-- The places filled so far, filled up to place n: "at A-rate it fills places in order", at K-rate "the walk writes no samples".
unfoldable pub filled_at : AutomationRate → BlockInfos → ℕ → (Float → Float) → List Float → List Float
filled_at Rate.A f n sample xs = xs ++ run sample f.dt (n - length xs) (time_at f (length xs))
filled_at Rate.K f n sample xs = xs

unfoldable pub filled : BlockInfos → ℕ → (Float → Float) → List Float → List Float
filled f n sample xs = filled_at f.rate f n sample xs
