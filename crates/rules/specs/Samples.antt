-- Document 01, the four samples: linear, exponential, target, curve; and document 02's C-18, ramps of no length.
use Rattle.std.specs.Prelude.{Bool, true, false, cond, ◌&&◌, ◌||◌, List, ℕ, zero, suc, ◌+◌, ◌-◌, ◌*◌, ◌/◌, ◌%◌, ◌^◌, leb, length, get_or, ℤ, pos, negsuc, ◌+ℤ◌, ◌*ℤ◌, neg_ℤ, Float}
use Rattle.std.specs.Float.Ieee as Ieee
use Rattle.std.specs.Float.{nan, inf, fin, binary32, binary64}
use Rattle.rules.specs.declared.Finished.{Finished}
use Rattle.rules.specs.Numbers.{plus_zero, is_finite, is_positive, wide, whole_part, fused, narrowed}
use Rattle.rules.specs.Kernels.{parts, falling, log}

-- "(time − start)/duration": how far a time lies into a span
unfoldable pub phase_of : Float → Float → Float → Float
phase_of start duration time = Ieee.div binary64 (Ieee.sub binary64 time start) duration

-- ---- ramps, from the last event to a value

-- 02, C-18: "the duration is 0 or below"; −infinity is, NaN is not (DECISIONS, reading 24 of 02)
unfoldable pub has_no_length : Float → Bool
has_no_length duration = Ieee.le duration plus_zero

-- "Both ramp samples shall give the ramp's end value whenever" that is so; else what the ramp has along its way
unfoldable pub ramp_sample : Float → Float → (Float → Float) → Float → Float
ramp_sample value duration along time = cond (has_no_length duration) value (along time)

-- ---- linear: "fused(diff × phase + start), with diff in f32 and phase = (time − start)/duration narrowed"

unfoldable pub linear_sample : Finished → Float → Float → Float → Float
linear_sample from value duration =
    ramp_sample value duration (λ t. fused binary32 (Ieee.sub binary32 value from.value) (narrowed (phase_of from.time duration t)) from.value)

-- ---- exponential

-- "ratio = end value / start value in f32"
unfoldable pub ratio_of : Finished → Float → Float
ratio_of from value = Ieee.div binary32 value from.value

-- "finite and above 0": a ratio that an exponential ramp can follow
unfoldable pub is_ratio : Float → Bool
is_ratio r = is_finite r && is_positive r

-- "ratio = m × 2^(e−31), L = e × N + a", m of 32 binary digits and a its log. A ratio is finite and above 0; of another float L means nothing.
unfoldable pub ratio_log : Float → ℤ
ratio_log nan = pos 0
ratio_log (inf s) = pos 0
ratio_log (fin s m e) =
    let digits = Ieee.size m in
    (e +ℤ Ieee.minus digits 1) *ℤ pos parts +ℤ pos (log (m * 2 ^ (32 - digits)))

-- the floor of ±n / d
unfoldable pub floor_of : Bool → ℕ → ℕ → ℤ
floor_of false n d = pos (n / d)
floor_of true n d = neg_ℤ (pos ((n + (d - 1)) / d))

-- "factor 2^q, or 2^(q+1) × r(N − f)/2^32 if f > 0"
unfoldable pub power_of : ℤ → ℕ → Float
power_of q zero = fin false 1 q
power_of q (suc f) = fin false (falling (parts - suc f)) (q +ℤ negsuc 30)

-- "P ≥ 256N an infinite factor; P ≤ −300N factor 0. Else P = q × N + f"
unfoldable pub power : ℤ → Float
power (pos p) = cond (leb (256 * parts) p) (inf false) (power_of (pos (p / parts)) (p % parts))
power (negsuc p) = cond (leb (300 * parts) (suc p)) plus_zero (power_of (negsuc (p / parts)) (parts - 1 - p % parts))

-- the factor for the product L × phase: "a phase or product that is NaN gives NaN", "P = floor(L × phase)", the product rounded in f64 (DECISIONS, reading 7)
unfoldable pub factor_of : Float → Float
factor_of nan = nan
factor_of (inf s) = cond s plus_zero (inf false)
factor_of (fin s m e) = power (floor_of s (m * Ieee.up e) (Ieee.down e))

-- "Sample: start × factor in f64, narrowed", for a given L and phase
unfoldable pub exponential_by : ℤ → Float → Float → Float
exponential_by l from phase = narrowed (Ieee.mul binary64 from (factor_of (Ieee.mul binary64 (Ieee.of_int binary64 l) phase)))

unfoldable pub exponential_sample : Finished → Float → Float → Float → Float
exponential_sample from value duration =
    ramp_sample value duration (λ t. exponential_by (ratio_log (ratio_of from value)) from.value (phase_of from.time duration t))

-- ---- target: from the last event's value towards another, from a start on

-- 1.4426950408889634
abbrev pub log2e : Float
log2e = fin false 0xb8aa3b295c17f (negsuc 50)

-- "p = .. w × N + a, factor r(a) × 2^(−32−w)"
unfoldable pub decay_of : ℕ → Float
decay_of p = fin false (falling (p % parts)) (negsuc (31 + p / parts))

-- "y ≥ 160 gives factor 0; else p = floor(y × N)", the factor narrowed. y is from 0 on; where it is NaN p is 0.
unfoldable pub decay : Float → Float
decay y = cond (Ieee.le (wide 160) y) plus_zero (narrowed (decay_of (whole_part (Ieee.mul binary64 y (wide parts)))))

-- "x = (time − start)/time constant, y = x × 1.4426950408889634 .. fused((start − target) × factor + target)"
unfoldable pub target_sample : Float → Float → Float → Float → Float → Float
target_sample from target start constant time =
    fused binary32 (Ieee.sub binary32 from target) (decay (Ieee.mul binary64 (phase_of start constant time) log2e)) target

-- ---- curve

-- a curve has at least 2 numbers
unfoldable pub last_number : List Float → Float
last_number xs = get_or xs (length xs - 1) plus_zero

-- "phase = position − k narrowed, the sample fused((v[k+1] − v[k]) × phase + v[k]) in f32"
unfoldable pub between : List Float → Float → ℕ → Float
between xs position k =
    let v = get_or xs k plus_zero in
    let next = get_or xs (suc k) plus_zero in
    fused binary32 (Ieee.sub binary32 next v) (narrowed (Ieee.sub binary64 position (wide k))) v

-- "position = ((length − 1) × (time − start)) / duration"
unfoldable pub curve_position : List Float → Float → Float → Float → Float
curve_position xs start duration time = Ieee.div binary64 (Ieee.mul binary64 (wide (length xs - 1)) (Ieee.sub binary64 time start)) duration

-- "Time − start ≥ duration gives the last number", and so does "rounding [that] carries position to length − 1 or more"; else "k its floor"
unfoldable pub curve_sample : List Float → Float → Float → Float → Float
curve_sample xs start duration time =
    let position = curve_position xs start duration time in
    cond (Ieee.le duration (Ieee.sub binary64 time start) || Ieee.le (wide (length xs - 1)) position) (last_number xs) (between xs position (whole_part position))
