-- The samples of the rules are those at a time, over what is worked out once a ramp: as functions of the time, so that runs of them are equal too. Assumes nothing.
use Rattle.std.proofs.Common.{◌≡◌, false, ℤ, refl}
use lib.Ieee.{Float, binary32, binary64, sub, of_int}
use Rattle.rules.specs.declared.Finished.{Finished}
use Rattle.rules.specs.Samples.{has_no_length, ramp_sample, linear_sample, exponential_sample, exponential_by, ratio_of, ratio_log, target_sample}
use Rattle.laws.proofs.Ramps.{ramp_along}
use Rattle.samples.specs.At.{linear_at, exponential_at, exponential_over, target_at}

-- where a linear ramp has a length
pub linear_along : (from : Finished) (value duration : Float) → has_no_length duration ≡ false
    → linear_sample from value duration ≡ linear_at from.time duration from.value (sub binary32 value from.value)
unfolding linear_sample linear_at
linear_along from value duration h = ramp_along value duration _ h

pub exponential_is : (from : Finished) (value duration : Float)
    → exponential_sample from value duration ≡ ramp_sample value duration (exponential_at from.time duration from.value (ratio_log (ratio_of from value)))
unfolding exponential_sample exponential_at
exponential_is from value duration = refl

pub exponential_over_lem : (start duration from : Float) (log : ℤ) → exponential_at start duration from log ≡ exponential_over start duration from (of_int binary64 log)
unfolding exponential_at exponential_over exponential_by
exponential_over_lem start duration from log = refl

pub target_is : (from target start constant : Float) → target_sample from target start constant ≡ target_at start constant target (sub binary32 from target)
unfolding target_sample target_at
target_is from target start constant = refl
