-- `samples::ratio_log` meets its contract. Assumes nothing.
use Rattle.std.proofs.Common.{◌≡◌, ℕ, ◌+◌, ◌*◌, ◌/◌, ◌%◌, ◌^◌, ◌<◌, true, not, T, pos, ◌-ℤ◌, sym, ◌∙◌, subst, arith, to_z-of_z, w64, SFits, to_z, of_z, lt-ltb}
use mathlib.Core.Bool.{false≢true}
use lib.IntN.{sub_ℕ}
use lib.Ieee.{Float, nan, inf, fin, binary64, fits, is_nan, to_bits, of_bits}
use lib.Ieee.Fits.{and_i, fits_widens}
use Rattle.rules.specs.Numbers.{is_finite}
use Rattle.rules.specs.Kernels.{parts, log}
use Rattle.kernels.proofs.Logs.{log_below}
use Rattle.phases.proofs.Less.{sub_mag}
use Rattle.samples.proofs.Ratio.{log_of, log_none, log_zero}
use Rattle.samples.proofs.ratio_log.Goals as goal

no_nan : (x : Float) → is_finite x ≡ true → T (not (is_nan x))
unfolding is_finite is_nan
no_nan nan h = absurd (false≢true h)
no_nan (inf s) h = tt
no_nan (fin s m e) h = tt

-- ---- the difference, as the machine has it

module _ (u : ℕ) (h : u < 2 ^ 36) where
  read : to_z w64 u ≡ pos u
  read = rw (lt-ltb u (2 ^ 63) (omega arith))

  fits_sub : SFits w64 (to_z w64 u -ℤ pos 17163091968)
  fits_sub = rw read (record { sfits = sub_mag u 17163091968 (2 ^ 63) (omega arith) (omega arith) })

  back : to_z w64 (of_z w64 (to_z w64 u -ℤ pos 17163091968)) ≡ sub_ℕ u 17163091968
  back = to_z-of_z fits_sub ∙ rw read

-- ---- what is known behind the call of `log`

module _ (x : Float) where
  abbrev field : ℕ
  field = to_bits binary64 x % 2 ^ 63 / 2 ^ 52

  abbrev lead : ℕ
  lead = (to_bits binary64 x % 2 ^ 63 % 2 ^ 52 + 2 ^ 52) / 2 ^ 21

  bounded : (l : ℕ) → l ≡ log lead → field * parts + l < 2 ^ 36
  bounded l e = omega (arith, log_below lead (omega arith) (omega arith))

pub returns-then-ratio : goal.returns-then-ratio
unfolding of_bits
returns-then-ratio c = log_zero c.args.ratio (subst T (sym c.well_formed.0.1) tt) c.if-ratio.true

pub float_to_float-b : goal.float_to_float-b
float_to_float-b c =
    let f = c.is_finite.ensures in
    and_i (fits binary64 c.args.ratio) _ (fits_widens c.args.ratio (subst T (sym c.well_formed.0.1) tt)) (no_nan c.args.ratio (sym f ∙ c.if-is_finite.true))

pub float_to_bits-b : goal.float_to_bits-b
float_to_bits-b c =
    let f = c.is_finite.ensures in
    no_nan c.args.ratio (sym f ∙ c.if-is_finite.true)

pub overflow_add-l : goal.overflow_add-l
overflow_add-l c = omega (arith, bounded c.args.ratio c.log.result c.log.ensures)

pub overflow_cast-result : goal.overflow_cast-result
overflow_cast-result c = record { sfits = omega (arith, bounded c.args.ratio c.log.result c.log.ensures) }

pub overflow_sub-result : goal.overflow_sub-result
overflow_sub-result c = fits_sub (field c.args.ratio * parts + c.log.result) (bounded c.args.ratio c.log.result c.log.ensures)

pub returns-then-is_finite : goal.returns-then-is_finite
unfolding of_bits
returns-then-is_finite c =
    let x = c.args.ratio in
    let f = c.is_finite.ensures in
    back (field x * parts + c.log.result) (bounded x c.log.result c.log.ensures)
    ∙ rw c.log.ensures (log_of x (subst T (sym c.well_formed.0.1) tt) (sym f ∙ c.if-is_finite.true) c.if-ratio.false)

pub returns : goal.returns
returns c = log_none c.args.ratio (sym c.is_finite.ensures ∙ c.if-is_finite.false)
