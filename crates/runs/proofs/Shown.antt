-- A target's factors as the passes show them: what sums ask of them, and that they are the factors. Assumes nothing.
use Rattle.std.proofs.Common.{◌≡◌, ℕ, ◌+◌, ◌-◌, ◌*◌, ◌/◌, ◌%◌, ◌^◌, ◌<◌, ◌≤◌, Bool, not, T, sym, ◌∙◌, subst, le_trans, arith, lit≤}
use lib.Ieee.{Float, binary32, binary64, fits, is_nan, mul, of_bits, to_bits, nan_bits}
use lib.Ieee.Bits.{to_bits-of_bits, nan_bits_is}
use Rattle.rules.specs.Samples.{log2e, decay}
use Rattle.phases.specs.Once.{Once, Served}
use Rattle.decays.specs.Told.{steps_in, Steps, shown, Shows}
use Rattle.decays.proofs.Fits.{decay_fits}
use Rattle.decays.proofs.Growth.{small_nan}
use Rattle.runs.specs.Placed.{Placed, Factor}

few_steps : (few b : ℕ) → few ≤ 124 → 2115 * 2 ^ 51 ≤ b → b < 2115 * 2 ^ 51 + (few + 1) * 2 ^ 42 → (b < 2115 * 2 ^ 51 + 125 * 2 ^ 42) × (steps_in b / 2 ^ 24 ≤ few)
few_steps few b f l h = (omega arith, omega arith)

field_from : (few w n : ℕ) → few ≤ 124 → w ≤ few → (1022 - w) * 2 ^ 52 ≤ n → n ≤ 1023 * 2 ^ 52 → ((1022 - few) * 2 ^ 52 / 2 ^ 52 ≤ n % 2 ^ 63 / 2 ^ 52) × (n < 2 ^ 64)
field_from few w n f h l m = (omega arith, omega arith)

module _ (few : ℕ) (x : Float) (b : ℕ) (f : few ≤ 124) (p : Placed few x b) where
  pub steps : Steps b
  steps = record { lo = p.lo; hi = (few_steps few b f p.lo p.hi).0 }

  module _ (u : ℕ) (s : Shows b u) where
    pub factor_shown : of_bits binary64 (shown b u) ≡ decay (mul binary64 x log2e)
    factor_shown = s.holds.0 ∙ p.factor

    in_bits : ((1022 - few) * 2 ^ 52 / 2 ^ 52 ≤ shown b u % 2 ^ 63 / 2 ^ 52) × (shown b u < 2 ^ 64)
    in_bits = field_from few (steps_in b / 2 ^ 24) (shown b u) f (few_steps few b f p.lo p.hi).1 s.low s.high

    bits : to_bits binary64 (of_bits binary64 (shown b u)) ≡ shown b u
    bits = to_bits-of_bits binary64 (shown b u) in_bits.1 (subst (λ (t : Bool). T (not t)) (nan_bits_is binary64 (shown b u)) s.holds.1)

    pub factor : Factor b u
    factor = record { steps = steps; most = s.high; fit = subst (λ (y : Float). T (fits binary32 y)) (sym factor_shown) (decay_fits (mul binary64 x log2e)) }

    pub served : (a c : Float) → Once a c ((1022 - few) * 2 ^ 52) → Served a c (of_bits binary64 (shown b u))
    served a c o =
        record {
          bx = (1022 - few) * 2 ^ 52;
          once = o;
          fit = factor.fit;
          from = subst (λ (n : ℕ). (1022 - few) * 2 ^ 52 / 2 ^ 52 ≤ n % 2 ^ 63 / 2 ^ 52) (sym bits) in_bits.0;
          upto = subst (λ (n : ℕ). n ≤ 1023 * 2 ^ 52) (sym bits) s.high;
        }

-- ---- no NaN

pub shown_nan : {b u : ℕ} → Factor b u → T (not (nan_bits binary64 (shown b u)))
shown_nan {b} {u} f = small_nan (shown b u) (le_trans f.most (lit≤ tt))

pub no_nan : {b u : ℕ} → Factor b u → T (not (is_nan (of_bits binary64 (shown b u))))
no_nan {b} {u} f = subst (λ (t : Bool). T (not t)) (nan_bits_is binary64 (shown b u)) (shown_nan f)
