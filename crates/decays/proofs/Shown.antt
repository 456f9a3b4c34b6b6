-- What b shows, as 2 ^ 33 more than a floor, and the factor's pattern for it. Assumes nothing.
use mathlib.Core.Path.{◌≡◌, sym, ap, ◌∙◌, subst}
use mathlib.Core.Bool.{not}
use Prim.Native.Nat.{ℕ, ◌+◌, ◌-◌, ◌*◌, ◌/◌, ◌%◌, ◌^◌, ◌≤◌, ◌<◌}
use native.Mathlib.Omega.{arith}
use lib.Dec.{T}
use lib.Ieee.{Float, binary64, mul, of_bits, nan_bits}
use lib.Ieee.Scale.{finite}
use Rattle.rules.specs.Kernels.{parts, falling}
use Rattle.rules.specs.Samples.{factor_of}
use Rattle.decays.specs.Cell.{Cell, Lifts, Grown}
use Rattle.decays.proofs.Range.{falling_low, falling-set}
use Rattle.decays.proofs.Growth.{over, by_estimate, by_itself, small_nan}

module _ (b : ℕ) (lo : 1082820 * 2 ^ 42 ≤ b) (hi : b < 1082940 * 2 ^ 42) where
  abbrev q : ℕ
  q = b / 2 ^ 18 % 2 ^ 24

  -- the steps up to the next whole octave
  abbrev pub missing : ℕ
  missing = (2 ^ 24 - q) % 2 ^ 24

  -- the factor's pattern with e for the falling power
  abbrev pub factor_bits : ℕ → ℕ
  factor_bits e = (b / 2 ^ 42 - 1081858) * 2 ^ 52 + e * 2 ^ 21

  abbrev h : ℕ
  h = (b - 1057 * 2 ^ 52) / 2 ^ 18

  octave : h / parts ≡ b / 2 ^ 42 - 1082368
  octave = omega arith

  steps : h % parts ≡ q
  steps = omega arith

  at_least : 213 * parts ≤ h
  at_least = omega arith

  at_most : h < 768 * parts
  at_most = omega arith

  field_is : h / parts + 510 ≡ b / 2 ^ 42 - 1081858
  field_is = let o = octave in omega arith

  same_bits : (e : ℕ) → over h e ≡ factor_bits e
  same_bits e = ap (λ (k : ℕ). k * 2 ^ 52 + e * 2 ^ 21) field_is

  pub factor_low : (e : ℕ) → 2 ^ 31 ≤ e → 963 * 2 ^ 52 ≤ factor_bits e
  factor_low e l = omega arith

  pub factor_high : (e : ℕ) → e ≤ 2 ^ 32 → factor_bits e ≤ 1083 * 2 ^ 52
  factor_high e m = omega arith

  pub factor_nan : (e : ℕ) → e ≤ 2 ^ 32 → T (not (nan_bits binary64 (factor_bits e)))
  factor_nan e m = let u = factor_high e m in small_nan (factor_bits e) (omega arith)

  -- between two whole octaves
  module _ (n : q ≡ 0 → ⊥) where
    n_steps : h % parts ≡ 0 → ⊥
    n_steps z = let s = steps in n (omega arith)

    missing_is : missing ≡ parts - h % parts
    missing_is = let s = steps in omega arith

    not_whole : missing ≡ 0 → ⊥
    not_whole z = n (omega arith)

    below : falling missing ≤ 4294967117
    below = falling-set missing (omega arith) not_whole

    pub shown_grown : (x : Float) (e : ℕ) → Lifts x b → falling missing ≤ e → e ≤ falling missing + 20 → Grown x (factor_bits e)
    shown_grown x e t f g =
        let u = falling_low missing in
        let v = below in
        record {
          least = let w = factor_low e (omega arith) in omega arith;
          most = let w = factor_high e (omega arith) in omega arith;
          tells =
              λ from r i k.
              by_estimate x h t.lifted at_least at_most n_steps from e r i (subst (λ (a : ℕ). falling a ≤ e) missing_is f) (subst (λ (a : ℕ). e ≤ falling a + 20) missing_is g) (omega arith) (omega arith)
              (subst (λ (y : ℕ). Cell from y r) (sym (same_bits e)) k);
        }

    pub shown_itself : (x from : Float) (d : ℕ) → Lifts x b → T (finite from) → d ≡ falling missing → mul binary64 from (of_bits binary64 (factor_bits d)) ≡ mul binary64 from (factor_of x)
    shown_itself x from d t i e =
        let u = falling_low missing in
        let v = below in
        ap (λ (y : ℕ). mul binary64 from (of_bits binary64 y)) (sym (same_bits d))
        ∙ by_itself x h t.lifted at_least at_most n_steps from d i (e ∙ ap falling missing_is) (omega arith) (omega arith)
