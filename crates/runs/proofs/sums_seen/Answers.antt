-- `runs::sums_seen` meets its contract. Assumes nothing.
use Rattle.std.proofs.Common.{◌≡◌, ℕ, ◌<◌, not, ◌&&◌, T, ◌⊎◌, length, sym, ◌∙◌, subst, inl, inr, true≢false, arith}
use lib.Ieee.{Float, nan, binary32, binary64, of_bits, of_fields, odd, fits, is_nan, nan_bits}
use Rattle.rounding_laws.proofs.Cut.{cast_ok}
use Rattle.rounding_laws.proofs.Fuse.{fused_fits}
use Rattle.phases.specs.Patterns.{Holds}
use Rattle.phases.proofs.Seen.{seen}
use Rattle.std.proofs.lemmas.List.{get_or_default}
use Rattle.runs.specs.Passes.{phase_sum}
use Rattle.runs.proofs.Eaching.{one_each}
use Rattle.runs.proofs.Passing.{each_told}
use Rattle.runs.proofs.sums_seen.Goals.{else-n-eq0, then-n-eq0}
use Rattle.runs.proofs.sums_seen.Goals as goal

-- 0 is a pattern of `f32`'s too
none_nan : T (not (nan_bits binary64 0))
unfolding nan_bits
none_nan = tt

none_cast : T (fits binary32 (of_bits binary64 0) && not (is_nan (of_bits binary64 0)))
unfolding fits of_bits of_fields odd is_nan
none_cast = tt

no_nan : (n : ℕ) (y : Float) → (n ≡ 0) ⊎ Holds n y → T (not (nan_bits binary64 n))
no_nan n y (inl e) = subst (λ (k : ℕ). T (not (nan_bits binary64 k))) (sym e) none_nan
no_nan n y (inr h) = h.1

castable : (n : ℕ) (y : Float) → T (fits binary32 y) → (n ≡ 0) ⊎ Holds n y → T (fits binary32 (of_bits binary64 n) && not (is_nan (of_bits binary64 n)))
castable n y f (inl e) = subst (λ (k : ℕ). T (fits binary32 (of_bits binary64 k) && not (is_nan (of_bits binary64 k)))) (sym e) none_cast
castable n y f (inr h) = cast_ok n y h.0 f h.1

pub float_from_bits-out : goal.float_from_bits-out
float_from_bits-out c = no_nan c.phase_sum_seen-n.result _ c.phase_sum_seen-n.ensures

pub float_to_float-out : goal.float_to_float-out
float_to_float-out c = castable c.phase_sum_seen-n.result _ (fused_fits binary32 _ _ _) c.phase_sum_seen-n.ensures

pub loop-i-preserved : goal.loop-i-preserved
unfolding phase_sum
loop-i-preserved c =
    let l = c.loop-i in
    let a = c.args in
    let n = c.phase_sum_seen-n in
    let some : l.i < length l.out = omega (arith, l.auto.out, c.requires.out_len.0, c.requires.out_len.1, c.loop-i-test.true) in
    (elim c.if-n-eq0.branch [
      | then-n-eq0 w ↦ λ t. absurd (true≢false (sym t ∙ w.seen-is))
      | else-n-eq0 w ↦ λ t.
          one_each _ (l.invariant (sym w.seen-is ∙ t)) some (of_bits binary64 n.result)
          (λ x. subst (λ (y : Float). of_bits binary64 n.result ≡ phase_sum a.line.«c» a.line.a y) (get_or_default a.xs.now l.i nan x (omega (arith, c.requires.out_len.1, c.loop-i-test.true))) (seen n.result n.ensures w.if-n-eq0.false).0)
    ])

pub returns : goal.returns
returns c = λ t.
    let l = c.loop-i in
    let a = c.args in
    each_told (phase_sum a.line.«c» a.line.a) a.xs.now l.out (omega (arith, l.auto.out, c.requires.out_len.0, c.requires.out_len.1)) (λ k h. (l.invariant t).at k nan (omega (arith, l.auto, c.loop-i-test.false)) nan)
