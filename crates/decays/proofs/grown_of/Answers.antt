-- `decays::grown_of` meets its contract. Assumes nothing.
use native.Mathlib.Omega.{arith}
use Rattle.decays.proofs.Range.{falling_low}
use Rattle.decays.proofs.Shown.{missing, factor_low, factor_high, shown_grown}
use Rattle.decays.proofs.grown_of.Goals as goal

pub returns : goal.returns
returns c =
    let b = c.args.b in
    let lo = c.requires.0 in
    let hi = c.requires.1 in
    let e = c.falling_near-e.result in
    let f = c.falling_near-e.ensures.0 in
    let l = falling_low (missing b lo hi) in (
      factor_low b lo hi e (omega (arith, f, l)),
      factor_high b lo hi e c.falling_near-e.ensures.2,
      λ n x t. shown_grown b lo hi n x e t f c.falling_near-e.ensures.1,
    )
