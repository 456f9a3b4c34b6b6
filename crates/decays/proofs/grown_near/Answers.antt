-- `decays::grown_near` meets its contract. Assumes nothing.
use Prim.Native.Nat.{ℕ, ◌≤◌}
use native.Mathlib.Omega.{arith}
use Rattle.decays.proofs.Growth.{over, by_estimate, over_small}
use Rattle.decays.proofs.grown_near.Goals as goal

raise_least : (h e : ℕ) → 3573547008 ≤ h → 41943040 ≤ over h e
raise_least h e l = omega arith

pub returns-then-e-lt4294967296 : goal.returns-then-e-lt4294967296
returns-then-e-lt4294967296 c =
    let h = c.in-Some.h in
    let e = c.falling_near-e.result in
    let t = c.in-Some.ensures in
    record {
      least = raise_least h e c.if-h-ge3573547008.true;
      most = over_small h e c.if-h-lt12884901888.true c.if-e-lt4294967296.true;
      tells =
          λ from r f k.
          by_estimate c.args.x h t.0 c.if-h-ge3573547008.true c.if-h-lt12884901888.true c.if-h-ne0.true from e r f c.falling_near-e.ensures.0
          c.falling_near-e.ensures.1 c.if-e-ge2147483668.true c.if-e-lt4294967296.true k;
    }
