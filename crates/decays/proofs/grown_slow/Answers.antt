-- `decays::grown_slow` meets its contract. Assumes nothing.
use mathlib.Core.Path.{ap, ◌∙◌}
use lib.Ieee.{binary64, mul}
use Rattle.rules.specs.Numbers.{narrowed}
use Rattle.samples.proofs.Held.{factor_mul}
use Rattle.decays.proofs.Growth.{over, by_itself, over_small, small_nan}
use Rattle.decays.proofs.grown_slow.Goals as goal

pub float_from_bits-f : goal.float_from_bits-f
float_from_bits-f c =
    small_nan (over c.in-Some.h c.falling_by-d.result) (over_small c.in-Some.h c.falling_by-d.result c.if-h-lt12884901888.true c.if-d-lt4294967296.true)

pub returns-then-d-lt4294967296 : goal.returns-then-d-lt4294967296
returns-then-d-lt4294967296 c =
    let h = c.in-Some.h in
    let t = c.in-Some.ensures in
    c.narrow.ensures
    ∙ ap narrowed
    (by_itself c.args.x h t.0 c.if-h-ge3573547008.true c.if-h-lt12884901888.true c.if-h-ne0.true c.args.from c.falling_by-d.result c.requires c.falling_by-d.ensures c.if-d-ge2147483648.true
    c.if-d-lt4294967296.true)

pub returns : goal.returns
returns c =
    c.narrow-2.ensures ∙ ap narrowed (ap (mul binary64 c.args.from) c.factor.ensures ∙ factor_mul c.args.from c.args.x)
