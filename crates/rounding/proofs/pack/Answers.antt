-- `rounding::pack` meets its contract: the sign and the pattern. Assumes nothing.
use mathlib.Core.Path.{ap, ◌∙◌}
use Prim.Native.Nat.{ℕ, ◌+◌}
use lib.Ieee.{of_bits}
use Rattle.rounding_laws.proofs.At.{no_nan, pattern_lt}
use Rattle.rounding.proofs.pack.Goals as goal

pub from_pattern-requires : goal.from_pattern-requires
from_pattern-requires g c =
    let f = g.F.Binary.format in
    rw c.sign.ensures (pattern_lt f c.args.neg c.pattern.result c.pattern.ensures.most, no_nan f c.args.neg c.pattern.result c.pattern.ensures.most)

pub returns : goal.returns
returns g c =
    c.from_pattern.ensures ∙ ap (λ (x : ℕ). of_bits g.F.Binary.format (x + c.pattern.result)) c.sign.ensures ∙ c.pattern.ensures.rounds c.args.neg
