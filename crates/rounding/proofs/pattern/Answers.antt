-- `rounding::pattern` meets its contract: each branch is a case of `rounding_laws`' At. Assumes nothing.
use mathlib.Core.Path.{refl, ◌∙◌}
use Prim.Native.Nat.{◌+◌, ◌-◌}
use native.Mathlib.Omega.{arith}
use lib.Ieee.{prec}
use Rattle.rounding_laws.specs.Parts.{place}
use Rattle.rounding_laws.proofs.At.{packed_inf, packed_normal, packed_low, packed_none}
use Rattle.rounding_laws.proofs.Pack.{most_digits}
use Rattle.rounding.proofs.pattern.Goals as goal

pub returns-then-e-ONES : goal.returns-then-e-ONES
returns-then-e-ONES g c =
    let w = g.met.F.Binary.widths in
    let f = g.F.Binary.format in
    rw (c.ONES-then-e-ONES.ensures ∙ w.ones_is, c.LEAD.ensures ∙ w.lead_is)
    (packed_inf f c.args.d c.args.e (place f) 896 c.ranges.d.fits refl c.requires (omega (arith, c.ONES.ensures, w.ones_is, c.if-e-ONES.true)))

pub returns-then-e-ge-NORMAL : goal.returns-then-e-ge-NORMAL
returns-then-e-ge-NORMAL g c =
    let w = g.met.F.Binary.widths in
    let f = g.F.Binary.format in
    let kept = c.rounded.ensures in
    rw (c.LEAD-then-e-ge-NORMAL.ensures ∙ w.lead_is)
    (packed_normal f c.args.d c.args.e (place f) 896 c.ranges.d.fits refl c.requires c.rounded.result c.if-e-ge-NORMAL.true (omega (arith, c.ONES.ensures, w.ones_is, c.if-e-ONES.false)) (rw (c.DIGITS-dropped.ensures ∙ w.digits_is) at kept))

pub returns-then-e-DIGITS-ge-NORMAL : goal.returns-then-e-DIGITS-ge-NORMAL
returns-then-e-DIGITS-ge-NORMAL g c =
    let w = g.met.F.Binary.widths in
    let f = g.F.Binary.format in
    let drop = 64 - c.DIGITS-dropped.result in
    packed_low f c.args.d c.args.e (place f) 896 c.ranges.d.fits refl c.requires (896 + drop - c.args.e) c.rounded-then-e-DIGITS-ge-NORMAL.result
    (omega (arith, c.DIGITS-dropped.ensures, w.digits_is)) (omega arith) c.rounded-then-e-DIGITS-ge-NORMAL.ensures

pub returns-else-e-DIGITS-ge-NORMAL : goal.returns-else-e-DIGITS-ge-NORMAL
returns-else-e-DIGITS-ge-NORMAL g c =
    let w = g.met.F.Binary.widths in
    let f = g.F.Binary.format in
    packed_none f c.args.d c.args.e (place f) 896 c.ranges.d.fits refl c.requires (896 + (64 - prec f) - c.args.e) (omega arith) (omega arith) (omega (arith, c.DIGITS.ensures, w.digits_is, most_digits f))
