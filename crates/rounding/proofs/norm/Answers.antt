-- `rounding::norm` meets its contract: a shift to the left changes nothing. Assumes nothing.
use mathlib.Core.Path.{◌∙◌, sym}
use mathlib.Core.Logic.{inl}
use Prim.Native.Nat.{◌^◌}
use native.Mathlib.Nat.{mod-eq_of_lt, pos_of_ne-zero}
use lib.Pow.{pow_pos}
use Rattle.rounding_laws.specs.Parts.{place}
use Rattle.rounding_laws.proofs.Lead.{lead_top, lead_round}
use Rattle.rounding_laws.proofs.Fuse.{round_zeros}
use Rattle.rounding.proofs.norm.Goals as goal

pub pack-requires-else-d-eq0 : goal.pack-requires-else-d-eq0
pack-requires-else-d-eq0 g c =
    let top = lead_top c.args.d (pos_of_ne-zero c.if-d-eq0.false) c.ranges.d.fits in
    rw (mod-eq_of_lt top.2) (inl top.1)

pub returns-then-d-eq0 : goal.returns-then-d-eq0
returns-then-d-eq0 g c =
    let a = c.args in
    let f = g.F.Binary.format in
    c.pack.ensures ∙ round_zeros f a.neg (2 ^ place f) a.d (2 ^ a.e) g.F.Binary.unit (pow_pos (place f)) c.if-d-eq0.true

pub returns-else-d-eq0 : goal.returns-else-d-eq0
returns-else-d-eq0 g c =
    let a = c.args in
    let f = g.F.Binary.format in
    let u = g.met.F.Binary.units in
    let packed = c.pack-else-d-eq0.ensures in
    rw (sym u.0, c.SHIFT.ensures) at packed ∙ lead_round f a.neg a.d a.e g.F.Binary.SHIFT g.F.Binary.unit (pos_of_ne-zero c.if-d-eq0.false) c.ranges.d.fits u.1
