-- `rounding::Parts::of` meets its contract: the pattern's fields are the value. Assumes nothing.
use mathlib.Core.Path.{◌≡◌, ◌∙◌, subst}
use Prim.Native.Nat.{ℕ, suc, ◌-◌, ◌/◌, ◌%◌}
use native.Mathlib.Nat.{add_comm}
use native.Mathlib.Omega.{arith}
use lib.Dec.{leb}
use lib.Ieee.{hid, top}
use Rattle.rounding_laws.specs.Parts.{Parted}
use Rattle.rounding_laws.proofs.Decode.{finite_no_nan}
use Rattle.rounding_laws.proofs.Parts.{parted_of}
use Rattle.rounding.proofs.Parts.of.Goals as goal

pub to_pattern-b-requires : goal.to_pattern-b-requires
to_pattern-b-requires g c = finite_no_nan _ c.requires

pub returns-then-ex-eq0 : goal.returns-then-ex-eq0
returns-then-ex-eq0 g c =
    let w = g.met.F.Binary.widths in
    let low = c.if-ex-eq0.true in
    rw (c.SIGN.ensures ∙ w.sign_is, c.LEAD-2.ensures ∙ w.lead_is) (parted_of _ _ _ c.to_pattern-b.ensures c.requires 0 (rw (c.SIGN-2.ensures ∙ w.sign_is, c.LEAD.ensures ∙ w.lead_is) at low))

pub returns-else-ex-eq0 : goal.returns-else-ex-eq0
returns-else-ex-eq0 g c =
    let w = g.met.F.Binary.widths in
    let f = g.F.Binary.format in
    let b = c.to_pattern-b.result in
    let at = b % top f / hid f in
    let high = c.if-ex-eq0.false in
    let normal = rw (c.SIGN-2.ensures ∙ w.sign_is, c.LEAD.ensures ∙ w.lead_is) at high in
    rw (c.SIGN.ensures ∙ w.sign_is, c.LEAD-2.ensures ∙ w.lead_is, c.LEAD-else-ex-eq0.ensures ∙ w.lead_is, c.SIGN-2.ensures ∙ w.sign_is, c.LEAD.ensures ∙ w.lead_is)
    (subst (λ (m : ℕ). Parted f (g.F.Real.number c.args.x) (leb (top f) b) m (at - 1)) (add_comm (hid f) (b % hid f)) (parted_of _ _ _ c.to_pattern-b.ensures c.requires (suc (at - 1)) (back at normal)))
  where
    back : (n : ℕ) → (n ≡ 0 → ⊥) → n ≡ suc (n - 1)
    back n h = omega arith
