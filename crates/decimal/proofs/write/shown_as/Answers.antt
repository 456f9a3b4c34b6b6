-- `decimal::write::shown_as` meets its contract: by the exponent. Assumes nothing.
use Rattle.std.proofs.Common.{ℕ, ◌-◌, ◌*◌, ◌^◌, ◌<◌, ◌≤◌, ◌⊎◌, sym, ap, ◌∙◌, inl, inr, ⊎_elim, zero-mul, arith, pow_pos}
use Rattle.decimal.specs.Shown.{shown_as}
use Rattle.decimal.proofs.Showing.{zero_shown, huge_shown, whole-shown, parted_shown}
use Rattle.decimal.proofs.write.shown_as.Goals as goal

pub returns-then-m-eq0 : goal.returns-then-m-eq0
returns-then-m-eq0 c =
    let a = c.args in
    zero_shown a.minus (2 ^ 1074) (pow_pos 1074) ∙ ap (λ (n : ℕ). shown_as a.minus n (2 ^ 1074)) (sym (ap (λ (m : ℕ). m * 2 ^ a.j) c.if-m-eq0.true ∙ zero-mul (2 ^ a.j)))

pub returns-then-j-gt1085 : goal.returns-then-j-gt1085
returns-then-j-gt1085 c = huge_shown _ _ c.requires.0 _ c.requires.1 c.if-j-gt1085.true

pub returns-then-j-ge1074 : goal.returns-then-j-ge1074
returns-then-j-ge1074 c = whole-shown _ _ c.requires.0 _ (omega arith) c.if-j-ge1074.true c.if-j-gt1085.false

pub parted-requires : goal.parted-requires
parted-requires c =
    let a = c.args in
    let lead : (2 ^ 52 ≤ a.m) ⊎ (32 < 1074 - a.j) = ⊎_elim (λ g. inl g) (λ z. inr (omega arith)) c.requires.1 in
    (omega arith, c.requires.0, omega arith, lead)

pub returns : goal.returns
returns c = c.parted.ensures ∙ parted_shown _ _ _ c.if-j-ge1074.false
