-- `decimal::write::parted` meets its contract: by the size of the fraction. Assumes nothing.
use Rattle.std.proofs.Common.{◌^◌, ◌≤◌, sym, ◌∙◌, ⊎_elim, arith}
use Rattle.decimal.proofs.Showing.{too_small, fine_shown, tiny_shown}
use Rattle.decimal.proofs.write.parted.Goals as goal

pub returns-then-k-gt73 : goal.returns-then-k-gt73
returns-then-k-gt73 c = tiny_shown _ _ c.requires.1 _ c.requires.0 c.if-k-gt73.true

pub coarse-requires : goal.coarse-requires
coarse-requires c =
    let least : 2 ^ 52 ≤ c.args.m = ⊎_elim (λ g. g) (λ g. absurd (omega arith)) c.requires.3 in
    (least, c.requires.1, c.requires.2, c.if-k-le32.true)

pub returns-then-n-eq0 : goal.returns-then-n-eq0
returns-then-n-eq0 c = too_small _ _ _ c.requires.0 (sym c.fine-n.ensures ∙ c.if-n-eq0.true)

pub returns : goal.returns
returns c = fine_shown _ _ c.requires.1 _ _ c.fine-n.ensures (omega arith)
