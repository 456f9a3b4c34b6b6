-- `wording::put_made` meets its contract: the rate, then what may stand behind it. Assumes nothing.
use mathlib.Core.Path.{sym}
use native.Mathlib.Omega.{arith}
use Rattle.wording.proofs.Steps.{ran_none, inside_none, ran-same, ran-after, ran_to, ran-unread, passed_to, inside_same, made_none, made_then}
use borrow.Author.Rules.{rules}
use Rattle.wording.proofs.put_made.Goals as goal

pub returns-in_err-told : goal.returns-in_err-told
returns-in_err-told c =
    let g = c.from_residual.ensures in
    (ran_none _ _ _ _ _ g (made_none _ (ran-unread _ _ _ _ _ c.in_err-told.ensures.0)), inside_none _ _ g)

pub put_edition-requires : goal.put_edition-requires
put_edition-requires c =
    let p = passed_to _ _ _ _ c.in_ok-told.ensures.1 in
    (p.0, omega arith)

pub returns : goal.returns
returns c =
    let p = passed_to _ _ _ _ c.in_ok-told.ensures.1 in
    let v = ran_to _ _ c.in_ok-told.ensures.0 in (
      ran-same _ _ _ _ _ (sym (made_then _ v.1)) (ran-after _ _ _ _ v.2 (omega arith) c.put_edition.ensures.0),
      inside_same _ c.put_fields.new.out c.args.out.now _ (search rules) c.put_edition.ensures.1,
    )
