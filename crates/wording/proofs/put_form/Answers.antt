-- `wording::put_form` meets its contract: its first fields, then the last ones. Assumes nothing.
use mathlib.Core.Path.{sym}
use native.Mathlib.Omega.{arith}
use Rattle.wording.proofs.Steps.{ran_none, inside_none, ran-same, ran-after, ran_to, ran-unread, passed_to, inside_same, formed_none, formed_then}
use borrow.Author.Rules.{rules}
use Rattle.wording.proofs.put_form.Goals as goal

pub returns-in_err-told : goal.returns-in_err-told
returns-in_err-told c =
    let g = c.from_residual.ensures in
    (ran_none _ _ _ _ _ g (formed_none _ _ (ran-unread _ _ _ _ _ c.in_err-told.ensures.0)), inside_none _ _ g)

pub put_tail-requires : goal.put_tail-requires
put_tail-requires c =
    let p = passed_to _ _ _ _ c.in_ok-told.ensures.1 in
    (p.0, omega arith)

pub returns : goal.returns
returns c =
    let p = passed_to _ _ _ _ c.in_ok-told.ensures.1 in
    let v = ran_to _ _ c.in_ok-told.ensures.0 in (
      ran-same _ _ _ _ _ (sym (formed_then _ _ v.1))
          (ran-after _ _ _ _ v.2 (omega arith) c.put_tail.ensures.0),
      inside_same _ c.put_fields.new.out c.args.out.now _ (search rules) c.put_tail.ensures.1,
    )
