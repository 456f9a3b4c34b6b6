-- `play::put_told` meets its contract: which line is not read, what is in the way, or the answer for a person. Assumes nothing.
use mathlib.Core.Path.{sym, ◌∙◌}
use native.Mathlib.Omega.{arith}
use Rattle.text.proofs.Writing.{put_same, put_then}
use Rattle.play.proofs.Turns.{told-unread, told_clash, told-reply}
use Rattle.play.proofs.put_told.Goals as goal

pub returns-then-same : goal.returns-then-same
returns-then-same c =
    let v = c.put_not_read.ensures in
    record {
      put = put_same (sym (told-unread _ _ _ (sym c.same.ensures ∙ c.if-same.true))) v.put;
      upper_bound = omega (arith, v.upper_bound);
    }

pub returns-then-same-2 : goal.returns-then-same-2
returns-then-same-2 c =
    let read = sym c.same.ensures ∙ c.if-same.false in
    let refused = sym c.same-2.ensures ∙ c.if-same-2.true in
    let w = c.put_word-to.ensures in
    let v = c.put_clash.ensures in
    record {
      put = put_same (sym (told_clash _ _ _ read refused)) (put_then w v.put (omega (arith, w.place)));
      upper_bound = omega (arith, w.place, v.upper_bound);
    }

pub returns : goal.returns
returns c =
    let read = sym c.same.ensures ∙ c.if-same.false in
    let v = c.put_reply.ensures in
    record {
      put = put_same (sym (told-reply _ _ _ read (sym c.same-2.ensures ∙ c.if-same-2.false))) v.put;
      upper_bound = v.upper_bound;
    }
