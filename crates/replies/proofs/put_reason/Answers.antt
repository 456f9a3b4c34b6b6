-- `replies::put_reason` meets its contract: by the line's first word, and the number behind it. Assumes nothing.
use mathlib.Core.Path.{sym, ◌∙◌}
use native.Mathlib.Omega.{arith}
use lib.Seq.{length-take-le}
use Rattle.text.proofs.Writing.{put_same, put-nothing}
use Rattle.replies.proofs.Reasons.{no_refusal, no_number, a_number}
use Rattle.replies.proofs.put_reason.Goals as goal

pub slice_bounds-same-end : goal.slice_bounds-same-end
slice_bounds-same-end c =
    sym (length-take-le _ _ (omega arith))

pub returns-then-not-same : goal.returns-then-not-same
returns-then-not-same c = record {
  put = put_same (sym (no_refusal _ _ c.word_end-end.ensures.0 (sym c.same.ensures ∙ c.if-not-same.true))) (put-nothing _ _);
  upper_bound = omega arith;
}

pub returns-in_default : goal.returns-in_default
returns-in_default c = record {
  put = put_same (sym (no_number _ _ c.word_end-end.ensures.0 (sym c.same.ensures ∙ c.if-not-same.false) c.in_default.ensures)) (put-nothing _ _);
  upper_bound = omega arith;
}

pub returns : goal.returns
returns c = record {
  put = put_same (sym (a_number _ _ c.word_end-end.ensures.0 (sym c.same.ensures ∙ c.if-not-same.false) c.in-Some.ensures)) c.put_meaning.ensures.0;
  upper_bound = c.put_meaning.ensures.1;
}
