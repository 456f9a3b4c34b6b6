-- `wording::put_fields` meets its contract. The invariant of its loop: what is written, in front of the fields left, are the fields. Assumes nothing.
use mathlib.Core.Path.{refl, ◌∙◌}
use native.Mathlib.Omega.{arith}
use Rattle.text.proofs.Writing.{put_then}
use Rattle.decimal.proofs.Written.{put-nothing}
use Rattle.wording.specs.Walked.{Ran, Passed}
use Rattle.wording.proofs.Steps.{ran_none, passed_none, a_next, no_next, places, field_short, wrote_to, wrote_unread, at_first, no_word_left, no_number_there, field_more, at_last, part_length}
use borrow.Author.Rules.{rules}
use Rattle.wording.proofs.put_fields.Goals as goal

pub loop-i-init : goal.loop-i-init
loop-i-init c = (search rules, refl, search rules, (_, at_first _ _ _, put-nothing _ _))

pub returns-in_err-word : goal.returns-in_err-word
returns-in_err-word c =
    let l = c.loop-i in
    let g = c.from_residual.ensures in
    (ran_none _ _ _ _ _ g (l.invariant.3.1 ∙ no_word_left _ _ _ c.loop-i-test.true _ (no_next _ _ c.in_err-word.ensures.0)), passed_none _ _ _ g)

pub slice_bounds-put_field-count : goal.slice_bounds-put_field-count
slice_bounds-put_field-count c =
    let p = places _ _ _ c.in_ok-word.ensures.1 in
    search rules

pub slice_bounds-put_field-start : goal.slice_bounds-put_field-start
slice_bounds-put_field-start c =
    let p = places _ _ _ c.in_ok-word.ensures.1 in
    search rules

pub slice_bounds-put_field-end : goal.slice_bounds-put_field-end
slice_bounds-put_field-end c =
    let p = places _ _ _ c.in_ok-word.ensures.1 in
    search rules

pub put_field-requires : goal.put_field-requires
put_field-requires c =
    let p = places _ _ _ c.in_ok-word.ensures.1 in
    let e = part_length c.args.line.now c.in_ok-word.word.from c.in_ok-word.word.to p.2 in
    (omega arith, omega arith)

pub returns-in_err-to : goal.returns-in_err-to
returns-in_err-to c =
    let l = c.loop-i in
    let g = c.from_residual-in_err-to.ensures in (
      ran_none _ _ _ _ _ g
          (l.invariant.3.1 ∙ no_number_there _ _ _ c.loop-i-test.true _ _ _ (a_next _ _ _ c.in_ok-word.ensures.0) (wrote_unread _ _ _ _ c.in_err-to.ensures)),
      passed_none _ _ _ g,
    )

pub loop-i-preserved : goal.loop-i-preserved
loop-i-preserved c =
    let l = c.loop-i in
    let v = wrote_to _ c.in_ok-to.ensures in
    let w = c.in_ok-word.word in
    let p = places _ _ _ c.in_ok-word.ensures.1 in
    let long = part_length c.args.line.now w.from w.to p.2 in
    let short = field_short _ _ (omega arith) v.1 in (
      p.2,
      search rules,
      omega (arith, v.2.place),
      (
        _,
        l.invariant.3.1 ∙ field_more _ _ _ c.loop-i-test.true _ _ _ (a_next _ _ _ c.in_ok-word.ensures.0) _ v.1,
        put_then l.invariant.3.2 v.2 (omega arith),
      ),
    )

pub returns : goal.returns
unfolding Ran Passed
returns c =
    let l = c.loop-i in
    ((_, l.invariant.3.1 ∙ at_last _ _ _ (omega arith) c.loop-i-test.false _ _, l.invariant.3.2), (l.invariant.0, l.invariant.2))
