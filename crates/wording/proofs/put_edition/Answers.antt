-- `wording::put_edition` meets its contract: nothing, or the word and the number behind it. Assumes nothing.
use mathlib.Core.Path.{sym, ◌∙◌}
use mathlib.Core.List.{[]}
use native.Mathlib.Omega.{arith}
use Rattle.text.proofs.Writing.{put-nothing}
use Rattle.wording.specs.Walked.{Ran, Inside}
use Rattle.wording.proofs.Steps.{a_next, no_next, places, ran-same, passed_inside, no_edition, not_edition, an_edition}
use borrow.Author.Rules.{rules}
use Rattle.wording.proofs.put_edition.Goals as goal

pub returns-in_default : goal.returns-in_default
unfolding Ran Inside
returns-in_default c =
    (([], no_edition (no_next _ _ c.in_default.ensures.0), put-nothing _ _), (c.requires.0, omega arith))

pub slice_bounds-same-count : goal.slice_bounds-same-count
slice_bounds-same-count c =
    let p = places _ _ _ c.in-Some.ensures.1 in
    search rules

pub slice_bounds-same-start : goal.slice_bounds-same-start
slice_bounds-same-start c =
    let p = places _ _ _ c.in-Some.ensures.1 in
    search rules

pub slice_bounds-same-end : goal.slice_bounds-same-end
slice_bounds-same-end c =
    let p = places _ _ _ c.in-Some.ensures.1 in
    search rules

pub returns-then-not-same : goal.returns-then-not-same
unfolding Ran Inside
returns-then-not-same c =
    (not_edition _ (a_next _ _ _ c.in-Some.ensures.0) (sym c.same.ensures ∙ c.if-not-same.true), tt)

pub put_fields-requires : goal.put_fields-requires
put_fields-requires c =
    let p = places _ _ _ c.in-Some.ensures.1 in
    (p.2, omega arith)

pub returns : goal.returns
returns c =
    let p = places _ _ _ c.in-Some.ensures.1 in
    let is = an_edition _ (a_next _ _ _ c.in-Some.ensures.0) (sym c.same.ensures ∙ c.if-not-same.false) in (
      ran-same _ _ _ _ _ (sym is) c.put_fields.ensures.0,
      passed_inside _ _ _ _ _ (omega arith) c.put_fields.ensures.1,
    )
