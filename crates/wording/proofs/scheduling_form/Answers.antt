-- `wording::scheduling_form` meets its contract: one name after the other. Assumes nothing.
use mathlib.Core.Path.{◌≡◌, sym, ◌∙◌}
use lib.ListN.{drop}
use Rattle.wording.specs.Plain.{scheduling, form_in}
use Rattle.wording.proofs.Steps.{row_is, row_not}
use Rattle.wording.proofs.scheduling_form.Goals as goal
use Rattle.wording.proofs.scheduling_form.Goals.{Else-same-8}

pub returns-then-same : goal.returns-then-same
unfolding scheduling
returns-then-same c = c.two_kinds.ensures ∙ sym (row_is _ _ _ _ (sym c.same.ensures ∙ c.if-same.true))

pub returns-then-same-2 : goal.returns-then-same-2
unfolding scheduling
returns-then-same-2 c =
    c.two_kinds-then-same-2.ensures
    ∙ sym
    (row_not _ _ _ _ (sym c.same.ensures ∙ c.if-same.false)
    ∙ row_is _ _ _ _ (sym c.same-2.ensures ∙ c.if-same-2.true))

pub returns-then-same-3 : goal.returns-then-same-3
unfolding scheduling
returns-then-same-3 c =
    c.two_kinds-then-same-3.ensures
    ∙ sym
    (row_not _ _ _ _ (sym c.same.ensures ∙ c.if-same.false)
    ∙ row_not _ _ _ _ (sym c.same-2.ensures ∙ c.if-same-2.false)
    ∙ row_is _ _ _ _ (sym c.same-3.ensures ∙ c.if-same-3.true))

pub returns-then-same-4 : goal.returns-then-same-4
unfolding scheduling
returns-then-same-4 c =
    c.two_kinds-then-same-4.ensures
    ∙ sym
    (row_not _ _ _ _ (sym c.same.ensures ∙ c.if-same.false)
    ∙ row_not _ _ _ _ (sym c.same-2.ensures ∙ c.if-same-2.false)
    ∙ row_not _ _ _ _ (sym c.same-3.ensures ∙ c.if-same-3.false)
    ∙ row_is _ _ _ _ (sym c.same-4.ensures ∙ c.if-same-4.true))

pub returns-then-same-5 : goal.returns-then-same-5
unfolding scheduling
returns-then-same-5 c =
    c.two_kinds-then-same-5.ensures
    ∙ sym
    (row_not _ _ _ _ (sym c.same.ensures ∙ c.if-same.false)
    ∙ row_not _ _ _ _ (sym c.same-2.ensures ∙ c.if-same-2.false)
    ∙ row_not _ _ _ _ (sym c.same-3.ensures ∙ c.if-same-3.false)
    ∙ row_not _ _ _ _ (sym c.same-4.ensures ∙ c.if-same-4.false)
    ∙ row_is _ _ _ _ (sym c.same-5.ensures ∙ c.if-same-5.true))

pub returns-then-same-6 : goal.returns-then-same-6
unfolding scheduling
returns-then-same-6 c =
    c.call_form.ensures
    ∙ sym
    (row_not _ _ _ _ (sym c.same.ensures ∙ c.if-same.false)
    ∙ row_not _ _ _ _ (sym c.same-2.ensures ∙ c.if-same-2.false)
    ∙ row_not _ _ _ _ (sym c.same-3.ensures ∙ c.if-same-3.false)
    ∙ row_not _ _ _ _ (sym c.same-4.ensures ∙ c.if-same-4.false)
    ∙ row_not _ _ _ _ (sym c.same-5.ensures ∙ c.if-same-5.false)
    ∙ row_is _ _ _ _ (sym c.same-6.ensures ∙ c.if-same-6.true))

pub returns-then-same-7 : goal.returns-then-same-7
unfolding scheduling
returns-then-same-7 c =
    c.two_kinds-then-same-7.ensures
    ∙ sym
    (row_not _ _ _ _ (sym c.same.ensures ∙ c.if-same.false)
    ∙ row_not _ _ _ _ (sym c.same-2.ensures ∙ c.if-same-2.false)
    ∙ row_not _ _ _ _ (sym c.same-3.ensures ∙ c.if-same-3.false)
    ∙ row_not _ _ _ _ (sym c.same-4.ensures ∙ c.if-same-4.false)
    ∙ row_not _ _ _ _ (sym c.same-5.ensures ∙ c.if-same-5.false)
    ∙ row_not _ _ _ _ (sym c.same-6.ensures ∙ c.if-same-6.false)
    ∙ row_is _ _ _ _ (sym c.same-7.ensures ∙ c.if-same-7.true))

pub returns-then-same-8 : goal.returns-then-same-8
unfolding scheduling
returns-then-same-8 c =
    c.two_kinds-then-same-8.ensures
    ∙ sym
    (row_not _ _ _ _ (sym c.same.ensures ∙ c.if-same.false)
    ∙ row_not _ _ _ _ (sym c.same-2.ensures ∙ c.if-same-2.false)
    ∙ row_not _ _ _ _ (sym c.same-3.ensures ∙ c.if-same-3.false)
    ∙ row_not _ _ _ _ (sym c.same-4.ensures ∙ c.if-same-4.false)
    ∙ row_not _ _ _ _ (sym c.same-5.ensures ∙ c.if-same-5.false)
    ∙ row_not _ _ _ _ (sym c.same-6.ensures ∙ c.if-same-6.false)
    ∙ row_not _ _ _ _ (sym c.same-7.ensures ∙ c.if-same-7.false)
    ∙ row_is _ _ _ _ (sym c.same-8.ensures ∙ c.if-same-8.true))

-- behind all the tests
none_is : (c : Else-same-8) → form_in scheduling c.args.word.now ≡ form_in (drop 8 scheduling) c.args.word.now
unfolding scheduling
none_is c =
    row_not _ _ _ _ (sym c.same.ensures ∙ c.if-same.false)
    ∙ row_not _ _ _ _ (sym c.same-2.ensures ∙ c.if-same-2.false)
    ∙ row_not _ _ _ _ (sym c.same-3.ensures ∙ c.if-same-3.false)
    ∙ row_not _ _ _ _ (sym c.same-4.ensures ∙ c.if-same-4.false)
    ∙ row_not _ _ _ _ (sym c.same-5.ensures ∙ c.if-same-5.false)
    ∙ row_not _ _ _ _ (sym c.same-6.ensures ∙ c.if-same-6.false)
    ∙ row_not _ _ _ _ (sym c.same-7.ensures ∙ c.if-same-7.false)
    ∙ row_not _ _ _ _ (sym c.same-8.ensures ∙ c.if-same-8.false)

pub returns : goal.returns
unfolding scheduling form_in
returns c = sym (none_is c)
