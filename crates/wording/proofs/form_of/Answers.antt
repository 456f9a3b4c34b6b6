-- `wording::form_of` meets its contract: one name after the other. Assumes nothing.
use mathlib.Core.Path.{◌≡◌, sym, ◌∙◌}
use lib.ListN.{drop}
use Rattle.wording.specs.Plain.{scheduling, rows, form_in}
use Rattle.wording.proofs.Steps.{row_is, row_not}
use Rattle.wording.proofs.form_of.Goals as goal
use Rattle.wording.proofs.form_of.Goals.{Else-same-7}

pub returns-then-same : goal.returns-then-same
unfolding rows scheduling
returns-then-same c =
    c.call_form.ensures
    ∙ sym (row_is _ _ _ _ (sym c.same.ensures ∙ c.if-same.true))

pub returns-then-same-2 : goal.returns-then-same-2
unfolding rows scheduling
returns-then-same-2 c =
    c.call_form-then-same-2.ensures
    ∙ sym
    (row_not _ _ _ _ (sym c.same.ensures ∙ c.if-same.false)
    ∙ row_is _ _ _ _ (sym c.same-2.ensures ∙ c.if-same-2.true))

pub returns-then-same-3 : goal.returns-then-same-3
unfolding rows scheduling
returns-then-same-3 c =
    c.call_form-then-same-3.ensures
    ∙ sym
    (row_not _ _ _ _ (sym c.same.ensures ∙ c.if-same.false)
    ∙ row_not _ _ _ _ (sym c.same-2.ensures ∙ c.if-same-2.false)
    ∙ row_is _ _ _ _ (sym c.same-3.ensures ∙ c.if-same-3.true))

pub returns-then-same-4 : goal.returns-then-same-4
unfolding rows scheduling
returns-then-same-4 c =
    c.two_kinds.ensures
    ∙ sym
    (row_not _ _ _ _ (sym c.same.ensures ∙ c.if-same.false)
    ∙ row_not _ _ _ _ (sym c.same-2.ensures ∙ c.if-same-2.false)
    ∙ row_not _ _ _ _ (sym c.same-3.ensures ∙ c.if-same-3.false)
    ∙ row_is _ _ _ _ (sym c.same-4.ensures ∙ c.if-same-4.true))

pub returns-then-same-5 : goal.returns-then-same-5
unfolding rows scheduling
returns-then-same-5 c =
    c.two_kinds-then-same-5.ensures
    ∙ sym
    (row_not _ _ _ _ (sym c.same.ensures ∙ c.if-same.false)
    ∙ row_not _ _ _ _ (sym c.same-2.ensures ∙ c.if-same-2.false)
    ∙ row_not _ _ _ _ (sym c.same-3.ensures ∙ c.if-same-3.false)
    ∙ row_not _ _ _ _ (sym c.same-4.ensures ∙ c.if-same-4.false)
    ∙ row_is _ _ _ _ (sym c.same-5.ensures ∙ c.if-same-5.true))

pub returns-then-same-6 : goal.returns-then-same-6
unfolding rows scheduling
returns-then-same-6 c =
    c.two_kinds-then-same-6.ensures
    ∙ sym
    (row_not _ _ _ _ (sym c.same.ensures ∙ c.if-same.false)
    ∙ row_not _ _ _ _ (sym c.same-2.ensures ∙ c.if-same-2.false)
    ∙ row_not _ _ _ _ (sym c.same-3.ensures ∙ c.if-same-3.false)
    ∙ row_not _ _ _ _ (sym c.same-4.ensures ∙ c.if-same-4.false)
    ∙ row_not _ _ _ _ (sym c.same-5.ensures ∙ c.if-same-5.false)
    ∙ row_is _ _ _ _ (sym c.same-6.ensures ∙ c.if-same-6.true))

pub returns-then-same-7 : goal.returns-then-same-7
unfolding rows scheduling
returns-then-same-7 c =
    c.two_kinds-then-same-7.ensures
    ∙ sym
    (row_not _ _ _ _ (sym c.same.ensures ∙ c.if-same.false)
    ∙ row_not _ _ _ _ (sym c.same-2.ensures ∙ c.if-same-2.false)
    ∙ row_not _ _ _ _ (sym c.same-3.ensures ∙ c.if-same-3.false)
    ∙ row_not _ _ _ _ (sym c.same-4.ensures ∙ c.if-same-4.false)
    ∙ row_not _ _ _ _ (sym c.same-5.ensures ∙ c.if-same-5.false)
    ∙ row_not _ _ _ _ (sym c.same-6.ensures ∙ c.if-same-6.false)
    ∙ row_is _ _ _ _ (sym c.same-7.ensures ∙ c.if-same-7.true))

-- behind all the tests
none_is : (c : Else-same-7) → form_in rows c.args.word.now ≡ form_in (drop 7 rows) c.args.word.now
unfolding rows scheduling
none_is c =
    row_not _ _ _ _ (sym c.same.ensures ∙ c.if-same.false)
    ∙ row_not _ _ _ _ (sym c.same-2.ensures ∙ c.if-same-2.false)
    ∙ row_not _ _ _ _ (sym c.same-3.ensures ∙ c.if-same-3.false)
    ∙ row_not _ _ _ _ (sym c.same-4.ensures ∙ c.if-same-4.false)
    ∙ row_not _ _ _ _ (sym c.same-5.ensures ∙ c.if-same-5.false)
    ∙ row_not _ _ _ _ (sym c.same-6.ensures ∙ c.if-same-6.false)
    ∙ row_not _ _ _ _ (sym c.same-7.ensures ∙ c.if-same-7.false)

pub returns : goal.returns
unfolding rows scheduling form_in
returns c =
    c.scheduling_form.ensures
    ∙ sym (none_is (goal.at.returns c).Else-same-7)
