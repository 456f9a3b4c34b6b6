-- `decimal::read::counted` meets its contract. The invariant of its loop: the number is what the characters left make of the value so far. Assumes nothing.
use Rattle.std.proofs.Common.{◌≡◌, ◌^◌, List, ℕ, [], drop, sym, ap, ◌∙◌, arith, lit<, drop_of_length-le}
use Rattle.text.specs.Digits.{number_from}
use Rattle.text.specs.Words.{up_to}
use Rattle.text.proofs.Reading.{turn, stop}
use Rattle.decimal.proofs.Reading.{over, all-counted}
use Rattle.decimal.proofs.read.counted.Goals as goal

pub returns-then-d-ge10 : goal.returns-then-d-ge10
unfolding up_to
returns-then-d-ge10 c =
    let l = c.loop-c in
    sym (l.invariant.1 ∙ ap (up_to (2 ^ 53)) (stop _ _ _ _ _ c.loop-c-test.true c.digit-d.ensures c.if-d-ge10.true))

pub returns-then-v-gt9007199254740992 : goal.returns-then-v-gt9007199254740992
returns-then-v-gt9007199254740992 c =
    let l = c.loop-c in
    sym (l.invariant.1 ∙ ap (up_to (2 ^ 53)) (turn _ _ _ _ _ c.loop-c-test.true c.digit-d.ensures c.if-d-ge10.false)
    ∙ over 10 (2 ^ 53) (omega arith) (lit< tt) _ _ c.if-v-gt9007199254740992.true)

pub loop-c-preserved : goal.loop-c-preserved
loop-c-preserved c =
    let l = c.loop-c in
    (c.if-v-gt9007199254740992.false, l.invariant.1 ∙ ap (up_to (2 ^ 53)) (turn _ _ _ _ _ c.loop-c-test.true c.digit-d.ensures c.if-d-ge10.false))

pub returns : goal.returns
returns c =
    let l = c.loop-c in
    let w = c.args.word.now in
    let e : drop l.c-index w ≡ [] = drop_of_length-le w c.loop-c-test.false in
    sym (l.invariant.1 ∙ ap (λ (cs : List ℕ). up_to (2 ^ 53) (number_from 10 l.v cs)) e ∙ all-counted 10 (2 ^ 53) (omega arith) (lit< tt) _ l.invariant.0)
