-- `wording::next_word` meets its contract. The invariant of its loop: no word was passed that means something. Assumes nothing.
use mathlib.Core.Path.{sym, ap, ◌∙◌}
use Prim.Native.Nat.{◌-◌}
use native.Mathlib.Omega.{arith}
use lib.ListN.{drop, length-take}
use Rattle.wording.specs.Walked.{first_of, next_at, Behind}
use Rattle.wording.proofs.Blanks.{a_word, a_small, passes, some_character, no_word}
use borrow.Author.Rules.{rules}
use Rattle.wording.proofs.next_word.Goals as goal

pub returns-then-not-is_small : goal.returns-then-not-is_small
unfolding Behind
returns-then-not-is_small c =
    let l = c.loop-i in
    let s = c.args.line.now in
    let from = c.past-from.result in
    let to = c.past-to.result in
    let e = sym c.is_small.ensures ∙ c.if-not-is_small.true in (
      a_word _ _ _ _ c.past-from.ensures.0 c.past-to.ensures.0 e ∙ ap first_of (sym l.invariant.2),
      (search rules, omega (arith, some_character _ e, length-take (to - from) (drop from s)), search rules),
    )

pub loop-i-smaller : goal.loop-i-smaller
loop-i-smaller c = omega (arith, passes _ _ _ _ c.loop-i-test.true c.past-from.ensures.0 c.past-to.ensures.0)

pub loop-i-preserved : goal.loop-i-preserved
loop-i-preserved c =
    let l = c.loop-i in
    (search rules, search rules, l.invariant.2 ∙ a_small _ _ _ _ c.past-from.ensures.0 c.past-to.ensures.0 (sym c.is_small.ensures ∙ c.if-not-is_small.false))

pub returns : goal.returns
unfolding next_at first_of Behind
returns c = (sym (ap first_of (c.loop-i.invariant.2 ∙ no_word _ _ c.loop-i-test.false)), tt)
