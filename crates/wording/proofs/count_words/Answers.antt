-- `wording::count_words` meets its contract. The invariant of its loop: the words passed and those left are the words. Assumes nothing.
use Rattle.std.proofs.Common.{ap, length, arith, rules}
use Rattle.wording.proofs.Steps.{a_next, no_next, places}
use Rattle.wording.proofs.count_words.Goals as goal

pub returns : goal.returns
returns c = omega (arith, ap length (no_next _ _ c.in_default.ensures.0))

pub overflow_add-n : goal.overflow_add-n
overflow_add-n c = omega (arith, places _ _ _ c.in-Some.ensures.1)

pub loop-word-smaller : goal.loop-word-smaller
loop-word-smaller c = omega (arith, places _ _ _ c.in-Some.ensures.1)

pub loop-word-preserved : goal.loop-word-preserved
loop-word-preserved c =
    let p = places _ _ _ c.in-Some.ensures.1 in
    (search rules, search rules, omega (arith, ap length (a_next _ _ _ c.in-Some.ensures.0)))
