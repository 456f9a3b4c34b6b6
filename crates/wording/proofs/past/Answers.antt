-- `wording::past` meets its contract: by the run behind the place. Assumes nothing.
use Rattle.std.proofs.Common.{◌≡◌, ℕ, ◌+◌, ap, ◌∙◌, arith, drop, length-drop}
use borrow.Author.Rules.{part_to_end}
use Rattle.wording.specs.Walked.{run_of}
use Rattle.wording.proofs.Blanks.{run_is, run_le}
use Rattle.wording.proofs.past.Goals as goal
use Rattle.wording.proofs.past.Goals.{After-run}

run : (c : After-run) → c.run.result ≡ run_of c.args.blank (drop c.args.at c.args.line.now)
run c = c.run.ensures ∙ rw (part_to_end c.args.line.now c.args.at) (run_is c.args.blank (drop c.args.at c.args.line.now))

pub overflow_add-result : goal.overflow_add-result
overflow_add-result c =
    let s = c.args.line.now in
    let at = c.args.at in
    omega (arith, run c, run_le c.args.blank (drop at s), length-drop at s)

pub returns : goal.returns
returns c =
    let s = c.args.line.now in
    let at = c.args.at in
    let e = run (goal.at.returns c).After-run in
    (ap (λ (k : ℕ). at + k) e, omega arith, omega (arith, run_le c.args.blank (drop at s), length-drop at s))
