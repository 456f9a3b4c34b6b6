-- `wording::put_tail` meets its contract: by what the tail is. Assumes nothing.
use mathlib.Core.Path.{sym, ap}
use native.Mathlib.Omega.{arith}
use Rattle.wording.specs.declared.Tail.{Tail}
use Rattle.wording.specs.Plain.{words_at, tail_of}
use Rattle.wording.proofs.Steps.{ran-same, passed_inside}
use Rattle.wording.proofs.put_tail.Goals as goal

pub returns-in-Fields : goal.returns-in-Fields
unfolding tail_of
returns-in-Fields c = (
  ran-same _ _ _ _ _ (ap (λ (t : Tail). tail_of t (words_at c.args.line.now c.args.from)) (sym c.in-Fields.is)) c.put_fields.ensures.0,
  passed_inside _ _ _ _ _ (omega arith) c.put_fields.ensures.1,
)

pub returns-in-Numbers : goal.returns-in-Numbers
unfolding tail_of
returns-in-Numbers c = (
  ran-same _ _ _ _ _ (ap (λ (t : Tail). tail_of t (words_at c.args.line.now c.args.from)) (sym c.in-Numbers.is)) c.put_numbers.ensures.0,
  c.put_numbers.ensures.1,
)

pub returns-in-Block : goal.returns-in-Block
unfolding tail_of
returns-in-Block c = (
  ran-same _ _ _ _ _ (ap (λ (t : Tail). tail_of t (words_at c.args.line.now c.args.from)) (sym c.in-Block.is)) c.put_block.ensures.0,
  c.put_block.ensures.1,
)

pub returns-in-Made : goal.returns-in-Made
unfolding tail_of
returns-in-Made c = (
  ran-same _ _ _ _ _ (ap (λ (t : Tail). tail_of t (words_at c.args.line.now c.args.from)) (sym c.in-Made.is)) c.put_made.ensures.0,
  c.put_made.ensures.1,
)
