-- `answers::put_block` meets its contract: one field behind the other, and the flag. Assumes nothing.
use mathlib.Core.Path.{sym, ap}
use native.Mathlib.Omega.{arith}
use Rattle.text.proofs.Writing.{put_same, put_then}
use Rattle.answers.specs.Answers.{block_text}
use Rattle.answers.proofs.put_block.Goals as goal

pub returns-then-one : goal.returns-then-one
unfolding block_text
returns-then-one c = record {
  put = put_same (ap (block_text c.args.steps c.args.current) (sym c.if-one.true))
      (put_then c.put_word-next.ensures (put_then c.put_count_behind-next.ensures.put (put_then c.put_real_behind-next.ensures.put c.put_word.ensures (omega arith)) (omega arith)) (omega arith));
  upper_bound = omega arith;
}

pub returns-else-one : goal.returns-else-one
unfolding block_text
returns-else-one c = record {
  put = put_same (ap (block_text c.args.steps c.args.current) (sym c.if-one.false))
      (put_then c.put_word-next.ensures (put_then c.put_count_behind-next.ensures.put (put_then c.put_real_behind-next.ensures.put c.put_word-else-one.ensures (omega arith)) (omega arith)) (omega arith));
  upper_bound = omega arith;
}
