-- `answers::put_state` meets its contract: one field behind the other. Assumes nothing.
use native.Mathlib.Omega.{arith}
use Rattle.text.proofs.Writing.{put_then}
use Rattle.answers.specs.Answers.{state_text}
use Rattle.answers.proofs.put_state.Goals as goal

pub returns : goal.returns
unfolding state_text
returns c =
    let room = c.requires in
    record {
      put = put_then c.put_word-next.ensures
          (put_then c.put_kind-next.ensures.put
          (put_then c.put_bounds-next.ensures.put
          (put_then c.put_real_behind-next.ensures.put
          (put_then c.put_span-next.ensures.put
          (put_then c.put_last-next.ensures.put c.put_count_behind.ensures.put
          (omega (arith, room))) (omega (arith, room))) (omega (arith, room))) (omega (arith, room))) (omega (arith, room))) (omega (arith, room));
      upper_bound = omega arith;
    }
