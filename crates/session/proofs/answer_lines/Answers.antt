-- `session::answer_lines` meets its contract: with each line that is taken one more is answered, and fewer bytes are left. Assumes nothing.
use Rattle.std.proofs.Common.{arith, refl}
use Rattle.lines.proofs.Taking.{taken_in, rest_in, fewer_left, none_taken}
use Rattle.session.proofs.Steps.{none_answered, one_answered}
use Rattle.session.proofs.answer_lines.Goals as goal

pub loop-at-init : goal.loop-at-init
loop-at-init c = (c.requires, none_answered _ _ _ _ _ _ c.requires.desk, refl, refl, refl, refl)

pub overflow_sub-out : goal.overflow_sub-out
overflow_sub-out c = c.loop-at.invariant.0.lent.out_long

pub next_line-t-requires : goal.next_line-t-requires
next_line-t-requires c = c.loop-at.invariant.0.lines

pub answer_next-r-requires : goal.answer_next-r-requires
answer_next-r-requires c =
    let l = c.loop-at in
    (l.invariant.0.desk, taken_in _ _ l.invariant.0.lines c.next_line-t.ensures, l.invariant.0.lent, omega (arith, c.loop-at-test.true, l.invariant.0.lent.out_long))

pub loop-at-smaller : goal.loop-at-smaller
loop-at-smaller c = fewer_left _ _ c.loop-at.invariant.0.lines c.next_line-t.ensures c.if-rest-lines.false

pub loop-at-preserved : goal.loop-at-preserved
loop-at-preserved c =
    let l = c.loop-at in
    let r = c.answer_next-r in
    let k = r.auto in
    let more = c.loop-at-test.true in (
      record {
        desk = r.ensures.sound;
        lines = rest_in _ _ l.invariant.0.lines c.next_line-t.ensures;
        at = omega (arith, r.ensures.room, more, l.invariant.0.lent.out_long, k.out);
        lent = record {
          numbers_long = omega (arith, l.invariant.0.lent.numbers_long, k.numbers);
          file_long = omega (arith, l.invariant.0.lent.file_long, k.file);
          store_long = omega (arith, l.invariant.0.lent.store_long, k.store);
          out_long = omega (arith, l.invariant.0.lent.out_long, k.out);
        };
      },
      one_answered l.invariant.1 c.next_line-t.ensures r.ensures (omega (arith, l.invariant.0.at, l.invariant.5)) (omega (arith, r.ensures.room, more, l.invariant.0.lent.out_long, l.invariant.5)),
      omega (arith, l.invariant.2, k.numbers),
      omega (arith, l.invariant.3, k.file),
      omega (arith, l.invariant.4, k.store),
      omega (arith, l.invariant.5, k.out),
    )

pub returns-after-loop-at : goal.returns-after-loop-at
returns-after-loop-at c = let l = c.loop-at.invariant in
    record {
      going = l.0;
      through = l.1;
      lines_value = λ h. absurd (omega (arith, c.loop-at-test.false, l.5, h));
    }

pub returns-then-rest-lines : goal.returns-then-rest-lines
returns-then-rest-lines c = let l = c.loop-at.invariant in
    record {
      going = l.0;
      through = l.1;
      lines_value = λ h. none_taken _ _ l.0.lines c.next_line-t.ensures c.if-rest-lines.true;
    }
