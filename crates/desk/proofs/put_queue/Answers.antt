-- `desk::put_queue` meets its contract. The invariant of its loop: with the events left written behind, all are written. Assumes nothing.
use mathlib.Core.Path.{refl, sym}
use Prim.Native.Nat.{◌≤◌}
use native.Mathlib.Omega.{arith}
use lib.ListN.{length}
use borrow.Author.Rules.{rules}
use Rattle.rules.specs.Queue.{lengths_of}
use Rattle.param.specs.Param.{param_of}
use Rattle.text.proofs.Writing.{put-nothing, put_same, put_then}
use Rattle.desk.proofs.Queues.{next_text, next_width, last_text_lem, all_width}
use Rattle.desk.proofs.put_queue.Goals as goal

pub len-i-end-requires : goal.len-i-end-requires
len-i-end-requires c = c.requires.0

pub loop-i-init : goal.loop-i-init
unfolding lengths_of
loop-i-init c =
    let a = c.requires.0.sound.waiting in
    (search rules, refl, omega (arith, all_width (param_of c.args.p).queue a.few a.room), λ F r p. p)

pub put_waiting-next-requires : goal.put_waiting-next-requires
put_waiting-next-requires c =
    let a = c.requires in
    (a.0, a.1, omega (arith, a.2, c.loop-i.invariant.1, c.loop-i.invariant.2, next_width (param_of c.args.p).queue c.loop-i.i (omega (arith, c.len-i-end.ensures))))

pub loop-i-preserved : goal.loop-i-preserved
loop-i-preserved c =
    let l = c.loop-i in
    let w = next_width (param_of c.args.p).queue l.i (omega (arith, c.len-i-end.ensures)) in (
      omega (arith, c.len-i-end.ensures),
      omega (arith, l.invariant.1, c.put_waiting-next.auto.out),
      omega (arith, l.invariant.2, w, c.put_waiting-next.ensures.upper_bound),
      λ F r p. l.invariant.3 F r (put_same (sym (next_text (param_of c.args.p).queue l.i c.args.store.now)) (put_then c.put_waiting-next.ensures.put p (omega (arith, l.invariant.1, l.invariant.2, w, c.put_waiting-next.ensures.upper_bound, c.requires.2)))),
    )

pub returns : goal.returns
returns c =
    let l = c.loop-i in
    let past : length (param_of c.args.p).queue ≤ l.i = omega (arith, c.len-i-end.ensures) in
    record {
      put = l.invariant.3 _ _ (put_same (sym (last_text_lem (param_of c.args.p).queue l.i _ past)) (put-nothing _ _));
      upper_bound = omega (arith, l.invariant.2);
    }
