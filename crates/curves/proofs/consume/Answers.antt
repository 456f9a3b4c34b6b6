-- `consume` meets its contract. Assumes nothing.
use mathlib.Core.Path.{◌≡◌, ap, ◌∙◌}
use Prim.Native.Nat.{ℕ, ◌-◌, ◌≤◌}
use native.Mathlib.Omega.{arith}
use lib.ListN.{length, take}
use Rattle.rules.specs.Queue.{lengths_of}
use Rattle.timeline.specs.Timeline.{made, waiting}
use Rattle.timeline.proofs.Laws.{count, offset_most}
use Rattle.curves.specs.Curves.{moved}
use Rattle.curves.proofs.Calls.{consumed-part, consumed_events, emptied_part, emptied_events}
use Rattle.curves.proofs.consume.Goals as goal

pub zero_behind-requires : goal.zero_behind-requires
zero_behind-requires c = omega arith

pub returns-then-len-n : goal.returns-then-len-n
returns-then-len-n c =
    let a = c.args in
    let q = waiting a.q in
    let h : length q ≤ a.n = omega (arith, count a.q c.requires.0, c.if-len-n.true) in
    record {
      queue = c.new.ensures ∙ ap made (emptied_events q a.part.now c.requires.1 a.n h);
      part = c.zero_behind.ensures ∙ emptied_part q a.part.now c.requires.1 a.n h;
    }

pub copy_within-requires-clause-start_le_end : goal.copy_within-requires-clause-start_le_end
copy_within-requires-clause-start_le_end c = let a = c.args in omega (arith, offset_most (waiting a.q) a.n)

pub overflow_sub-used : goal.overflow_sub-used
overflow_sub-used c = let a = c.args in omega (arith, offset_most (waiting a.q) a.n)

pub returns : goal.returns
returns c =
    let a = c.args in
    let q = waiting a.q in
    let o = a.part.now in
    let left : ℕ = c.lengths-used.result - c.offset_of-from.result in
    let u : left ≡ lengths_of q - lengths_of (take a.n q) = omega arith in
    record {
      queue = c.drop_heads.ensures ∙ ap made (consumed_events q o c.requires.1 a.n);
      part =
          c.zero_behind-2.ensures
          ∙ consumed-part q o c.requires.1 a.n c.copy_within.new.self left u
          (c.copy_within.ensures.after ∙ ap (λ (k : ℕ). moved o k 0 left) c.offset_of-from.ensures);
    }
