-- `words::word_at` meets its contract. The invariant of its loop: the number of the bytes taken so far, which are those behind the place i. Assumes nothing.
use mathlib.Core.Path.{◌≡◌, sym, ◌∙◌}
use Prim.Native.Nat.{◌+◌, ◌-◌, ◌^◌, ◌≤◌, ◌<◌}
use native.Mathlib.Nat.{lt_of_lt_of_le, pow-le-pow_right}
use native.Mathlib.Omega.{arith}
use lib.ListN.{get_or}
use Rattle.words.proofs.Bytes.{are_bytes, word_at_small}
use Rattle.words.proofs.Turns.{no_word, word_turn}
use Rattle.words.proofs.word_at.Goals as goal
use Rattle.words.proofs.word_at.Goals.{After-shared_slice_known-1}

-- in a turn the bytes taken are seven at most, and the next is a byte
room : (c : After-shared_slice_known-1) → (c.loop-i.v < 256 ^ 7) × (get_or c.args.bytes.now (c.args.at + (c.loop-i.i - 1)) 0 < 256)
room c =
    let a = c.args in
    let l = c.loop-i in
    let known = c.shared_slice_known-1.given in
    let seven : a.k - l.i ≤ 7 = omega arith in (
      rw l.invariant (lt_of_lt_of_le (word_at_small (a.k - l.i) a.bytes.now (a.at + l.i) (are_bytes a.bytes.now (λ i. (known i).fits))) (pow-le-pow_right (omega arith) seven)),
      (known (a.at + (l.i - 1))).fits,
    )

pub loop-i-init : goal.loop-i-init
loop-i-init c =
    let none : c.args.k - c.args.k ≡ 0 = omega arith in
    (rw none (sym (no_word c.args.bytes.now (c.args.at + c.args.k))))

pub overflow_cast-v : goal.overflow_cast-v
overflow_cast-v c = omega (arith, room c)

pub overflow_mul-v : goal.overflow_mul-v
overflow_mul-v c = omega (arith, room c)

pub overflow_add-v-in-loop-i : goal.overflow_add-v-in-loop-i
overflow_add-v-in-loop-i c = omega (arith, room c)

pub loop-i-preserved : goal.loop-i-preserved
loop-i-preserved c =
    let l = c.loop-i in
    (rw l.invariant (word_turn c.args.k c.args.bytes.now c.args.at l.i c.loop-i-test.true l.auto.i c.requires.1))

pub returns : goal.returns
returns c =
    let a = c.args in
    let l = c.loop-i in
    let all : a.k - l.i ≡ a.k = omega arith in
    let first : a.at + l.i ≡ a.at = omega arith in
    l.invariant ∙ rw (all, first)
