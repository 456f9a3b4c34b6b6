-- `CardReader::take_fields` meets its contract. The invariant of its loop: what is left, read by the reader so far, gives what all gives. Assumes nothing.
use mathlib.Core.Path.{◌≡◌, refl, ◌∙◌}
use mathlib.Core.Bool.{true, false, ◌&&◌}
use mathlib.Core.List.{List}
use Prim.Native.Nat.{ℕ, ◌+◌, ◌-◌, ◌≤◌, ◌<◌}
use native.Mathlib.Nat.{le_refl}
use native.Mathlib.Omega.{arith}
use lib.ListN.{length, take, drop, length-drop}
use borrow.Author.Rules.{part_to_end}
use Rattle.refusals.proofs.Rows.{found}
use Rattle.laws.proofs.Tests.{both}
use Rattle.words.proofs.Bytes.{are_bytes, bytes_drop}
use Rattle.card.specs.Card.{is_accepted, field_length, is_whole}
use Rattle.card.proofs.Fields.{whole_parts}
use Rattle.card_reader.proofs.Taking.{taken-turn, taken_waits, taken_stops, unfinished}
use Rattle.card_reader.proofs.CardReader.take_fields.Goals as goal
use Rattle.card_reader.proofs.CardReader.take_fields.Goals.{After-field_length-used, After-loop-numbers, In-loop-numbers}

-- the bytes that are left go up to the end
left : (bytes : List ℕ) (used : ℕ) → take (length bytes - used) (drop used bytes) ≡ drop used bytes
left bytes used = part_to_end bytes used

-- ---- a turn: the reader goes on, with a whole field

on : (c : In-loop-numbers) → (is_accepted c.loop-numbers.reader.verdict ≡ true) × (is_whole (drop c.loop-numbers.used c.args.bytes.now) ≡ true)
on c = both _ _ (rw (left c.args.bytes.now c.loop-numbers.used) at (found c.goes_on.ensures c.loop-numbers-test.true))

module _ (c : After-field_length-used) where
  abbrev rest : List ℕ
  rest = drop c.loop-numbers.used c.args.bytes.now

  went_on : (is_accepted c.loop-numbers.reader.verdict ≡ true) × (is_whole rest ≡ true)
  went_on = both _ _ (rw (left c.args.bytes.now c.loop-numbers.used) at (found c.goes_on.ensures c.loop-numbers-test.true))

  size : c.field_length-used.result ≡ field_length rest
  size = rw (left c.args.bytes.now c.loop-numbers.used) at c.field_length-used.ensures.0

  inside : (c.loop-numbers.used + c.field_length-used.result ≤ length c.args.bytes.now) × (0 < c.field_length-used.result)
  unfolding field_length
  inside = omega (arith, size, (whole_parts rest went_on.1).1, length-drop c.loop-numbers.used c.args.bytes.now, c.loop-numbers.invariant.0)

-- ---- behind the loop: it does not

stops : (c : After-loop-numbers) → (is_accepted c.loop-numbers.reader.verdict && is_whole (drop c.loop-numbers.used c.args.bytes.now)) ≡ false
stops c = rw (left c.args.bytes.now c.loop-numbers.used) at (found c.goes_on.ensures c.loop-numbers-test.false)

pub loop-numbers-init : goal.loop-numbers-init
loop-numbers-init c = (omega arith, c.requires.0, refl)

pub field_turn-reader-requires : goal.field_turn-reader-requires
field_turn-reader-requires c =
    (c.loop-numbers.invariant.1, rw (left c.args.bytes.now c.loop-numbers.used) (omega (arith, (whole_parts (drop c.loop-numbers.used c.args.bytes.now) (on (goal.at.field_turn-reader-requires c).In-loop-numbers).1).0)))

pub field_length-used-requires : goal.field_length-used-requires
field_length-used-requires c =
    let t = (goal.at.field_length-used-requires c).In-loop-numbers in
    rw (left c.args.bytes.now c.loop-numbers.used) (whole_parts (drop c.loop-numbers.used c.args.bytes.now) (on t).1).0

pub overflow_add-used : goal.overflow_add-used
overflow_add-used c = omega (arith, inside (goal.at.overflow_add-used c).After-field_length-used, c.well_formed)

pub loop-numbers-smaller : goal.loop-numbers-smaller
loop-numbers-smaller c = omega (arith, inside (goal.at.loop-numbers-smaller c).After-field_length-used)

pub loop-numbers-preserved : goal.loop-numbers-preserved
loop-numbers-preserved c =
    let t = (goal.at.loop-numbers-preserved c).After-field_length-used in
    let does = c.field_turn-reader.ensures in (
      (inside t).0,
      does.sound,
      c.loop-numbers.invariant.2 ∙ taken-turn c.args.bytes.now c.loop-numbers.used _ (went_on t).0 (went_on t).1 (size t) (rw (left c.args.bytes.now c.loop-numbers.used) at does.reader),
    )

pub returns-then-not-is_accepted : goal.returns-then-not-is_accepted
returns-then-not-is_accepted c =
    let e = (goal.at.returns-then-not-is_accepted c).After-loop-numbers in
    let refused = found c.is_accepted.ensures c.if-not-is_accepted.true in
    record {
      reading = taken_stops c.args.bytes.now c.loop-numbers.used _ c.loop-numbers.invariant.2 (stops e) refused;
      inside = le_refl _;
      stops = rw refused;
      short = omega arith;
      sound = c.loop-numbers.invariant.1;
    }

pub returns-else-not-is_accepted : goal.returns-else-not-is_accepted
returns-else-not-is_accepted c =
    let e = (goal.at.returns-else-not-is_accepted c).After-loop-numbers in
    let bytes = c.args.bytes.now in
    let kept = found c.is_accepted.ensures c.if-not-is_accepted.false in
    let known = bytes_drop c.loop-numbers.used bytes (are_bytes bytes (λ i. (c.shared_slice_known-1.given i).fits)) in
    record {
      reading = taken_waits bytes c.loop-numbers.used _ c.loop-numbers.invariant.2 (stops e) kept;
      inside = c.loop-numbers.invariant.0;
      stops = stops e;
      short = rw length-drop at (unfinished (drop c.loop-numbers.used bytes) known (rw kept at (stops e)));
      sound = c.loop-numbers.invariant.1;
    }
