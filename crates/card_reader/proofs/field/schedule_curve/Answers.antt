-- `field::schedule_curve` meets its contract: its numbers read, or, where there are too many, others that are refused alike. Assumes nothing.
use mathlib.Core.Path.{◌≡◌, refl, sym, ap, ◌∙◌}
use mathlib.Core.List.{List}
use Prim.Native.Nat.{ℕ, ◌+◌, ◌-◌, ◌*◌, ◌/◌, ◌≤◌}
use native.Mathlib.Omega.{arith}
use lib.ListN.{length, length-append}
use lib.Seq.{length-take-le, take_at}
use Rattle.words.specs.Words.{singles_at}
use Rattle.words.proofs.Bytes.{length-singles}
use Rattle.card.specs.Card.{length_in, numbers_in}
use Rattle.card.proofs.Fields.{whole_parts, curve_room}
use Rattle.card_reader.proofs.Called.{does_curve}
use Rattle.card_reader.proofs.field.schedule_curve.Goals as goal
use Rattle.card_reader.proofs.field.schedule_curve.Goals.{After-read_singles, Start}

-- the numbers fill the field
full : (s : Start) → 19 + 4 * numbers_in s.args.bytes.now ≤ length s.args.bytes.now
full s =
    let bytes = s.args.bytes.now in
    omega (arith, (curve_room bytes s.requires.1.whole s.requires.1.right s.requires.2).1, (whole_parts bytes s.requires.1.whole).1)

count : (bytes : List ℕ) {n : ℕ} → n ≡ length_in bytes → (n - 16) / 4 ≡ numbers_in bytes
unfolding numbers_in
count bytes e = ap (λ (n : ℕ). (n - 16) / 4) e

-- what is read
numbers : (c : After-read_singles) → let bytes = c.args.bytes.now in c.read_singles.new.values ≡ singles_at bytes 19 (numbers_in bytes)
numbers c =
    let bytes = c.args.bytes.now in
    c.read_singles.ensures ∙ ap (singles_at bytes 19) (length-take-le _ _ c.if-n-gt-STORE.false ∙ count bytes c.length_in.ensures.0)

long : (c : After-read_singles) → length c.read_singles.new.values ≡ (c.length_in.result - 16) / 4
long c =
    let bytes = c.args.bytes.now in
    ap length (numbers c) ∙ length-singles bytes 19 (numbers_in bytes) ∙ sym (count bytes c.length_in.ensures.0)

pub real_at-start-requires : goal.real_at-start-requires
real_at-start-requires c = omega (arith, full (goal.at.real_at-start-requires c).Start)

pub real_at-duration-requires : goal.real_at-duration-requires
real_at-duration-requires c = omega (arith, full (goal.at.real_at-duration-requires c).Start)

pub length_in-requires : goal.length_in-requires
length_in-requires c = omega (arith, full (goal.at.length_in-requires c).Start)

pub overflow_sub-n : goal.overflow_sub-n
overflow_sub-n c =
    omega (arith, c.length_in.ensures.0, (curve_room c.args.bytes.now c.requires.1.whole c.requires.1.right c.requires.2).0)

pub worst_of-worst-requires : goal.worst_of-worst-requires
worst_of-worst-requires c = rw (count c.args.bytes.now c.length_in.ensures.0) (full (goal.at.worst_of-worst-requires c).Start)

pub returns-then-n-gt-STORE : goal.returns-then-n-gt-STORE
returns-then-n-gt-STORE c =
    let bytes = c.args.bytes.now in
    let numbers = singles_at bytes 19 (numbers_in bytes) in
    does_curve bytes c.requires.2 c.real_at-start.ensures c.real_at-duration.ensures refl
    (c.schedule_long.ensures numbers (omega (arith, length-singles bytes 19 (numbers_in bytes), count bytes c.length_in.ensures.0, c.if-n-gt-STORE.true)) (rw (count bytes c.length_in.ensures.0) at c.worst_of-worst.ensures))

pub slice_bounds-read_singles-end : goal.slice_bounds-read_singles-end
slice_bounds-read_singles-end c = sym (length-take-le _ _ c.if-n-gt-STORE.false)

pub read_singles-requires : goal.read_singles-requires
read_singles-requires c = rw (length-take-le _ _ c.if-n-gt-STORE.false, count c.args.bytes.now c.length_in.ensures.0) (full (goal.at.read_singles-requires c).Start)

pub slice_bounds-values-end-2 : goal.slice_bounds-values-end-2
slice_bounds-values-end-2 c = rw (length-append c.read_singles.new.values _) (omega (arith, long (goal.at.slice_bounds-values-end-2 c).After-read_singles))

pub slice_bounds-set_value_curve_at_time-end : goal.slice_bounds-set_value_curve_at_time-end
slice_bounds-set_value_curve_at_time-end c = sym (length-take-le _ _ (rw (length-append c.read_singles.new.values _) (omega (arith, long (goal.at.slice_bounds-set_value_curve_at_time-end c).After-read_singles))))

pub returns : goal.returns
returns c =
    let r = (goal.at.returns c).After-read_singles in
    does_curve c.args.bytes.now c.requires.2 c.real_at-start.ensures c.real_at-duration.ensures (take_at _ _ _ (long r) ∙ numbers r)
    c.set_value_curve_at_time.ensures
