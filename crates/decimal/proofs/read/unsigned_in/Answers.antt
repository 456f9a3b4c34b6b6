-- `decimal::read::unsigned_in` meets its contract: the digits up to an `e`, the places behind their point, and the tens. Assumes nothing.
use Rattle.std.proofs.Common.{ap, ◌≡◌, suc, ◌-◌, length, take, drop, sym, refl, ◌∙◌, arith, length-take-le}
use Rattle.std.specs.Prelude.{Some}
use Rattle.decimal.specs.Decimals.{digits_in, tens_in, scaled, unsigned_in}
use Rattle.decimal.proofs.Reading.{digits_below, point_is, unsigned_by, scaled-same}
use Rattle.decimal.proofs.read.unsigned_in.Goals as goal
use Rattle.decimal.proofs.read.unsigned_in.Goals.{After-find-point, In_ok-d}

-- by the places that were found
parts : (c : After-find-point)
    → unsigned_in c.args.minus c.args.word.now
    ≡ scaled c.args.minus (c.find-end.result - suc c.find-point.result) (digits_in (take c.find-end.result c.args.word.now))
    (tens_in (take (length c.args.word.now - c.find-end.result) (drop c.find-end.result c.args.word.now)))
parts c = unsigned_by _ _ _ _ c.find-lower.ensures.0 c.find-end.ensures.0 c.find-point.ensures.0 _

-- with the digits read
digits : (c : In_ok-d) → digits_in (take c.find-end.result c.args.word.now) ≡ Some c.in_ok-d.d
digits c = sym c.in_ok-d.ensures

pub slice_bounds-digits-end : goal.slice_bounds-digits-end
slice_bounds-digits-end c = sym (length-take-le _ _ (omega arith))

pub find-point-requires : goal.find-point-requires
find-point-requires c = omega (arith, length-take-le c.find-end.result c.args.word.now (omega arith))

pub digits_in-requires : goal.digits_in-requires
digits_in-requires c = (
  point_is _ _ _ _ c.find-lower.ensures.0 c.find-end.ensures.0 c.find-point.ensures.0,
  omega (arith, length-take-le c.find-end.result c.args.word.now (omega arith)),
)

pub returns-in_err-d : goal.returns-in_err-d
unfolding scaled
returns-in_err-d c = c.from_residual.ensures ∙ sym (parts (goal.at.returns-in_err-d c).After-find-point ∙ scaled-same _ refl (sym c.in_err-d.ensures) refl)

pub scaled_by-requires : goal.scaled_by-requires
scaled_by-requires c = digits_below _ _ (digits (goal.at.scaled_by-requires c).In_ok-d)

pub lowered-requires : goal.lowered-requires
lowered-requires c = digits_below _ _ (digits (goal.at.lowered-requires c).In_ok-d)

pub returns-in-Up : goal.returns-in-Up
unfolding scaled
returns-in-Up c =
    let k = goal.at.returns-in-Up c in
    c.scaled_by.ensures ∙ sym (parts k.After-find-point ∙ scaled-same _ (sym c.places_behind-places.ensures) (digits k.In_ok-d) (sym c.in_ok-tens.ensures ∙ ap Some c.in-Up.is))

pub returns-in-Down : goal.returns-in-Down
unfolding scaled
returns-in-Down c =
    let k = goal.at.returns-in-Down c in
    c.lowered.ensures ∙ sym (parts k.After-find-point ∙ scaled-same _ (sym c.places_behind-places.ensures) (digits k.In_ok-d) (sym c.in_ok-tens.ensures ∙ ap Some c.in-Down.is))

pub returns-in_err-tens : goal.returns-in_err-tens
unfolding scaled
returns-in_err-tens c =
    let k = goal.at.returns-in_err-tens c in
    c.from_residual-in_err-tens.ensures
    ∙ sym (parts k.After-find-point ∙ scaled-same _ (sym c.places_behind-places.ensures) (digits k.In_ok-d) (sym c.in_err-tens.ensures))
