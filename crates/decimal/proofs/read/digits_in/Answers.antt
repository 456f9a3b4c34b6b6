-- `decimal::read::digits_in` meets its contract: the digits before the point, then those behind it. Assumes nothing.
use Rattle.std.proofs.Common.{◌≡◌, ℕ, suc, ◌+◌, ◌-◌, length, sym, ap, ◌∙◌, arith, length-take-le}
use Rattle.decimal.proofs.Reading.{no_digits, digits_none, digits_behind, below_most}
use Rattle.decimal.proofs.read.digits_in.Goals as goal

pub overflow_add-point : goal.overflow_add-point
overflow_add-point c = omega (arith, c.places_behind-places.ensures)

pub returns-then-point-places-eq0 : goal.returns-then-point-places-eq0
returns-then-point-places-eq0 c =
    let e : c.args.point + (length c.args.word.now - suc c.args.point) ≡ 0 = ap (λ (k : ℕ). c.args.point + k) (sym c.places_behind-places.ensures) ∙ c.if-point-places-eq0.true in
    sym (no_digits _ _ c.requires.0 c.requires.1 e)

pub slice_bounds-counted-end : goal.slice_bounds-counted-end
slice_bounds-counted-end c = sym (length-take-le _ _ c.requires.1)

pub returns-in_err-whole : goal.returns-in_err-whole
returns-in_err-whole c =
    let some_digits = c.if-point-places-eq0.false in
    let b = c.places_behind-places.ensures in
    let n : c.args.point + (length c.args.word.now - suc c.args.point) ≡ 0 → ⊥ = λ e. some_digits (ap (λ (k : ℕ). c.args.point + k) b ∙ e) in
    c.from_residual.ensures ∙ sym (digits_none _ _ c.requires.0 c.requires.1 n (sym c.in_err-whole.ensures))

pub overflow_sub-from : goal.overflow_sub-from
overflow_sub-from c = omega (arith, c.places_behind-places.ensures)

pub counted-requires-2 : goal.counted-requires-2
counted-requires-2 c = below_most _ _ _ (sym c.in_ok-whole.ensures)

pub returns : goal.returns
returns c =
    let some_digits = c.if-point-places-eq0.false in
    let b = c.places_behind-places.ensures in
    let n : c.args.point + (length c.args.word.now - suc c.args.point) ≡ 0 → ⊥ = λ e. some_digits (ap (λ (k : ℕ). c.args.point + k) b ∙ e) in
    c.counted-2.ensures
    ∙ sym (digits_behind _ _ c.requires.0 c.requires.1 n _ _ (ap (λ (k : ℕ). length c.args.word.now - k) b) (sym c.in_ok-whole.ensures))
