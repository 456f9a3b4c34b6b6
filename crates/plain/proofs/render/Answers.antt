-- `render` meets its contract: the first places have their samples. Assumes nothing.
use mathlib.Core.Path.{◌≡◌, refl, ◌∙◌}
use Prim.Native.Nat.{◌<◌}
use native.Mathlib.Omega.{arith}
use lib.ListN.{length, get_or}
use lib.Ieee as Ieee
use lib.Ieee.{nan}
use Rattle.rules.specs.Numbers.{plus_zero}
use Rattle.rules.specs.Mix.{inputs}
use Rattle.mix.proofs.Writes.{begins, goes_on, ends}
use Rattle.block.proofs.Tests.{not_silent, fits_whole}
use Rattle.plain.specs.Seen.{samples_of}
use Rattle.plain.proofs.Blocks.{lookable, place_inside, silent_at, input_at, samples_many, sample_is, all-written}
use Rattle.plain.proofs.render.Goals as goal
use Rattle.plain.proofs.render.Goals.{Then-input-gt0, else-input-gt0, then-input-gt0}

-- an input that is there is there at the place of the look
in_input : (k : Then-input-gt0) → k.look_at-looked.result.look.place < length k.args.input.now
in_input k =
    let l = k.loop-place in
    let a = k.args in
    let w : length a.input.now ≡ a.infos.count = fits_whole a.input.now a.infos.count k.requires.fits.lent (not_silent a.input.now (λ z. omega (arith, k.if-input-gt0.true))) in
    let h : l.place < a.infos.count = omega arith in
    let i = place_inside a.infos l.place h in
    rw k.look_at-looked.ensures.place (omega (arith, i))

pub loop-place-init : goal.loop-place-init
loop-place-init c = let a = c.args in
    (begins (samples_of a.param a.infos a.input.now a.store.now) a.infos.count a.output.now (samples_many a.param a.infos a.input.now a.store.now c.requires.fits.lent) c.requires.fits.room, refl)

pub look_at-looked-requires : goal.look_at-looked-requires
look_at-looked-requires c = (lookable c.requires, omega arith)

pub offset_bounds-input-at : goal.offset_bounds-input-at
offset_bounds-input-at c = omega (arith, in_input c)

pub bounds-input-at : goal.bounds-input-at
bounds-input-at c = in_input (goal.at.bounds-input-at c).Then-input-gt0

pub offset_bounds-output-place : goal.offset_bounds-output-place
offset_bounds-output-place c = omega arith

pub bounds-output-place : goal.bounds-output-place
bounds-output-place c = omega arith

pub overflow_step-place : goal.overflow_step-place
overflow_step-place c = omega arith

pub loop-place-smaller : goal.loop-place-smaller
loop-place-smaller c = omega arith

pub loop-place-preserved : goal.loop-place-preserved
unfolding Ieee.of_bits
loop-place-preserved c = let l = c.loop-place in
    let a = c.args in
    let p = c.requires in
    let h : l.place < a.infos.count = omega arith in
    let looks = c.look_at-looked.ensures in
    let added : c.if-input-gt0.added ≡ get_or (inputs a.infos.rate a.infos.count a.input.now) l.place nan =
    (elim c.if-input-gt0.branch [ then-input-gt0 came ↦ came.added-is ∙ rw looks.place (input_at a.infos.count l.place h a.infos.rate a.input.now came.if-input-gt0.true) | else-input-gt0 came ↦ came.added-is ∙ silent_at a.infos.count l.place h a.infos.rate a.input.now (omega (arith, came.if-input-gt0.false)) ]) in
    let value : c.mixed_value.result ≡ get_or (samples_of a.param a.infos a.input.now a.store.now) l.place plus_zero =
    c.mixed_value.ensures ∙ rw c.bounds.ensures (sample_is a.param a.infos a.input.now a.store.now p.fits.lent l.place h looks added) in
    (goes_on (samples_of a.param a.infos a.input.now a.store.now) a.infos.count a.output.now l.place l.output l.invariant.0 c.mixed_value.result h value, l.invariant.1)

pub shape_of-output : goal.shape_of-output
shape_of-output c = c.loop-place.invariant.0.whole

pub returns : goal.returns
returns c = let l = c.loop-place in
    let a = c.args in
    all-written a.param a.infos a.input.now a.store.now c.requires.fits.lent a.output.now (ends (samples_of a.param a.infos a.input.now a.store.now) a.infos.count a.output.now l.place l.output l.invariant.0 (omega arith))
