-- `runs::target_parts` meets its contract. Assumes nothing.
use Rattle.std.proofs.Common.{◌≡◌, ◌+◌, ◌-◌, ◌*◌, ◌≤◌, length, ◌∙◌, arith}
use borrow.Rule.Slice.PartMut.{mid_of, mid_len}
use Rattle.samples.specs.At.{target_at}
use Rattle.rules.specs.Walk.{from_start}
use Rattle.runs.proofs.Filling.{none_filled, turn_filled, left_filled}
use Rattle.runs.proofs.target_parts.Goals as goal

pub loop-part-init : goal.loop-part-init
loop-part-init c = let a = c.args in none_filled (from_start a.start a.intrinsic (target_at a.start a.constant a.line.«c» a.line.a)) a.times.period a.times.first a.out.now

pub loop-part-preserved : goal.loop-part-preserved
loop-part-preserved c =
    let a = c.args in
    let l = c.loop-part in
    let r = c.target_finite in
    let i = l.part * 128 in
    let room : i + 128 ≤ length a.out.now = omega (arith, c.loop-part-test.true, c.saturating_sub-before.ensures) in
    let part : i + 128 - i ≡ 128 = omega arith in
    let next : (l.part + 1) * 128 ≡ i + 128 = omega arith in
    let long : length (mid_of i (i + 128 - i) l.out) ≡ 128 = mid_len i (i + 128) l.out (omega (arith, l.auto.out, room)) ∙ part in
    turn_filled (from_start a.start a.intrinsic (target_at a.start a.constant a.line.«c» a.line.a)) a.times.period a.times.first l.invariant 128 (i + 128 - i) ((l.part + 1) * 128) part next room r.new.out (r.ensures ∙ rw long) _ c.part_later-next.ensures

pub returns : goal.returns
returns c =
    let a = c.args in
    let l = c.loop-part in
    left_filled (from_start a.start a.intrinsic (target_at a.start a.constant a.line.«c» a.line.a)) a.times.period a.times.first l.invariant _ (omega (arith, l.auto, c.loop-part-test.false)) c.target_finite-2.new.out c.target_finite-2.ensures
