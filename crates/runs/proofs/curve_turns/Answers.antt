-- `runs::curve_turns` meets its contract. Assumes nothing.
use Rattle.std.proofs.Common.{◌≡◌, ◌+◌, ◌-◌, ◌*◌, ◌/◌, ◌≤◌, length, arith}
use Rattle.rules.specs.Samples.{curve_sample}
use Rattle.rules.specs.Walk.{from_start}
use Rattle.runs.proofs.Filling.{none_filled, turn_filled, left_filled}
use Rattle.runs.proofs.curve_turns.Goals as goal

pub loop-turn-init : goal.loop-turn-init
loop-turn-init c = let a = c.args in none_filled (from_start a.start_time a.intrinsic (curve_sample a.values.now a.start_time a.duration)) a.times.period a.times.first a.out.now

pub loop-turn-preserved : goal.loop-turn-preserved
loop-turn-preserved c =
    let a = c.args in
    let l = c.loop-turn in
    let r = c.curve_sixteen-t in
    let i = l.turn * 16 in
    let room : i + 16 ≤ length a.out.now = omega (arith, c.loop-turn-test.true) in
    let part : i + 16 - i ≡ 16 = omega arith in
    let next : (l.turn + 1) * 16 ≡ i + 16 = omega arith in
    turn_filled (from_start a.start_time a.intrinsic (curve_sample a.values.now a.start_time a.duration)) a.times.period a.times.first l.invariant 16 (i + 16 - i) ((l.turn + 1) * 16) part next room r.new.out r.ensures.0 _ r.ensures.1

pub returns : goal.returns
returns c =
    let a = c.args in
    let l = c.loop-turn in
    left_filled (from_start a.start_time a.intrinsic (curve_sample a.values.now a.start_time a.duration)) a.times.period a.times.first l.invariant (length l.out / 16 * 16) (omega (arith, l.auto, c.loop-turn-test.false)) c.curve_run.new.out c.curve_run.ensures
