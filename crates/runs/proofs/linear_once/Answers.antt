-- `runs::linear_once` meets its contract. Assumes nothing.
use Rattle.std.proofs.Common.{◌≡◌, ◌+◌, ◌-◌, ◌*◌, ◌/◌, ◌≤◌, length, arith}
use Rattle.samples.specs.At.{linear_at}
use Rattle.runs.proofs.Filling.{none_filled, turn_filled, left_filled}
use Rattle.runs.proofs.linear_once.Goals as goal

pub loop-turn-init : goal.loop-turn-init
loop-turn-init c = let a = c.args in none_filled (linear_at a.start_time a.duration a.line.«c» a.line.a) a.times.period a.times.first a.out.now

pub loop-turn-preserved : goal.loop-turn-preserved
loop-turn-preserved c =
    let a = c.args in
    let l = c.loop-turn in
    let r = c.linear_sixteen-t in
    let i = l.turn * 16 in
    let room : i + 16 ≤ length a.out.now = omega (arith, c.loop-turn-test.true) in
    let part : i + 16 - i ≡ 16 = omega arith in
    let next : (l.turn + 1) * 16 ≡ i + 16 = omega arith in
    turn_filled (linear_at a.start_time a.duration a.line.«c» a.line.a) a.times.period a.times.first l.invariant 16 (i + 16 - i) ((l.turn + 1) * 16) part next room r.new.out r.ensures.0 _ r.ensures.1

pub returns : goal.returns
returns c =
    let a = c.args in
    let l = c.loop-turn in
    left_filled (linear_at a.start_time a.duration a.line.«c» a.line.a) a.times.period a.times.first l.invariant (length l.out / 16 * 16) (omega (arith, l.auto, c.loop-turn-test.false)) c.linear_rest.new.out c.linear_rest.ensures
