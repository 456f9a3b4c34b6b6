-- `process` meets its contract, refused and answered. Assumes nothing.
use mathlib.Core.Path.{◌≡◌, refl}
use mathlib.Core.List.{List}
use native.Mathlib.Omega.{arith}
use lib.Ieee.{Float}
use Rattle.rules.specs.Block.{Call, verdict_of}
use Rattle.block.specs.Asked.{asked}
use Rattle.param.specs.Param.{param_of}
use Rattle.param.proofs.Plays.{few, playable, refuses, plays}
use Rattle.param.proofs.AudioParam.process.Goals as goal
use Rattle.param.proofs.AudioParam.process.Goals.{After-verdict-verdict, Start}

-- what is asked
abbrev call : Start → Call
call start =
    let a = start.args in
    asked a.block_time a.period a.count a.input.now a.output.now

abbrev store : Start → List Float
store start = start.args.store.now

verdict : (c : After-verdict-verdict)
    → let start = c.before.before.before.before.before.before in
    c.verdict-verdict.result ≡ verdict_of (param_of start.args.self) (store start) (call start)
unfolding verdict_of
verdict c = rw (← c.ceiling_of.ensures) (c.verdict-verdict.ensures _ _ _ refl refl refl)

pub returns-in_default : goal.returns-in_default
returns-in_default c =
    let start = (goal.at.returns-in_default c).Start in
    refuses c.args.self (store start) (call start) c.requires (verdict (goal.at.returns-in_default c).After-verdict-verdict) c.in_default.is c.refused_block.ensures

pub infos_of-infos-requires : goal.infos_of-infos-requires
infos_of-infos-requires c =
    let start = (goal.at.infos_of-infos-requires c).Start in
    omega (arith, few c.args.self (store start) (call start) c.requires (verdict (goal.at.infos_of-infos-requires c).After-verdict-verdict) c.in-Ok.is)

pub play-played-requires : goal.play-played-requires
play-played-requires c =
    let start = (goal.at.play-played-requires c).Start in
    playable c.args.self (store start) (call start) c.requires (verdict (goal.at.play-played-requires c).After-verdict-verdict) c.in-Ok.is (c.infos_of-infos.ensures _ _)

pub staying-requires : goal.staying-requires
staying-requires c =
    let start = (goal.at.staying-requires c).Start in
    (c.requires.neat, (playable c.args.self (store start) (call start) c.requires (verdict (goal.at.staying-requires c).After-verdict-verdict) c.in-Ok.is (c.infos_of-infos.ensures _ _)).room, c.if-played-eq0.true)

pub returns-then-played-eq0 : goal.returns-then-played-eq0
returns-then-played-eq0 c =
    let start = (goal.at.returns-then-played-eq0 c).Start in
    plays c.args.self (store start) (call start) c.requires (verdict (goal.at.returns-then-played-eq0 c).After-verdict-verdict) c.in-Ok.is (c.infos_of-infos.ensures _ _) c.play-played.ensures c.staying.ensures

pub leaving-requires : goal.leaving-requires
leaving-requires c =
    let start = (goal.at.leaving-requires c).Start in
    (c.requires.neat, (playable c.args.self (store start) (call start) c.requires (verdict (goal.at.leaving-requires c).After-verdict-verdict) c.in-Ok.is (c.infos_of-infos.ensures _ _)).room)

pub returns : goal.returns
returns c =
    let start = (goal.at.returns c).Start in
    plays c.args.self (store start) (call start) c.requires (verdict (goal.at.returns c).After-verdict-verdict) c.in-Ok.is (c.infos_of-infos.ensures _ _) c.play-played.ensures c.leaving.ensures
