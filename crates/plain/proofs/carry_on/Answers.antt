-- `carry_on` meets its contract: with the samples written, the block is the rules'. Assumes nothing.
use mathlib.Core.Path.{◌≡◌, ◌∙◌}
use native.Mathlib.Omega.{arith}
use Rattle.rules.specs.Block.{rests_for, says_one}
use Rattle.timeline.specs.Timeline.{first_of}
use Rattle.param.specs.Param.{param_of}
use Rattle.plain.proofs.Blocks.{carries}
use Rattle.plain.proofs.carry_on.Goals as goal

pub look_at-looked-requires : goal.look_at-looked-requires
look_at-looked-requires c = (c.requires, omega (arith, c.requires.some))

pub event_at-requires : goal.event_at-requires
event_at-requires c = c.requires.param

pub leaving-requires : goal.leaving-requires
leaving-requires c = (c.requires.param.neat, c.requires.room)

pub returns : goal.returns
returns c = λ call asked fine len out written.
    let a = c.args in
    let one : c.says_one.result ≡ says_one (param_of a.param).rate (rests_for a.infos (first_of (param_of a.param).queue)) call.input =
    c.says_one.ensures call.input len ∙ rw (c.automation_rate.ensures, c.rests_for-rests.ensures, c.event_at.ensures) in
    carries a.param a.infos a.store.now c.requires c.look_at-looked.ensures call asked fine one out written c.leaving.ensures
