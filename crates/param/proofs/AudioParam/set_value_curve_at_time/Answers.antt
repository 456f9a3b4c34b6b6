-- `set_value_curve_at_time` meets its contract. Assumes nothing.
use Rattle.std.proofs.Common.{Result}
use Rattle.rules.specs.declared.Refusal.{Refusal}
use mathlib.Core.List.{List}
use mathlib.Core.Path.{◌≡◌, refl, sym, ◌∙◌}
use native.Mathlib.Omega.{arith}
use lib.Ieee.{Float}
use Rattle.rules.specs.declared.Event.{Event}
use Rattle.rules.specs.Numbers.{taken_time}
use Rattle.rules.specs.Queue.{attached, inserted}
use Rattle.rules.specs.Refusals.{lowest, curve_rows}
use Rattle.rules.specs.Block.{called}
use Rattle.laws.proofs.Answers.{refused_called}
use Rattle.laws.proofs.Rows.{curve_answered}
use Rattle.curves.specs.Curves.{curve_of}
use Rattle.param.specs.Param.{param_of}
use Rattle.param.proofs.Calls.{counted, crowded, leaves, keeps}
use Rattle.param.proofs.AudioParam.set_value_curve_at_time.Goals as goal
use Rattle.param.proofs.AudioParam.set_value_curve_at_time.Goals.{After-curve-verdict, Start}

-- what the call is given
abbrev queue : Start → List Event
queue c = (param_of c.args.self).queue

abbrev lent : Start → List Float
lent c = c.args.store.now

abbrev numbers : Start → List Float
numbers c = c.args.values.now

-- its verdict
abbrev Said : Start → Result Unit Refusal → Type 0
Said c v = v ≡ lowest (curve_rows (queue c) (lent c) c.args.start_time c.args.duration (numbers c))

verdict : (c : After-curve-verdict) → Said c.before.before.before.before.before.before.before.before.before c.curve-verdict.result
verdict c =
    let start = c.before.before.before.before.before.before.before.before.before in
    let room = crowded (queue start) (numbers start) start.requires.sound.waiting.room c.lengths.ensures in
    let crossed = rw c.taken_time-start.ensures at c.is_crossed-crossed.ensures in
    c.curve-verdict.ensures (queue start) (lent start) crossed c.is_full-full.ensures room refl

pub insert-q-requires : goal.insert-q-requires
insert-q-requires c =
    let start = (goal.at.insert-q-requires c).Start in
    let given = curve_answered (queue start) (lent start) _ _ (numbers start) (sym (sym c.in-Ok.is ∙ verdict (goal.at.insert-q-requires c).After-curve-verdict)) in
    (c.requires.neat, omega (arith, given.scheduled.few, counted c.args.self c.requires), omega (arith, given.room, given.lent))

pub returns-in-Ok : goal.returns-in-Ok
unfolding called
returns-in-Ok c =
    let start = (goal.at.returns-in-Ok c).Start in
    let given = sym (sym c.in-Ok.is ∙ verdict (goal.at.returns-in-Ok c).After-curve-verdict) in
    leaves
    c.requires
    (inserted (curve_of (taken_time c.args.start_time) c.args.duration (numbers start)) (attached (queue start) (lent start)))
    c.args.self.intrinsic
    (rw given)
    (curve_answered (queue start) (lent start) _ _ (numbers start) given).lent
    (rw c.taken_time-start.ensures at c.insert-q.ensures)
    c.answered.ensures

pub returns-in-Err : goal.returns-in-Err
unfolding called
returns-in-Err c =
    keeps
    c.requires
    (refused_called _ _ _ _ _ _ (sym (verdict (goal.at.returns-in-Err c).After-curve-verdict) ∙ c.in-Err.is))
    (rw c.in-Err.is)
