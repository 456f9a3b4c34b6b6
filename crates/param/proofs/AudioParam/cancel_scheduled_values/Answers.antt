-- `cancel_scheduled_values` meets its contract. Assumes nothing.
use Rattle.std.proofs.Common.{Option}
use Rattle.rules.specs.declared.Event.{Event}
use mathlib.Core.Bool.{Bool, cond}
use mathlib.Core.List.{List}
use mathlib.Core.Path.{◌≡◌, refl, sym, ap, ◌∙◌}
use Prim.Native.Nat.{◌≤◌}
use native.Mathlib.Omega.{arith}
use lib.Ieee.{Float}
use Rattle.rules.specs.Numbers.{store_length, taken_time}
use Rattle.rules.specs.Queue.{lengths_of, attached, cancelled, loses_head, returned, value_after_cancel}
use Rattle.rules.specs.Refusals.{lowest, cancel_rows}
use Rattle.rules.specs.Block.{called}
use Rattle.laws.proofs.Answers.{refused_called}
use Rattle.laws.proofs.Rows.{cancel_answered}
use Rattle.param.specs.Param.{param_of}
use Rattle.timeline.proofs.Heads.{head_attached}
use Rattle.param.proofs.Calls.{leaves, keeps}
use Rattle.param.proofs.AudioParam.cancel_scheduled_values.Goals as goal
use Rattle.param.proofs.AudioParam.cancel_scheduled_values.Goals.{After-cancel-verdict, Start}

-- the store that is lent
abbrev lent : Start → List Float
lent c = c.args.store.now

verdict : (c : After-cancel-verdict) → c.cancel-verdict.result ≡ lowest (cancel_rows (lent c.before.before.before) c.args.cancel_time)
verdict c = c.cancel-verdict.ensures (lent c.before.before.before) refl

pub cancel-q-requires : goal.cancel-q-requires
cancel-q-requires c =
    let start = (goal.at.cancel-q-requires c).Start in
    let r : lengths_of (param_of c.args.self).queue ≤ store_length = c.requires.sound.waiting.room in
    (c.requires.neat, omega (arith, (cancel_answered (lent start) c.args.cancel_time (sym (verdict (goal.at.cancel-q-requires c).After-cancel-verdict) ∙ c.in-Ok.is)).lent))

pub returns-in-Ok : goal.returns-in-Ok
unfolding called value_after_cancel
returns-in-Ok c =
    let start = (goal.at.returns-in-Ok c).Start in
    let p = c.args.self in
    let time = taken_time c.args.cancel_time in
    let ws = attached (param_of p).queue (lent start) in
    let lost = c.loses_head.ensures ∙ ap (λ (h : Option Event). loses_head c.taken_time-c.result p.end h) (c.peek.ensures ∙ sym (head_attached (param_of p).queue (lent start))) in
    let value = c.value_after-value.ensures ∙ ap (λ (b : Bool). cond b (returned p.last p.intrinsic) p.intrinsic) lost in
    leaves
    c.requires
    (cancelled time ws)
    (value_after_cancel time p.end ws p.last p.intrinsic)
    (rw (sym (verdict (goal.at.returns-in-Ok c).After-cancel-verdict) ∙ c.in-Ok.is))
    (cancel_answered (lent start) c.args.cancel_time (sym (verdict (goal.at.returns-in-Ok c).After-cancel-verdict) ∙ c.in-Ok.is)).lent
    (rw c.taken_time-c.ensures at c.cancel-q.ensures)
    (rw (value, c.taken_time-c.ensures) at c.answered.ensures)

pub returns-in-Err : goal.returns-in-Err
unfolding called
returns-in-Err c =
    keeps
    c.requires
    (refused_called _ _ _ _ _ _ (sym (verdict (goal.at.returns-in-Err c).After-cancel-verdict) ∙ c.in-Err.is))
    (rw c.in-Err.is)
