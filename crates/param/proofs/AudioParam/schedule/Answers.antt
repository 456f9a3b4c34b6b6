-- `schedule` meets its contract: a refused call gives back the parameter that it was given. Assumes nothing.
use Rattle.std.proofs.Common.{Err}
use mathlib.Core.Path.{ap, ◌∙◌}
use Prim.Native.Nat.{◌<◌}
use native.Mathlib.Omega.{arith}
use lib.ListN.{length}
use Rattle.rules.specs.Numbers.{most_events}
use Rattle.rules.specs.Block.{scheduled_as}
use Rattle.param.specs.declared.AudioParam.{AudioParam}
use Rattle.param.specs.Param.{param_of}
use Rattle.param.proofs.Calls.{whole, counted}
use Rattle.param.proofs.AudioParam.schedule.Goals as goal

pub push-requires : goal.push-requires
push-requires c =
    let p = c.args.self in
    let few : length (param_of p).queue < most_events = c.requires.1 c.in-Ok.is in
    (c.requires.0.neat, omega (arith, counted p c.requires.0))

pub returns-in-Ok : goal.returns-in-Ok
unfolding scheduled_as
returns-in-Ok c = c.answered.ensures ∙ rw (c.in-Ok.is, c.push.ensures)

pub returns-in-Err : goal.returns-in-Err
unfolding scheduled_as
returns-in-Err c =
    rw c.in-Err.is
    (ap (λ (p : AudioParam). record { verdict = Err c.in-Err.field-0; param = p }) (whole c.args.self c.requires.0))
