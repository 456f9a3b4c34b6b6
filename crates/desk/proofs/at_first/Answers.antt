-- `desk::at_first` meets its contract: there is no such range. Assumes nothing.
use mathlib.Core.Path.{ap, ap₂, ◌∙◌}
use native.Mathlib.Omega.{arith}
use Rattle.rules.specs.Block.{Param}
use Rattle.costs.specs.declared.Totals.{Totals}
use Rattle.param.specs.declared.AudioParam.{AudioParam}
use Rattle.param.specs.Param.{struct_of}
use Rattle.desk.specs.Desk.{desk_of}
use Rattle.desk.proofs.Turns.{no_range}
use Rattle.desk.proofs.at_first.Goals as goal

pub returns : goal.returns
returns c =
    let made = c.new-r.ensures in
    (ap₂ (λ (p : AudioParam) (t : Totals). desk_of p 4096 t) (made.param ∙ ap (λ (p : Param). struct_of p) no_range) c.none.ensures, record { param = made.sound; lent = omega arith })
