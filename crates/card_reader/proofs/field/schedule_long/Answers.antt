-- `field::schedule_long` meets its contract. Assumes nothing.
use mathlib.Core.Path.{sym, ◌∙◌}
use native.Mathlib.Omega.{arith}
use lib.ListN.{replicate, length-replicate}
use Rattle.card_reader.proofs.Called.{does_long, alike_finite}
use Rattle.card_reader.proofs.field.schedule_long.Goals as goal

pub returns : goal.returns
returns c =
    let worst = c.args.worst in
    λ xs many same. does_long xs (replicate 4097 worst) many (omega (arith, length-replicate 4097 worst)) (sym same ∙ sym (alike_finite 4096 worst)) c.set_value_curve_at_time.ensures
