-- `desk::files::finish` meets its contract: what the reader ensures of the first 4,096 numbers, and the others cleared. Assumes nothing.
use mathlib.Core.Path.{refl, sym, ap, ◌∙◌}
use native.Mathlib.Omega.{arith}
use lib.ListN.{drop, length-drop}
use lib.Seq.{length-take-le}
use Rattle.costs.specs.declared.Totals.{Totals}
use Rattle.costs.specs.Costs.{plus}
use Rattle.costs.specs.Seen.{command_seen}
use Rattle.tally.specs.Tally.{kept}
use Rattle.desk.proofs.Schedules.{cleared_behind, answered_load, refused_load}
use Rattle.desk.proofs.files.finish.Goals as goal

pub slice_bounds-finish-end-2 : goal.slice_bounds-finish-end-2
slice_bounds-finish-end-2 c = sym (length-take-le 4096 c.args.store.now (omega (arith, c.requires.3)))

pub put_word-next-requires : goal.put_word-next-requires
put_word-next-requires c = omega (arith, c.requires.4)

pub returns-in-Ok : goal.returns-in-Ok
returns-in-Ok c =
    let f = c.finish-loaded in
    let store = c.args.store.now in
    let lent = length-take-le 4096 store (omega (arith, c.requires.3)) in
    answered_load _ c.args.desk store c.requires.0 f.ensures c.in-Ok.is refl
    (c.after_command-totals.ensures ∙ ap (λ (t : Totals). kept (plus t (command_seen 0 c.len.result))) c.none.ensures) c.len.ensures
    (cleared_behind f.new.store (drop 4096 store) _ (f.auto.store ∙ lent) (length-drop 4096 store ∙ omega (arith, c.requires.3)) c.clear.ensures) c.put_word-next.ensures

pub returns-in-Err : goal.returns-in-Err
returns-in-Err c =
    refused_load _ c.args.desk c.args.store.now c.requires.0 c.finish-loaded.ensures c.in-Err.is refl c.number_of.ensures refl c.put_fault-next.ensures.put c.put_fault-next.ensures.upper_bound
