-- `mix_values` meets its contract, at each rate. Assumes nothing.
use mathlib.Core.Path.{◌≡◌, sym, ap}
use mathlib.Core.List.{List, ◌++◌}
use lib.Ieee.{Float}
use lib.ListN.{length, take, drop}
use lib.Seq.{length-take-le}
use Rattle.block.proofs.Mixes.{given_all, given_one, first_taken, each_in, one_for_all}
use Rattle.block.proofs.mix_values.Goals as goal
use Rattle.block.proofs.mix_values.Goals.{Start}

-- the block's own places of the output
long : (start : Start) → let f = start.args.infos in length (take f.count start.args.output.now) ≡ f.count
long start = length-take-le start.args.infos.count start.args.output.now start.requires.room

pub slice_bounds-mix_parts-end-in-A : goal.slice_bounds-mix_parts-end-in-A
slice_bounds-mix_parts-end-in-A c = sym (long (goal.at.slice_bounds-mix_parts-end-in-A c).Start)

pub mix_parts-requires : goal.mix_parts-requires
mix_parts-requires c = let start = (goal.at.mix_parts-requires c).Start in rw (long start) c.requires.lent

pub returns-in-K : goal.returns-in-K
returns-in-K c vs given there =
    let rate = c.in-K.is in
    one_for_all c.args.bounds c.args.infos _ vs _ rate c.requires.some (first_taken _ vs there (given_one c.args.infos vs rate given)) c.mix_value.ensures

pub returns-in-A : goal.returns-in-A
returns-in-A c vs given there =
    let output = c.args.output.now in
    let rate = c.in-A.is in
    let whole = given_all c.args.infos vs rate given in
    each_in c.args.bounds c.args.infos _ vs output rate whole (rw whole at there) (ap (λ (l : List Float). l ++ drop c.args.infos.count output) c.mix_parts.ensures)
