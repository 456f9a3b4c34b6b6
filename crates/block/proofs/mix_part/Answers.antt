-- `mix_part` meets its contract: what is mixed from the buffer is what stood in the output. Assumes nothing.
use mathlib.Core.Path.{◌≡◌, sym, ap, ◌∙◌}
use native.Mathlib.Nat.{le_of_eq}
use lib.ListN.{length, take}
use Rattle.block.proofs.Tests.{silent, not_silent, fits_whole}
use Rattle.block.proofs.Parts.{taken_out, silent_in, lent_in}
use Rattle.block.proofs.mix_part.Goals as goal
use Rattle.block.proofs.mix_part.Goals.{After-put_values}

-- the buffer has what stood in the output
taken : (c : After-put_values) → take (length c.args.output.now) c.put_values.new.output ≡ c.args.output.now
taken c = ap (take (length c.args.output.now)) c.put_values.ensures ∙ taken_out _ _

pub slice_bounds-mix_silence-end : goal.slice_bounds-mix_silence-end
slice_bounds-mix_silence-end c = sym (ap length (taken (goal.at.slice_bounds-mix_silence-end c).After-put_values))

pub mix_silence-requires : goal.mix_silence-requires
mix_silence-requires c = le_of_eq (ap length (taken (goal.at.mix_silence-requires c).After-put_values))

pub slice_bounds-mix_input-end : goal.slice_bounds-mix_input-end
slice_bounds-mix_input-end c = sym (ap length (taken (goal.at.slice_bounds-mix_input-end c).After-put_values))

pub mix_input-requires : goal.mix_input-requires
mix_input-requires c =
    let same = ap length (taken (goal.at.mix_input-requires c).After-put_values) in
    (fits_whole c.args.input.now _ c.requires.1 (not_silent _ c.if-input-eq0.false) ∙ sym same, le_of_eq same)

pub returns-then-input-eq0 : goal.returns-then-input-eq0
returns-then-input-eq0 c =
    silent_in c.args.bounds _ _ (silent _ c.if-input-eq0.true) (rw (taken (goal.at.returns-then-input-eq0 c).After-put_values) at c.mix_silence.ensures)

pub returns-else-input-eq0 : goal.returns-else-input-eq0
returns-else-input-eq0 c =
    lent_in c.args.bounds _ _ c.requires.1 (not_silent _ c.if-input-eq0.false) (rw (taken (goal.at.returns-else-input-eq0 c).After-put_values) at c.mix_input.ensures)
