-- `wording::put_field` meets its contract: by its kind, and whether it is a number. Assumes nothing.
use Rattle.std.proofs.Common.{arith, sym}
use Rattle.text.proofs.Writing.{put_then}
use Rattle.wording.specs.Plain.{spaced}
use Rattle.wording.specs.Walked.{Wrote}
use Rattle.wording.proofs.Steps.{a_value, no_value, a_time, no_time, as_it_is, wrote_none}
use Rattle.wording.proofs.put_field.Goals as goal

pub returns-in_err-x-in-Value : goal.returns-in_err-x-in-Value
returns-in_err-x-in-Value c = (wrote_none _ _ _ c.from_residual.ensures (no_value _ c.in-Value.is (sym c.in_err-x-in-Value.ensures))).0

pub returns-in_err-x-in-Time : goal.returns-in_err-x-in-Time
returns-in_err-x-in-Time c = (wrote_none _ _ _ c.from_residual-in_err-x-in-Time.ensures (no_time _ c.in-Time.is (sym c.in_err-x-in-Time.ensures))).0

pub returns-in_ok-x-in-Value : goal.returns-in_ok-x-in-Value
unfolding Wrote spaced
returns-in_ok-x-in-Value c = (
  _,
  a_value _ c.in-Value.is (sym c.in_ok-x-in-Value.ensures),
  put_then c.put_byte-to.ensures c.put_real.ensures (omega (arith, c.put_byte-to.ensures.place)),
)

pub returns-in_ok-x-in-Time : goal.returns-in_ok-x-in-Time
unfolding Wrote spaced
returns-in_ok-x-in-Time c = (
  _,
  a_time _ c.in-Time.is (sym c.in_ok-x-in-Time.ensures),
  put_then c.put_byte-to-in-Time.ensures c.put_real-in-Time.ensures (omega (arith, c.put_byte-to-in-Time.ensures.place)),
)

pub returns-in-AsItIs : goal.returns-in-AsItIs
unfolding Wrote
returns-in-AsItIs c = (_, as_it_is _ c.in-AsItIs.is, c.put_spaced.ensures)
