-- `beside::same_answer` meets its contract: part by part. Assumes nothing.
use Rattle.beside.proofs.Same.{by_parts}
use Rattle.beside.proofs.same_answer.Goals as goal

pub returns : goal.returns
returns c = by_parts c.number_for.ensures c.number_for-2.ensures c.same_value.ensures c.same_param.ensures
