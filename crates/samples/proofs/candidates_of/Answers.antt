-- `samples::candidates_of` meets its contract. Assumes nothing.
use Rattle.std.proofs.Common.{sym, ◌∙◌, arith}
use Rattle.rules.specs.Numbers.{whole_part}
use Rattle.laws.proofs.Order.{number_is}
use Rattle.laws.proofs.Tests.{clash}
use Rattle.samples.proofs.Beginning.{all, past, two}
use Rattle.samples.proofs.candidates_of.Goals as goal

pub returns-then-n-count : goal.returns-then-n-count
unfolding whole_part
returns-then-n-count c =
    (two c.args.q c.args.count c.requires c.saturating_f64_to_u64-n.result c.saturating_f64_to_u64-n.ensures (number_is c.args.q ∙ c.if-q.true) c.if-n-count.true, λ t. omega arith)

pub returns-then-q : goal.returns-then-q
unfolding whole_part
returns-then-q c =
    (past c.args.q c.args.count c.requires c.saturating_f64_to_u64-n.result c.saturating_f64_to_u64-n.ensures c.if-n-count.false, λ t. omega arith)

pub returns : goal.returns
returns c =
    (all c.args.q c.args.count c.requires, λ t. clash (sym (number_is c.args.q) ∙ t) c.if-q.false)
