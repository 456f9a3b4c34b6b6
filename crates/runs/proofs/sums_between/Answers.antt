-- `runs::sums_between` meets its contract. Assumes nothing.
use Rattle.std.proofs.Common.{◌*◌, ◌^◌}
use Rattle.runs.proofs.sums_between.Goals as goal

pub sums_within-requires : goal.sums_within-requires
sums_within-requires c =
    let p = c.requires in
    record {
      once = (c.in-Some.ensures, p.out_len.0, p.out_len.1, p.out_len.2 _ (c.spans.ensures c.if-spans.true));
    }

pub returns-then-spans : goal.returns-then-spans
returns-then-spans c = λ e. c.sums_within.ensures

pub sums_seen-requires : goal.sums_seen-requires
sums_seen-requires c =
    let p = c.requires in
    record {
      out_len = (p.out_len.0, p.out_len.1, p.out_len.2 (898 * 2 ^ 52) p.out_len.3);
    }
