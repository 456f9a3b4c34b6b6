-- `replies::put_reply` meets its contract: the fields, and what a refusal means behind them. Assumes nothing.
use native.Mathlib.Omega.{arith}
use Rattle.text.proofs.Writing.{put_then}
use Rattle.replies.specs.Plain.{reply}
use Rattle.replies.proofs.put_reply.Goals as goal

pub returns : goal.returns
unfolding reply
returns c =
    let f = c.put_fields-to.ensures in
    let r = c.put_reason.ensures in
    record {
      put = put_then f.put r.put (omega (arith, f.upper_bound));
      upper_bound = omega (arith, f.upper_bound, r.upper_bound);
    }
