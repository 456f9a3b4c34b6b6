-- `text::write::put_count` meets its contract: as many digits as the number has. Assumes nothing.
use mathlib.Core.Path.{ap}
use Prim.Native.Nat.{ℕ}
use Rattle.text.specs.Digits.{digits_of, decimal_of}
use Rattle.text.proofs.Writing.{put_same}
use Rattle.text.proofs.write.put_count.Goals as goal

pub returns : goal.returns
unfolding decimal_of
returns c = put_same (ap (λ (k : ℕ). digits_of 10 k c.args.n) c.places-k.ensures.0) c.put_digits.ensures
