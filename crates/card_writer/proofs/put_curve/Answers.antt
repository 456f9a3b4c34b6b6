-- `put_curve` meets its contract: one part behind the other. Assumes nothing.
use mathlib.Core.Path.{sym, ap}
use mathlib.Core.List.{◌∷◌}
use Prim.Native.Nat.{ℕ}
use native.Mathlib.Omega.{arith}
use Rattle.text.proofs.Writing.{put_same, put_then}
use Rattle.words.specs.Words.{bytes_of, double_bytes}
use Rattle.card.proofs.Written.{curve_long}
use Rattle.card_writer.proofs.put_curve.Goals as goal

pub put_real-next-requires : goal.put_real-next-requires
unfolding double_bytes bytes_of
put_real-next-requires c = omega arith

pub put_real-next-requires-2 : goal.put_real-next-requires-2
unfolding double_bytes bytes_of
put_real-next-requires-2 c = omega arith

pub put_numbers-requires : goal.put_numbers-requires
unfolding double_bytes bytes_of
put_numbers-requires c = omega arith

pub returns : goal.returns
unfolding double_bytes bytes_of
returns c =
    let a = c.args in
    let head = put_same (ap (λ (n : ℕ). 5 ∷ bytes_of 2 n) (sym (curve_long a.start a.duration a.numbers.now))) c.put_head-next.ensures in
    put_then (head) (put_then c.put_real-next.ensures (put_then c.put_real-next-2.ensures c.put_numbers.ensures (omega arith)) (omega arith)) (omega arith)
