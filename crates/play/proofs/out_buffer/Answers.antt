-- `play::out_buffer` meets its contract: by the law on `replicate`, since the array is too long to compute. Assumes nothing.
use mathlib.Core.Path.{◌≡◌, sym}
use Prim.Native.Nat.{ℕ}
use lib.ListN.{length, replicate, length-replicate}
use Rattle.play.proofs.out_buffer.Goals as goal

zeros : (n : ℕ) → n ≡ length {A = ℕ} (replicate n 0)
zeros n = sym (length-replicate n 0)

pub returns : goal.returns
returns c = zeros 262144
