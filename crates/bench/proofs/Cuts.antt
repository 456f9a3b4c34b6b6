-- Lists cut to a length. Assumes nothing.
use mathlib.Core.Path.{◌≡◌}
use mathlib.Core.List.{List}
use Prim.Native.Nat.{ℕ, ◌≤◌}
use native.Mathlib.Omega.{arith}
use lib.ListN.{length, take, length-take, length-append}
use Rattle.text.specs.Put.{put, Put}

pub cut_length : {A : Type 0} (k : ℕ) (l : List A) → k ≤ length l → k ≡ length (take k l)
cut_length k l within = rw length-take (omega (arith, within))

-- what is written at a buffer's beginning ends within it
pub put-within : {l xs l' : List ℕ} {next : ℕ} → Put l 0 xs l' next → next ≤ length l'
unfolding put
put-within p = rw (p.bytes, p.place) (simp length-append (omega arith))
