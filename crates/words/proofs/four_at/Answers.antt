-- `words::four_at` meets its contract: each byte fits, and their sum is the word. Assumes nothing.
use mathlib.Core.Path.{sym}
use mathlib.Core.List.{List}
use Prim.Native.Nat.{ℕ, ◌+◌, ◌^◌, ◌≤◌, ◌<◌}
use native.Mathlib.Omega.{arith}
use lib.ListN.{length, get_or}
use mir.Syntax.{w8}
use mir.Val.{Fits}
use Rattle.words.proofs.Bytes.{are_bytes}
use Rattle.words.proofs.Turns.{four_bytes, four_bytes_lem, four_small}
use Rattle.words.proofs.four_at.Goals as goal

-- the whole sum fits, and each of its parts is at most that
total : (bs : List ℕ) (at : ℕ) → ((i : ℕ) → Fits w8 (get_or bs i 0)) → at + 4 ≤ length bs → four_bytes bs at < 2 ^ 32
total bs at known room = four_small bs at (are_bytes bs (λ i. (known i).fits)) room

pub overflow_cast-a : goal.overflow_cast-a
overflow_cast-a c = omega (arith, total c.args.bytes.now c.args.at c.shared_slice_known-1.given c.requires)

pub overflow_cast-b : goal.overflow_cast-b
overflow_cast-b c = omega (arith, total c.args.bytes.now c.args.at c.shared_slice_known-2-1.given c.requires)

pub overflow_cast-c : goal.overflow_cast-c
overflow_cast-c c = omega (arith, total c.args.bytes.now c.args.at c.shared_slice_known-3-1.given c.requires)

pub overflow_cast-d : goal.overflow_cast-d
overflow_cast-d c = omega (arith, total c.args.bytes.now c.args.at c.shared_slice_known-4-1.given c.requires)

pub overflow_mul-result : goal.overflow_mul-result
overflow_mul-result c = omega (arith, total c.args.bytes.now c.args.at c.shared_slice_known-4-1.given c.requires)

pub overflow_add-result : goal.overflow_add-result
overflow_add-result c = omega (arith, total c.args.bytes.now c.args.at c.shared_slice_known-4-1.given c.requires)

pub overflow_mul-result-2 : goal.overflow_mul-result-2
overflow_mul-result-2 c = omega (arith, total c.args.bytes.now c.args.at c.shared_slice_known-4-1.given c.requires)

pub overflow_add-result-2 : goal.overflow_add-result-2
overflow_add-result-2 c = omega (arith, total c.args.bytes.now c.args.at c.shared_slice_known-4-1.given c.requires)

pub overflow_mul-result-3 : goal.overflow_mul-result-3
overflow_mul-result-3 c = omega (arith, total c.args.bytes.now c.args.at c.shared_slice_known-4-1.given c.requires)

pub overflow_add-result-3 : goal.overflow_add-result-3
overflow_add-result-3 c = omega (arith, total c.args.bytes.now c.args.at c.shared_slice_known-4-1.given c.requires)

pub returns : goal.returns
returns c = sym (four_bytes_lem _ _ c.requires)
