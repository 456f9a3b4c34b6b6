-- `kernels::log` meets its contract: the digits that are left, read from x behind those of a, give the log. Assumes nothing.
use mathlib.Core.Path.{◌≡◌}
use Prim.Native.Nat.{◌-◌, ◌^◌, ◌≤◌, ◌<◌}
use Rattle.rules.specs.Kernels.{log_from, log}
use Rattle.kernels.proofs.log.Given as goal

abbrev pub invariant-loop-found : goal.invariant-loop-found
invariant-loop-found l = (2 ^ 31 ≤ l.x) × (l.x < 2 ^ 32) × (l.a < 2 ^ l._found) × (log_from (24 - l._found) l.x l.a ≡ log l.m)
