-- `decimal::read::counted` meets its contract. The invariant of its loop: the number is what the characters left make of the value so far. Assumes nothing.
use Rattle.std.proofs.Common.{◌≡◌, ◌^◌, ◌≤◌, drop}
use Rattle.text.specs.Digits.{number_from}
use Rattle.text.specs.Words.{up_to}
use Rattle.decimal.proofs.read.counted.Given as goal

abbrev pub invariant-loop-c : goal.invariant-loop-c
invariant-loop-c l = (l.v ≤ 2 ^ 53) × (up_to (2 ^ 53) (number_from 10 l.value l.word) ≡ up_to (2 ^ 53) (number_from 10 l.v (drop l.c-index l.word)))
