-- `text::read::number_in` meets its contract. The invariant of its loop: the word's number is what the characters left make of the value so far.
-- Assumes nothing.
use mathlib.Core.Path.{◌≡◌}
use Prim.Native.Nat.{◌^◌, ◌<◌}
use lib.ListN.{drop}
use Rattle.text.specs.Digits.{number_from, number_in}
use Rattle.text.proofs.read.number_in.Given as goal

abbrev pub invariant-loop-c : goal.invariant-loop-c
invariant-loop-c l = (l.value < 2 ^ 64) × (number_in l.base l.word ≡ number_from l.base l.value (drop l.c-index l.word))
