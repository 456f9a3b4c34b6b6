-- `decimal::write::put_places` meets its contract. The invariant of its loop: the places left without zeros at their end are the text. Assumes nothing.
use Rattle.std.proofs.Common.{◌≡◌, ◌-◌}
use Rattle.decimal.specs.Shown.{places_text}
use Rattle.decimal.proofs.write.put_places.Given as goal

abbrev pub invariant-loop-i : goal.invariant-loop-i
invariant-loop-i l = (l.out ≡ l.initial.out) × (places_text 6 l.millionths ≡ places_text (6 - l.i) l.n)
