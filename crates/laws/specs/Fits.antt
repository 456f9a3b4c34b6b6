-- Waiting events that have their own numbers, as many as their event says: what `attached` reads from a store that is long enough.
use Rattle.std.specs.Prelude.{◌≡◌, List, [], ◌∷◌, length}
use Rattle.rules.specs.Queue.{Waiting, length_of}

abbrev pub Fits : Waiting → Type 0
Fits w = length w.numbers ≡ length_of w.event

abbrev pub AllFit : List Waiting → Type 0
AllFit [] = Unit {0}
AllFit (w ∷ ws) = Fits w × AllFit ws
