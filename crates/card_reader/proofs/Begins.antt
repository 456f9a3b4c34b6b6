-- Before the first part: what a caller has of `open`. Assumes nothing.
use mathlib.Core.Path.{◌≡◌, ap, ap₂}
use mathlib.Core.List.{List}
use Prim.Native.Nat.{ℕ}
use native.Mathlib.Omega.{arith}
use lib.ListN.{length, take}
use lib.Ieee.{Float}
use Rattle.rules.specs.declared.AutomationRate.{AutomationRate}
use Rattle.card.specs.Card.{has_head, is_whole, is_accepted, Reader, begun}
use Rattle.card.proofs.Fields.{and_false}
use Rattle.card_reader.specs.declared.CardReader.{CardReader}
use Rattle.card_reader.specs.Reader.{reading_of, window_length, SoundWindow, Opens}

module _ {rate : AutomationRate} {n : ℕ} {r : CardReader} {numbers : List Float} (opens : Opens rate n r numbers) (window : List ℕ) where
  pub begins : reading_of r numbers window ≡ begun rate n
  begins = ap₂ (λ (x : Reader) (bs : List ℕ). record { reader = x; rest = bs }) opens.reader (ap (λ (k : ℕ). take k window) opens.held)

  -- any window is as good
  pub has_room : length window ≡ window_length → SoundWindow r window
  unfolding is_whole has_head
  has_room long = record { long = long; room = omega (arith, opens.held); waits = rw opens.held (and_false (is_accepted r.verdict)) }
