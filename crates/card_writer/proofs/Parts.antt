-- Parts written one behind the other in a loop: a curve's numbers, and the fields of events. Assumes nothing.
use mathlib.Core.Path.{◌≡◌, sym, ap, ◌∙◌}
use mathlib.Core.List.{List, [], ◌∷◌, ◌++◌}
use Prim.Native.Nat.{ℕ, ◌+◌, ◌≤◌, ◌<◌}
use native.Mathlib.Numerals.{add-one}
use lib.ListN.{length, get_or, drop, length-append, drop_of_length-le}
use lib.Seq.{drop-cons}
use lib.Ieee.{Float}
use Rattle.rules.specs.Queue.{Waiting}
use Rattle.text.specs.Put.{Put}
use Rattle.text.proofs.Writing.{put_same, put_then, put-nothing}
use Rattle.words.specs.Words.{single_bytes, numbers_bytes}
use Rattle.card.specs.Card.{event_field, fields_of}

-- ---- what is left to be written

-- with ys written from `next` on, xs are written from `at` on
abbrev pub Leaves : List ℕ → ℕ → List ℕ → List ℕ → ℕ → List ℕ → Type 0
Leaves l at xs l' next ys = (after : List ℕ) (r : ℕ) → Put l' next ys after r → Put l at xs after r

module _ {l l₁ xs left : List ℕ} {at p₁ : ℕ} (w : Leaves l at xs l₁ p₁ left) where
  -- the first part of it is written
  pub leaves_fewer : {ys zs l₂ : List ℕ} {p₂ : ℕ} → left ≡ ys ++ zs → Put l₁ p₁ ys l₂ p₂ → p₂ ≤ length l₁ → Leaves l at xs l₂ p₂ zs
  leaves_fewer e p h after r q = w after r (put_same (sym e) (put_then p q h))

  pub leaves_none : left ≡ [] → Put l at xs l₁ p₁
  leaves_none e = w _ _ (put_same (sym e) (put-nothing _ _))

-- ---- numbers

module _ (xs : List Float) (i : ℕ) where
  pub numbers-next : (d : Float) → i < length xs → numbers_bytes (drop i xs) ≡ single_bytes (get_or xs i d) ++ numbers_bytes (drop (i + 1) xs)
  unfolding numbers_bytes
  numbers-next d h = rw (drop-cons xs i d h, add-one i)

  pub numbers-over : length xs ≤ i → numbers_bytes (drop i xs) ≡ []
  unfolding numbers_bytes
  numbers-over h = rw (drop_of_length-le xs h)

-- ---- the fields of the events from a place on

module _ {w : Waiting} {left more : List Waiting} (here : left ≡ w ∷ more) where
  pub fields-next : fields_of left ≡ event_field w.event w.numbers ++ fields_of more
  unfolding fields_of
  fields-next = ap fields_of here

  pub fields-length : length (fields_of left) ≡ length (event_field w.event w.numbers) + length (fields_of more)
  fields-length = ap length fields-next ∙ length-append (event_field w.event w.numbers) (fields_of more)

pub fields-over : {left : List Waiting} → left ≡ [] → fields_of left ≡ []
unfolding fields_of
fields-over none = ap fields_of none
