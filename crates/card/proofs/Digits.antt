-- A written file's numbers are bytes, so that its digits are read back: what `save` prints, `load` reads. Assumes nothing.
use mathlib.Core.Path.{◌≡◌}
use mathlib.Core.List.{List, [], ◌∷◌, ◌++◌}
use Rattle.std.specs.Prelude.{Some}
use Prim.Native.Nat.{ℕ, ◌<◌}
use native.Mathlib.Omega.{arith}
use lib.ListN.{length}
use lib.Ieee.{Float}
use Rattle.rules.specs.declared.Bounds.{Bounds}
use Rattle.rules.specs.declared.Event.{Event}
use Rattle.rules.specs.Queue.{Waiting}
use Rattle.text.specs.Hex.{bytes_in, bytes_text}
use Rattle.words.specs.Words.{bytes_of, AreBytes, single_bytes, double_bytes, numbers_bytes}
use Rattle.words.proofs.Bytes.{bytes_append, bytes_small, bytes_single, bytes_double, bytes_numbers}
use Rattle.words.proofs.Digits.{text_back}
use Rattle.card.specs.Card.{field_of, range_field, event_field, fields_of, file_of}

field_bytes : (tag : ℕ) (contents : List ℕ) → tag < 256 → AreBytes contents → AreBytes (field_of tag contents)
unfolding AreBytes
field_bytes tag contents small h = (small, bytes_append (bytes_of 2 (length contents)) contents (bytes_small 2 (length contents)) h)

value_bytes : (tag : ℕ) (v t : Float) → tag < 256 → AreBytes (field_of tag (single_bytes v ++ double_bytes t))
value_bytes tag v t small = field_bytes tag (single_bytes v ++ double_bytes t) small (bytes_append (single_bytes v) (double_bytes t) (bytes_single v) (bytes_double t))

event_bytes : (e : Event) (xs : List Float) → AreBytes (event_field e xs)
unfolding event_field
event_bytes (Event.Step v t) xs = value_bytes 1 v t (omega arith)
event_bytes (Event.Linear v t h) xs = value_bytes 2 v t (omega arith)
event_bytes (Event.Exponential v t h) xs = value_bytes 3 v t (omega arith)
event_bytes (Event.Target v t c h) xs =
    field_bytes 4 _ (omega arith) (bytes_append (single_bytes v) _ (bytes_single v) (bytes_append (double_bytes t) (double_bytes c) (bytes_double t) (bytes_double c)))
event_bytes (Event.Curve s d n h) xs =
    field_bytes 5 _ (omega arith) (bytes_append (double_bytes s) _ (bytes_double s) (bytes_append (double_bytes d) (numbers_bytes xs) (bytes_double d) (bytes_numbers xs)))

fields_bytes : (ws : List Waiting) → AreBytes (fields_of ws)
unfolding fields_of AreBytes
fields_bytes [] = tt
fields_bytes (w ∷ ws) = bytes_append (event_field w.event w.numbers) (fields_of ws) (event_bytes w.event w.numbers) (fields_bytes ws)

range_bytes : (b : Bounds) → AreBytes (range_field b)
unfolding range_field
range_bytes b =
    field_bytes 6 _ (omega arith)
    (bytes_append (single_bytes b.min) _ (bytes_single b.min) (bytes_append (single_bytes b.default) (single_bytes b.max) (bytes_single b.default) (bytes_single b.max)))

pub file_bytes : (b : Bounds) (ws : List Waiting) → AreBytes (file_of b ws)
unfolding file_of
file_bytes b ws = bytes_append (range_field b) (fields_of ws) (range_bytes b) (fields_bytes ws)

pub digits_back : (b : Bounds) (ws : List Waiting) → bytes_in (bytes_text (file_of b ws)) ≡ Some (file_of b ws)
digits_back b ws = unfold file_of range_field in text_back _ _ (unfold file_of range_field in file_bytes b ws)
