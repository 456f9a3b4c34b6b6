-- A part of the file in the window: it is put behind what waits there, its fields are taken, and what is left moves to the front. Assumes nothing.
use mathlib.Core.Path.{◌≡◌, refl, sym, ap, ◌∙◌}
use mathlib.Core.Bool.{Bool, true, false, ◌&&◌}
use mathlib.Core.List.{List, [], ◌++◌, append-nil}
use Prim.Native.Nat.{ℕ, ◌+◌, ◌-◌, ◌≤◌}
use native.Mathlib.Nat.{zero-add}
use native.Mathlib.Omega.{arith}
use lib.ListN.{length, take, drop, length-drop}
use lib.Seq.{length-take-le, take-add, drop_at}
use lib.Ieee.{Float}
use Rattle.text.specs.Put.{put, Put}
use Rattle.text.proofs.Writing.{put_front}
use Rattle.card.specs.Card.{is_accepted, is_whole, Reading, taken, fed}
use Rattle.card.proofs.Parts.{taken_none, fed-append}
use Rattle.card_reader.specs.declared.CardReader.{CardReader}
use Rattle.card_reader.specs.declared.Taken.{Taken}
use Rattle.card_reader.specs.Reader.{reader_of, window_length, SoundReader, SoundWindow, Takes, Feeds}

-- ---- bytes in the window

-- a part behind what waits
pub joined : {window part after : List ℕ} {held to : ℕ} → Put window held part after to → held + length part ≤ length window → take to after ≡ take held window ++ part
joined {window} {part} {after} {held} {to} p h = rw (p.bytes, p.place) (put_front window held part h)

module _ (window : List ℕ) (from to : ℕ) (ordered : from ≤ to) (inside : to ≤ length window) where
  -- the bytes from one place to another
  between : take (to - from) (drop from window) ≡ drop from (take to window)
  between =
      let sum : to ≡ from + (to - from) = omega arith in
      sym (ap (λ (n : ℕ). drop from (take n window)) sum ∙ ap (drop from) (take-add from (to - from) window) ∙ drop_at (take from window) _ from (length-take-le from window (omega arith)))

  -- moved to the front
  pub at_front : take (to - from) (put window 0 (take (to - from) (drop from window))) ≡ drop from (take to window)
  at_front =
      let part : List ℕ = take (to - from) (drop from window) in
      let long : length part ≡ to - from = length-take-le (to - from) (drop from window) (simp length-drop (omega arith)) in
      ap (λ (n : ℕ). take n (put window 0 part)) (sym long ∙ sym (zero-add (length part))) ∙ put_front window 0 part (omega arith) ∙ between

-- ---- the rules

-- no part: no field is whole, or one was refused
pub fed_none : (s : Reading) → (is_accepted s.reader.verdict && is_whole s.rest) ≡ false → fed s [] ≡ s
unfolding fed
fed_none s waits = go (is_accepted s.reader.verdict) refl
  where
    go : (k : Bool) → is_accepted s.reader.verdict ≡ k → fed s [] ≡ s
    go true e = rw (e, append-nil s.rest) (taken_none s.rest s.reader waits ∙ rw e)
    go false e = rw e

-- a part up to one place, and from there to another
pub fed_further : (s : Reading) {t u : Reading} (part : List ℕ) {from to : ℕ} → from ≤ to → t ≡ fed s (take from part) → u ≡ fed t (take (to - from) (drop from part)) → u ≡ fed s (take to part)
fed_further s part {from} {to} ordered first next =
    let more : List ℕ = take (to - from) (drop from part) in
    let sum : to ≡ from + (to - from) = omega arith in
    next ∙ ap (λ (x : Reading). fed x more) first ∙ fed-append s (take from part) more ∙ ap (fed s) (sym (ap (λ (n : ℕ). take n part) sum ∙ take-add from (to - from) part))

-- ---- what a part does

-- behind a field that is refused nothing is read
pub feeds_nothing : {part : List ℕ} {r : CardReader} {numbers : List Float} {window : List ℕ} → is_accepted r.verdict ≡ false → SoundReader r numbers → SoundWindow r window
    → Feeds part r numbers window r numbers window
unfolding fed
feeds_nothing refused sound fits = record { reading = rw refused; sound = sound; fits = fits }

-- a reader that holds so many bytes
abbrev holding : ℕ → CardReader → CardReader
holding n r =
    record {
      param = r.param;
      rate = r.rate;
      edition = r.edition;
      ranged = r.ranged;
      before = r.before;
      offset = r.offset;
      verdict = r.verdict;
      held = n;
    }

module _ {r : CardReader} {window part joint : List ℕ} {to : ℕ} (fits : SoundWindow r window) (room : r.held + length part ≤ window_length)
    (p : Put window r.held part joint to) (same : length joint ≡ length window) where
  pub inside : (to ≤ length joint) × (length (take to joint) ≡ to)
  inside = let h : to ≤ length joint = omega (arith, p.place, same, fits.long, room) in (h, length-take-le to joint h)

  pub feeds : {numbers after : List Float} {left : List ℕ} {t : Taken} {held : ℕ} → is_accepted r.verdict ≡ true → Takes r numbers (take to joint) t after
      → (held ≡ to - t.used) × (left ≡ put joint 0 (take (to - t.used) (drop t.used joint))) → length left ≡ length joint
      → Feeds part r numbers window (holding held t.reader) after left
  unfolding fed
  feeds {numbers} {after} {left} {t} {held} kept takes moved long =
      let ordered : t.used ≤ to = omega (arith, takes.inside, inside.1) in
      let rest : take held left ≡ drop t.used (take to joint) = rw (moved.0, moved.1) (at_front joint t.used to ordered inside.0) in
      let bytes : take to joint ≡ take r.held window ++ part = joined p (omega (arith, fits.long, room)) in
      record {
        reading =
            ap (λ (bs : List ℕ). record { reader = reader_of t.reader after; rest = bs }) rest
            ∙ takes.reading
            ∙ rw kept (ap (λ (bs : List ℕ). taken (length bs) bs (reader_of r numbers)) bytes);
        sound = record { param = takes.sound.param; long = takes.sound.long; counted = takes.sound.counted };
        fits = record { long = long ∙ same ∙ fits.long; room = omega (arith, moved.0, takes.short, inside.1); waits = rw rest takes.stops };
      }
