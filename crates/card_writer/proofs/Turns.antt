-- A turn of a loop over the waiting events: the one at its place, with its numbers of the store, and what waits behind it. Assumes nothing.
use Rattle.std.proofs.Common.{Some}
use mathlib.Core.Path.{◌≡◌, sym}
use mathlib.Core.List.{List, [], ◌∷◌}
use Prim.Native.Nat.{ℕ, ◌+◌, ◌≤◌, ◌<◌}
use native.Mathlib.Omega.{arith}
use lib.ListN.{length, get_or, take, drop, length-take, drop_of_length-le}
use lib.Ieee.{Float}
use Rattle.rules.specs.declared.Event.{Event}
use Rattle.rules.specs.Numbers.{store_length}
use Rattle.rules.specs.Queue.{length_of, lengths_of, attached}
use Rattle.laws.proofs.Store.{attached-length}
use Rattle.timeline.specs.declared.AudioParamEventTimeline.{AudioParamEventTimeline}
use Rattle.timeline.specs.Timeline.{slot_of, waiting, made, Neat, first_of}
use Rattle.timeline.specs.Heads.{waiting_as}
use Rattle.timeline.proofs.Laws.{nothing, neat_of, waits_of, count}
use Rattle.timeline.proofs.Steps.{slot_there}
use Rattle.timeline.proofs.Heads.{lent, lent_is, past_is, past_most, waits_here}
use Rattle.param.specs.declared.AudioParam.{AudioParam}
use Rattle.param.specs.Param.{param_of, SoundParam}

-- the queue that a sound parameter hands out
pub record Walked (p : AudioParam) (q : AudioParamEventTimeline) : Type 0 where
  pub neat : Neat q
  pub same : waiting q ≡ (param_of p).queue
  pub room : lengths_of (waiting q) ≤ store_length

pub walked : {p : AudioParam} {q : AudioParamEventTimeline} → SoundParam p → q ≡ made (param_of p).queue → Walked p q
walked {p} {q} s e =
    let same : waiting q ≡ (param_of p).queue = waits_of q (param_of p).queue e in
    record { neat = neat_of q (param_of p).queue e s.sound.waiting.few; same = same; room = rw same s.sound.waiting.room }

abbrev pub slot_at : AudioParamEventTimeline → ℕ → Event
slot_at q i = (get_or q.slots i (slot_of nothing)).event

-- the event at the place i, whose numbers begin at `from` and are so many
pub record Turn (q : AudioParamEventTimeline) (store : List Float) (i from len : ℕ) : Type 0 where
  pub past : from + len ≡ lengths_of (take (i + 1) (waiting q))
  pub room : from + len ≤ store_length
  pub few : length (lent store from len) ≤ store_length
  pub here : drop i (attached (waiting q) store) ≡ waiting_as (slot_at q i) (lent store from len) ∷ drop (i + 1) (attached (waiting q) store)

module _ {p : AudioParam} {q : AudioParamEventTimeline} (w : Walked p q) (store : List Float) (i : ℕ) where
  pub turn : {from len : ℕ} → i < q.len → from ≡ lengths_of (take i (waiting q)) → len ≡ length_of (slot_at q i) → Turn q store i from len
  turn {from} {len} inside f n =
      let there : first_of (drop i (waiting q)) ≡ Some (slot_at q i) = sym (slot_there q w.neat i inside) in
      let room : from + len ≤ store_length = omega (arith, past_most (waiting q) store i f there, w.room) in
      record {
        past = rw n (past_is (waiting q) store i f there);
        room = room;
        few = simp length-take (omega arith);
        here = rw (lent_is store from (slot_at q i) n) (waits_here (waiting q) store i f there);
      }

  pub over : q.len ≤ i → drop i (attached (waiting q) store) ≡ []
  over past = drop_of_length-le (attached (waiting q) store) {i = i} (omega (arith, attached-length (waiting q) store, count q w.neat))
