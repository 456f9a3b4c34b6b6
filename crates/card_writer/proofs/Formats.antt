-- The floats of a parameter are of their formats: what is known of each value of its type, taken down to its events. Assumes nothing.
use mathlib.Core.List.{List, [], ◌∷◌, map}
use Prim.Native.Nat.{ℕ, zero, suc}
use lib.ListN.{take, drop}
use lib.Ieee.{Float}
use mir.Val.{Val}
use denote.Array.{each}
use denote.Floats.{passes}
use denote.Laws.{Is}
use denote.Shadow.{shadow}
use Rattle.rules.specs.declared.Event.{Event}
use Rattle.rules.specs.Queue.{length_of, attached}
use Rattle.rules.specs.contracts.Event as event-type
use Rattle.timeline.specs.declared.AudioParamEvent.{AudioParamEvent}
use Rattle.timeline.specs.contracts.AudioParamEvent as slot-type
use Rattle.words.specs.Words.{AreSingles}
use Rattle.words.proofs.Bytes.{singles-take, singles-drop}
use Rattle.param.specs.declared.AudioParam.{AudioParam}
use Rattle.param.specs.Param.{param_of}
use Rattle.param.specs.contracts.AudioParam as param-type
use Rattle.card.specs.Back.{FitEvent, FitWaiting}
use Rattle.card_writer.specs.Writer.{Printable}

-- an event: behind its machine values and their equations, what is known of its fields, each its own value and that it fits
event_fits : (e : Event) {vs : List Val} → Is event-type.the_row e vs → FitEvent e
unfolding FitEvent
event_fits (Event.Step v t) h = let f = h.1.1.1.1 in (passes _ f.0.1, passes _ f.1.0.1)
event_fits (Event.Linear v t k) h = let f = h.1.1.1.1 in (passes _ f.0.1, passes _ f.1.0.1)
event_fits (Event.Exponential v t k) h = let f = h.1.1.1.1 in (passes _ f.0.1, passes _ f.1.0.1)
event_fits (Event.Target v t c k) h = let f = h.1.1.1.1 in (passes _ f.0.1, (passes _ f.1.0.1, passes _ f.1.1.0.1))
event_fits (Event.Curve s d n k) h = let f = h.1.1.1.1 in (passes _ f.0.1, passes _ f.1.0.1)

-- those of the first n slots of a queue
slots_fit : (n : ℕ) (ss : List AudioParamEvent) (us : List Val) (store : List Float)
    → shadow (each (slot-type.the_row).Denot (slot-type.the_row).own_val ss us)
    → AreSingles store → FitWaiting (attached (map (λ (s : AudioParamEvent). s.event) (take n ss)) store)
unfolding FitWaiting attached
slots_fit zero ss us store h f = tt
slots_fit (suc n) [] us store h f = tt
slots_fit (suc n) (s ∷ ss) [] store h f = absurd h
slots_fit (suc n) (s ∷ ss) (u ∷ us) store h f =
    let k : ℕ = length_of s.event in
    ((event_fits s.event h.0.1.1.0, singles-take k store f), slots_fit n ss us (drop k store) h.1 (singles-drop k store f))

pub printable : (p : AudioParam) (store : List Float) {vs : List Val} → Is param-type.the_row p vs → AreSingles store → Printable (param_of p) store
printable p store h f =
    let fields = h.1.1 in
    let bounds = fields.0.1.1 in
    let queue = fields.1.1.1.1.0.1.1 in
    record {
      bounds = (passes _ bounds.0.1, (passes _ bounds.1.0.1, passes _ bounds.1.1.0.1));
      events = slots_fit p.timeline.len p.timeline.slots _ store queue.0.1.1 f;
    }
