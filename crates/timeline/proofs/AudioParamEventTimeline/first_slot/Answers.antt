-- `first_slot` meets its contract. Assumes nothing.
use Rattle.std.proofs.Common.{Option, Some, None}
use mathlib.Core.Path.{◌≡◌, refl, sym, ap, ◌∙◌}
use mathlib.Core.List.{List}
use Prim.Native.Nat.{◌<◌}
use native.Mathlib.Omega.{arith}
use Rattle.std.proofs.Common.{rules}
use Rattle.std.specs.Option.{MatchOption}
use lib.ListN.{length, get_or}
use lib.Seq.{set_out, set-get_or}
use Rattle.rules.specs.declared.Event.{Event}
use Rattle.timeline.specs.declared.AudioParamEvent.{AudioParamEvent}
use Rattle.timeline.specs.declared.AudioParamEventTimeline.{AudioParamEventTimeline}
use Rattle.timeline.specs.Timeline.{slot_of, made, waiting, Neat, head_as, beginning}
use Rattle.timeline.proofs.Laws.{nothing, count, replaced}
use Rattle.timeline.proofs.AudioParamEventTimeline.first_slot.Goals as goal

-- the slot as it was
stays : (q : AudioParamEventTimeline) → Neat q → (s : AudioParamEvent) → beginning (get_or q.slots 0 s) q ≡ made (waiting q)
stays q h s = rw (set-get_or q.slots 0 s) h.clean

none_waits : (h : Option Event) (es : List Event) → length es ≡ 0 → es ≡ head_as h es
unfolding head_as
none_waits None es n = refl
none_waits (Some e) es n = sym (set_out es 0 e (omega arith))

pub returns-then-self-eq0 : goal.returns-then-self-eq0
returns-then-self-eq0 c =
    let q = c.args.self in
    stays q c.requires _ ∙ ap made (none_waits c.args.head (waiting q) (count q c.requires ∙ c.if-self-eq0.true))

-- the slot, or the event's own
changed : (q : AudioParamEventTimeline) → Neat q → 0 < q.len → (h : Option Event) (x s : AudioParamEvent) → s ≡ get_or q.slots 0 (slot_of nothing)
    → MatchOption h (x ≡ s) (λ e. x ≡ slot_of e) → beginning x q ≡ made (head_as h (waiting q))
unfolding head_as
changed q n l None x s f g = rw (g, f) (stays q n _)
changed q n l (Some e) x s f g = rw g (replaced q n 0 e l)

pub returns : goal.returns
returns c =
    let m : MatchOption c.args.head (c.map_or.result ≡ get_or c.args.self.slots 0 (slot_of nothing)) (λ e. c.map_or.result ≡ slot_of e) = search rules in
    changed c.args.self c.requires (omega (arith, c.if-self-eq0.false)) c.args.head c.map_or.result _ refl m
