-- The invariant as a test: it passes where the invariant holds, and only there. Assumes nothing.
use mathlib.Core.Path.{◌≡◌, refl, sym}
use mathlib.Core.Bool.{true, ◌&&◌, and-true, and_assoc}
use mathlib.Core.List.{List, [], ◌∷◌, ◌++◌}
use lib.Dec.{leb}
use lib.ListN.{length}
use borrow.Author.Tests.{leb-true, le-leb}
use lib.Ieee as Ieee
use lib.Ieee.{Float}
use Rattle.rules.specs.declared.Event.{Event}
use Rattle.rules.specs.Numbers.{most_events, store_length}
use Rattle.rules.specs.Queue.{filed_under, lengths_of}
use Rattle.rules.specs.Refusals.{are_bounds}
use Rattle.rules.specs.Block.{Param}
use Rattle.laws.specs.Sound.{are_clear, are_due, reach_of, goes_before, in_order, SoundQueue, is_sound_queue, is_last_clear, has_played, Sound, is_sound}
use Rattle.laws.proofs.Tests.{both, and}

-- ---- the invariant is what its test says

pub queue_tested : (q : List Event) → is_sound_queue q ≡ true → SoundQueue q
unfolding is_sound_queue
queue_tested q h =
    let a = both (leb (length q) most_events) _ h in
    let b = both (in_order q) _ a.1 in
    let c = both (are_clear q) _ b.1 in
    record { few = leb-true (length q) most_events a.0; ordered = b.0; clear = c.0; room = leb-true (lengths_of q) store_length c.1 }

pub queue_passes : (q : List Event) → SoundQueue q → is_sound_queue q ≡ true
unfolding is_sound_queue
queue_passes q s =
    and (le-leb (length q) most_events s.few) (and s.ordered (and s.clear (le-leb (lengths_of q) store_length s.room)))

pub tested : (p : Param) → is_sound p ≡ true → Sound p
unfolding is_sound
tested p h =
    let a = both (is_sound_queue p.queue) _ h in
    let b = both (are_due (has_played p.last_block) p.queue) _ a.1 in
    let c = both (are_bounds p.bounds) _ b.1 in
    let d = both (is_last_clear p.last) _ c.1 in
    record { waiting = queue_tested p.queue a.0; due = b.0; bounded = c.0; last = d.0; block = d.1 }

pub passes_test : (p : Param) → Sound p → is_sound p ≡ true
unfolding is_sound
passes_test p s = and (queue_passes p.queue s.waiting) (and s.due (and s.bounded (and s.last s.block)))

-- ---- one event more, as a loop over an array makes the test

before_last : (t : Float) (q : List Event) (d e : Event) → goes_before t (q ++ (d ∷ e ∷ [])) ≡ goes_before t (q ++ (d ∷ []))
unfolding goes_before
before_last t [] d e = refl
before_last t (c ∷ q) d e = refl

pub order_last : (q : List Event) (d e : Event) → in_order (q ++ (d ∷ e ∷ [])) ≡ (in_order (q ++ (d ∷ [])) && Ieee.le (reach_of d) (filed_under e))
unfolding in_order
order_last [] d e = unfold goes_before in and-true (Ieee.le (reach_of d) (filed_under e))
order_last (c ∷ q) d e = rw (before_last (reach_of c) q d e, order_last q d e) (sym (and_assoc (goes_before (reach_of c) (q ++ (d ∷ []))) _ _))
