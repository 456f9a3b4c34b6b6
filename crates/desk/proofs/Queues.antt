-- The waiting events printed one after the other, with their numbers: the text, and the room that it takes. Assumes nothing.
use Rattle.std.proofs.Common.{Option, Some, None}
use Rattle.rules.specs.declared.Finished.{Finished}
use mathlib.Core.Path.{◌≡◌, refl, sym, ap, ◌∙◌}
use mathlib.Core.List.{List, [], ◌∷◌, ◌++◌}
use Prim.Native.Nat.{ℕ, ◌+◌, ◌-◌, ◌*◌, ◌≤◌, ◌<◌}
use native.Mathlib.Nat.{add-zero, add-sub_cancel_left}
use native.Mathlib.Omega.{arith}
use lib.ListN.{length, take, drop, length-take, length-drop, drop_of_length-le}
use lib.Seq.{take-length, drop-drop, take-add}
use lib.Ieee.{Float}
use mathlib.Core.Bool.{Bool}
use Rattle.rules.specs.declared.AutomationRate.{AutomationRate}
use Rattle.rules.specs.declared.Edition.{Edition}
use Rattle.rules.specs.declared.Bounds.{Bounds}
use Rattle.rules.specs.Block.{Param}
use Rattle.rules.specs.declared.Event.{Event}
use Rattle.rules.specs.Queue.{length_of, lengths_of}
use Rattle.laws.proofs.Events.{lengths_append, lengths_split}
use Rattle.timeline.specs.Timeline.{first_of}
use Rattle.answers.specs.Answers.{state_text, event_text, list_text, zeros_text, are_zeros}
use Rattle.desk.specs.Desk.{waiting_text, queue_text, state_line, first_text, waiting_at, width_at}

-- ---- the first of some events

first_of_lem : (r : List Event) {e : Event} → Some e ≡ first_of r → (lengths_of (take 1 r) ≡ length_of e) × ((s : List Float) → first_text r s ≡ waiting_text e s)
unfolding first_of lengths_of first_text
first_of_lem [] h = let z : ◌≡◌ {A = ℕ} 0 1 = cc in absurd (omega arith)
first_of_lem (x ∷ xs) {e} h = let same : x ≡ e = cc in (rw (add-zero (length_of x), same), λ s. rw same)

pub first_none : (r : List Event) (s : List Float) → None ≡ first_of r → first_text r s ≡ []
unfolding first_of first_text
first_none [] s h = refl
first_none (x ∷ xs) s h = let z : ◌≡◌ {A = ℕ} 0 1 = cc in absurd (omega arith)

text_split : (r : List Event) (s : List Float) → queue_text r s ≡ first_text r s ++ queue_text (drop 1 r) (drop (lengths_of (take 1 r)) s)
unfolding queue_text first_text lengths_of
text_split [] s = refl
text_split (e ∷ es) s = rw (add-zero (length_of e))

-- ---- the event at a place

module _ (q : List Event) (i : ℕ) where
  -- the numbers before it and its own are no more than all
  its_room : lengths_of (take i q) + lengths_of (take 1 (drop i q)) ≤ lengths_of q
  its_room = omega (arith, lengths_split i q, lengths_split 1 (drop i q))

  module _ (s : List Float) (e : Event) (from len : ℕ) (there : Some e ≡ first_of (drop i q)) (f : from ≡ lengths_of (take i q)) (n : len ≡ length_of e) where
    own : lengths_of (take 1 (drop i q)) ≡ len
    own = (first_of_lem (drop i q) there).0 ∙ sym n

    pub width : width_at q i ≡ 78 + 9 * len
    unfolding width_at
    width = ap (λ (k : ℕ). 78 + 9 * k) own

    pub within : lengths_of q ≤ 4096 → from + len ≤ 4096
    within room = omega (arith, its_room, own)

    part_is : take (from + len - from) (drop from s) ≡ take (length_of e) (drop (lengths_of (take i q)) s)
    part_is = rw (add-sub_cancel_left from len, n, f)

    pub part_length : length s ≡ 8192 → lengths_of q ≤ 4096 → length (take (from + len - from) (drop from s)) ≡ len
    part_length long room = rw (add-sub_cancel_left from len, length-take, length-drop) (omega (arith, within room))

    pub waiting_text_lem : event_text e ++ list_text 58 44 (take (from + len - from) (drop from s)) ≡ waiting_at q i s
    unfolding waiting_at waiting_text
    waiting_text_lem = rw part_is (sym ((first_of_lem (drop i q) there).1 (drop (lengths_of (take i q)) s)))

-- ---- a turn of the loop over them

module _ (q : List Event) (i : ℕ) where
  next-drop : drop 1 (drop i q) ≡ drop (i + 1) q
  next-drop = drop-drop 1 i q

  next_lengths : lengths_of (take i q) + lengths_of (take 1 (drop i q)) ≡ lengths_of (take (i + 1) q)
  next_lengths = sym (ap lengths_of (take-add i 1 q) ∙ lengths_append (take i q) (take 1 (drop i q)))

  pub next_text : (s : List Float) → queue_text (drop i q) (drop (lengths_of (take i q)) s) ≡ waiting_at q i s ++ queue_text (drop (i + 1) q) (drop (lengths_of (take (i + 1) q)) s)
  unfolding waiting_at
  next_text s = text_split (drop i q) (drop (lengths_of (take i q)) s) ∙ rw (next-drop, drop-drop, next_lengths)

  pub next_width : i < length q → 78 * (length q - i) + 9 * lengths_of (drop i q) ≡ width_at q i + (78 * (length q - (i + 1)) + 9 * lengths_of (drop (i + 1) q))
  unfolding width_at
  next_width h = omega (arith, lengths_split 1 (drop i q), ap lengths_of next-drop)

-- no event is left
pub last_text_lem : (q : List Event) (i : ℕ) (s : List Float) → length q ≤ i → queue_text (drop i q) s ≡ []
unfolding queue_text
last_text_lem q i s past = rw (drop_of_length-le q past)

-- all of them take no more room than this
pub all_width : (q : List Event) → length q ≤ 64 → lengths_of q ≤ 4096 → 78 * (length q - 0) + 9 * lengths_of (drop 0 q) ≤ 41856
all_width q few room = omega arith

-- ---- the state, as its parts were asked for

pub state_line_lem : (p : Param) (s : List Float) {rate : AutomationRate} {e : Edition} {b : Bounds} {v : Float} {block end : Option Float} {last : Option Finished} {n from : ℕ} {zeros : Bool}
    → rate ≡ p.rate → e ≡ p.edition → b ≡ p.bounds → v ≡ p.intrinsic → block ≡ p.last_block → end ≡ p.last_end → last ≡ p.last → n ≡ length p.queue → from ≡ lengths_of (take n p.queue) → zeros ≡ are_zeros (drop from (take 4096 s))
    → state_text rate e b v block end last n ++ (queue_text p.queue s ++ zeros_text zeros) ≡ state_line p s
unfolding state_line
state_line_lem p s e₁ k e₂ e₃ e₄ e₅ e₆ e₇ e₈ e₉ = rw (e₉, e₈, e₇, e₁, k, e₂, e₃, e₄, e₅, e₆, take-length p.queue)
