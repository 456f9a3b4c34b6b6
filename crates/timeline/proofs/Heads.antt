-- A queue taken apart at a place: the head there, its numbers, and what waits behind it. Assumes nothing.
use Rattle.std.proofs.Common.{Option, Some, None}
use mathlib.Core.Path.{◌≡◌, refl, sym, ap, ◌∙◌}
use mathlib.Core.List.{List, [], ◌∷◌}
use Prim.Native.Nat.{ℕ, ◌+◌, ◌-◌, ◌≤◌, ◌<◌}
use native.Mathlib.Omega.{arith}
use lib.ListN.{length, take, drop, length-drop}
use lib.Seq.{length-take-le, drop-drop}
use lib.Ieee.{Float}
use borrow.Author.Tests.{leb-true}
use Rattle.rules.specs.declared.Event.{Event}
use Rattle.rules.specs.Numbers.{store_length}
use Rattle.rules.specs.Queue.{Waiting, head_of, length_of, lengths_of, attached}
use Rattle.laws.specs.Sound.{is_clear, SoundQueue}
use Rattle.laws.proofs.Clear.{all-parts, all_drop, curve_parts}
use Rattle.laws.proofs.Events.{lengths_split}
use Rattle.laws.proofs.Store.{attached-drop, no_numbers}
use Rattle.timeline.specs.Timeline.{first_of}
use Rattle.timeline.specs.Heads.{waiting_as, numbers_at, Numbered}

-- what code reads as the head is the rules' head
pub head_attached : (es : List Event) (store : List Float) → head_of (attached es store) ≡ first_of es
unfolding head_of attached first_of
head_attached [] store = refl
head_attached (e ∷ es) store = refl

first_here : (es : List Event) (e : Event) → first_of es ≡ Some e → es ≡ e ∷ drop 1 es
unfolding first_of
first_here [] e h = let z : ◌≡◌ {A = ℕ} 0 1 = cc in absurd (omega arith)
first_here (x ∷ es) e h = let g : x ≡ e = cc in rw g

first_none : (es : List Event) → first_of es ≡ None → es ≡ []
unfolding first_of
first_none [] h = refl
first_none (x ∷ es) h = let z : ◌≡◌ {A = ℕ} 0 1 = cc in absurd (omega arith)

-- ---- the numbers of an event

-- one that is no curve has none
pub bare : {e : Event} {xs : List Float} → Numbered e xs → (d : Event) → e ≡ d → length_of d ≡ 0 → xs ≡ []
bare {e} {xs} n d is z = no_numbers xs (n.fits ∙ ap length_of is ∙ z)

-- a curve has as many as it says, and at least 2
module _ {e : Event} {xs : List Float} (n : Numbered e xs) {s d : Float} {k : ℕ} {h : Option Float} (is : e ≡ Event.Curve s d k h) where
  curve_size : length xs ≡ k
  unfolding length_of
  curve_size = n.fits ∙ ap length_of is

  pub curve_is : e ≡ Event.Curve s d (length xs) h
  curve_is = is ∙ ap (λ (m : ℕ). Event.Curve s d m h) (sym curve_size)

  pub curve_enough : 2 ≤ length xs
  curve_enough = rw curve_size (leb-true 2 k (curve_parts s d k h (sym (ap is_clear is) ∙ n.clear)).enough)

  pub curve_few : length xs ≤ store_length
  curve_few = rw n.fits n.few

-- the numbers, as code takes them: k of them from the offset on
abbrev pub lent : List Float → ℕ → ℕ → List Float
lent store offset k = take (offset + k - offset) (drop offset store)

pub lent_is : (store : List Float) (offset : ℕ) (e : Event) {k : ℕ} → k ≡ length_of e → lent store offset k ≡ numbers_at store offset e
lent_is store offset e {k} size = let z : offset + k - offset ≡ length_of e = omega arith in rw z

-- ---- at a place of the queue

module _ (es : List Event) (store : List Float) (at : ℕ) where
  abbrev ws : List Waiting
  ws = attached es store

  -- none waits there
  pub none_waits : first_of (drop at es) ≡ None → drop at ws ≡ []
  unfolding attached
  none_waits h = let z : drop at es ≡ [] = first_none (drop at es) h in sym (attached-drop at es store) ∙ rw z

  -- the head e waits there, and its numbers begin at the offset
  module _ {offset : ℕ} (from : offset ≡ lengths_of (take at es)) {e : Event} (is : first_of (drop at es) ≡ Some e) where
    here : drop at es ≡ e ∷ drop (at + 1) es
    here = first_here (drop at es) e is ∙ ap (λ (l : List Event). e ∷ l) (drop-drop 1 at es)

    pub inside : at < length es
    inside = omega (arith, length-drop at es, ap length here)

    pub past_is : offset + length_of e ≡ lengths_of (take (at + 1) es)
    unfolding lengths_of
    past_is = omega (arith, from, lengths_split at es, lengths_split (at + 1) es, ap lengths_of here)

    pub past_most : offset + length_of e ≤ lengths_of es
    past_most = omega (arith, past_is, lengths_split (at + 1) es)

    pub waits_here : drop at ws ≡ waiting_as e (numbers_at store offset e) ∷ drop (at + 1) ws
    unfolding attached
    waits_here =
        sym (attached-drop at es store)
        ∙ rw (here, ← from, drop-drop (length_of e) offset store, past_is)
        (ap (λ (l : List Waiting). waiting_as e (numbers_at store offset e) ∷ l) (attached-drop (at + 1) es store))

    pub numbered : SoundQueue es → lengths_of es ≤ length store → Numbered e (numbers_at store offset e)
    numbered s l =
        record {
          fits = length-take-le (length_of e) (drop offset store) (rw (length-drop offset store) (omega (arith, past_most)));
          few = omega (arith, past_most, s.room);
          clear = (all-parts is_clear e _ (rw here at (all_drop is_clear at es s.clear))).0;
        }

  -- what is behind that place is the rules' next head
  pub behind_is : {n : Option Event} → n ≡ first_of (drop (at + 1) es) → n ≡ head_of (drop (at + 1) ws)
  behind_is h = h ∙ sym (head_attached (drop (at + 1) es) _) ∙ ap head_of (attached-drop (at + 1) es store)
