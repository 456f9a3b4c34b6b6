-- A queue weighed event by event: what arrives adds its weight, and neither a cancel nor a hold adds any. Assumes nothing.
use mathlib.Core.Path.{◌≡◌, refl, sym, ap, ◌∙◌}
use mathlib.Core.Bool.{Bool, true, false, cond}
use mathlib.Core.List.{List, [], ◌∷◌, ◌++◌}
use Prim.Native.Nat.{ℕ, ◌+◌, ◌≤◌}
use native.Mathlib.Omega.{arith}
use lib.ListN.{length, take, drop, take-append-drop}
use lib.Ieee.{Float}
use Rattle.rules.specs.declared.Event.{Event}
use Rattle.rules.specs.Queue.{put_at, those, held_event}
use Rattle.laws.specs.Held.{AsBefore, none, same, in_place, moved, goes}

unfoldable pub weigh : (Event → ℕ) → List Event → ℕ
weigh n [] = 0
weigh n (e ∷ es) = n e + weigh n es

-- each weighs one
abbrev pub each : Event → ℕ
each e = 1

-- an exponential ramp weighs one, all else nothing
unfoldable pub exponentials : Event → ℕ
exponentials (Event.Step v t) = 0
exponentials (Event.Linear v t h) = 0
exponentials (Event.Exponential v t h) = 1
exponentials (Event.Target v t c h) = 0
exponentials (Event.Curve s d n h) = 0

pub one_at_most : (e : Event) → exponentials e ≤ 1
unfolding exponentials
one_at_most (Event.Step v t) = omega arith
one_at_most (Event.Linear v t h) = omega arith
one_at_most (Event.Exponential v t h) = omega arith
one_at_most (Event.Target v t c h) = omega arith
one_at_most (Event.Curve s d n h) = omega arith

pub weigh_each : (q : List Event) → weigh each q ≡ length q
unfolding weigh
weigh_each [] = refl
weigh_each (e ∷ q) = omega (arith, weigh_each q)

-- one for each at most
pub weigh_exponentials : (q : List Event) → weigh exponentials q ≤ length q
unfolding weigh
weigh_exponentials [] = omega arith
weigh_exponentials (e ∷ q) = omega (arith, one_at_most e, weigh_exponentials q)

module _ (n : Event → ℕ) where
  weigh_append : (p q : List Event) → weigh n (p ++ q) ≡ weigh n p + weigh n q
  unfolding weigh
  weigh_append [] q = omega arith
  weigh_append (e ∷ p) q = rw (weigh_append p q) (omega arith)

  pub weigh_put : (k : ℕ) (e : Event) (q : List Event) → weigh n (put_at k e q) ≡ n e + weigh n q
  unfolding put_at weigh
  weigh_put k e q =
      let parts : weigh n (take k q) + weigh n (drop k q) ≡ weigh n q = sym (weigh_append (take k q) (drop k q)) ∙ ap (weigh n) (take-append-drop k q) in
      rw (weigh_append (take k q) (e ∷ drop k q)) (omega arith)

  pub weigh_those : (test : Event → Bool) (q : List Event) → weigh n (those test q) ≤ weigh n q
  unfolding weigh those
  weigh_those test [] = omega arith
  weigh_those test (e ∷ q) = go (test e) (weigh_those test q)
    where
      go : (b : Bool) → weigh n (those test q) ≤ weigh n q → weigh n (cond b (e ∷ those test q) (those test q)) ≤ n e + weigh n q
      go true h = omega arith
      go false h = omega arith

  -- what a hold leaves of a queue
  module _ (c : Float) (light : (e : Event) → n (held_event c e) ≤ n e) where
    pub weigh_held : (p q : List Event) → AsBefore c p q → weigh n q ≤ weigh n p
    unfolding weigh
    weigh_held p q none = omega arith
    weigh_held p q (same {p = p'} {q = q'} h) = omega (arith, weigh_held p' q' h)
    weigh_held p q (in_place {e = e} {p = p'} {q = q'} f h) = omega (arith, light e, weigh_held p' q' h)
    weigh_held p q (moved {e = e} {p = p'} l f h) = omega (arith, light e)
    weigh_held p q (goes {p = p'} {q = q'} l h) = omega (arith, weigh_held p' q' h)

-- a hold leaves an event's kind
pub held_exponentials : (c : Float) (e : Event) → exponentials (held_event c e) ≤ exponentials e
unfolding exponentials held_event
held_exponentials c (Event.Step v t) = omega arith
held_exponentials c (Event.Linear v t h) = omega arith
held_exponentials c (Event.Exponential v t h) = omega arith
held_exponentials c (Event.Target v t k h) = omega arith
held_exponentials c (Event.Curve s d n h) = omega arith
