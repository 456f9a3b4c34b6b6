-- Cancel-and-hold by its events: the last one held, and what the first event later than c decides. Assumes nothing.
use Rattle.std.proofs.Common.{Some, None}
use mathlib.Core.Path.{◌≡◌, refl, sym, ap, ◌∙◌}
use mathlib.Core.Bool.{Bool, true, false, cond, not, ◌&&◌}
use mathlib.Core.List.{List, [], ◌∷◌, ◌++◌}
use Prim.Native.Nat.{ℕ, zero, suc, ◌+◌, ◌≤◌, ◌<◌}
use native.Mathlib.Nat.{suc-ne-zero}
use native.Mathlib.Omega.{arith}
use lib.ListN.{length, take, get_or, set, drop_of_length-le}
use lib.Seq.{take_all, take-suc, set_split, take-length, drop-length}
use lib.Ieee.{Float}
use Rattle.rules.specs.declared.Event.{Event}
use Rattle.rules.specs.Queue.{Waiting, is_ramp, put_at, those, events_of, attached, held_event, held_at, runs_at, is_later, is_not_later, any_covers, last_held, holds_ramp, held_by, held}
use Rattle.laws.specs.Search.{is_later_than}
use Rattle.laws.proofs.Events.{events_length, events_append, events_attached, events_those}
use Rattle.laws.proofs.Ordered.{events_last_held}
use Rattle.timeline.specs.Timeline.{first_of, is_kept, stays}
use Rattle.timeline.proofs.Laws.{nothing}

-- ---- the last event held

-- these events, with the one at i held where it runs at c
abbrev held_last : Float → ℕ → List Event → List Event
held_last c i es =
    let x = get_or es i nothing in
    take i es ++ (cond (runs_at c x) (held_event c x) x ∷ [])

last_is : (c : Float) (ws : List Waiting) (es : List Event) (i : ℕ) → events_of ws ≡ es → length es ≡ i + 1 → events_of (last_held c ws) ≡ held_last c i es
last_is c ws es i e n =
    let m : length ws ≡ length es = sym (events_length ws) ∙ ap length e in
    let a : length ws ≤ suc i = omega arith in
    ap (λ (vs : List Waiting). events_of (last_held c vs)) (sym (take_all (suc i) ws a)) ∙ events_last_held c ws i nothing (omega arith) ∙ ap (held_last c i) e

last_none : (c : Float) (ws : List Waiting) → length (events_of ws) ≡ 0 → events_of ws ≡ events_of (last_held c ws)
unfolding last_held events_of
last_none c [] n = refl
last_none c (w ∷ ws) n = absurd (suc-ne-zero (length (events_of ws)) n)

-- it reads the events alone
last_same : (c : Float) (ws vs : List Waiting) → events_of ws ≡ events_of vs → events_of (last_held c ws) ≡ events_of (last_held c vs)
last_same c ws vs e = go (length (events_of vs)) refl
  where
    go : (n : ℕ) → length (events_of vs) ≡ n → events_of (last_held c ws) ≡ events_of (last_held c vs)
    go zero z = sym (last_none c ws (ap length e ∙ z)) ∙ e ∙ last_none c vs z
    go (suc i) z = let m : length (events_of vs) ≡ i + 1 = omega arith in last_is c ws (events_of vs) i e m ∙ sym (last_is c vs (events_of vs) i refl m)

module _ (c : Float) (es : List Event) (i : ℕ) (n : length es ≡ i + 1) where
  abbrev last_one : Event
  last_one = get_or es i nothing

  pub last_runs : runs_at c last_one ≡ true → set es i (held_event c last_one) ≡ events_of (last_held c (attached es []))
  last_runs f =
      let m : i < length es = omega arith in
      let k : length es ≤ suc i = omega arith in
      rw (last_is c (attached es []) es i (events_attached es []) n, f, set_split es i (held_event c last_one) m, drop_of_length-le es k)

  pub last_rests : runs_at c last_one ≡ false → es ≡ events_of (last_held c (attached es []))
  last_rests f =
      let m : i < length es = omega arith in
      let k : length es ≤ suc i = omega arith in
      rw (last_is c (attached es []) es i (events_attached es []) n, f) (sym (take_all (suc i) es k) ∙ take-suc es i nothing m)

pub none_held : (c : Float) (es : List Event) → length es ≡ 0 → es ≡ events_of (last_held c (attached es []))
none_held c es n =
    let e : events_of (attached es []) ≡ es = events_attached es [] in
    sym e ∙ last_none c (attached es []) (ap length e ∙ n)

-- ---- what is held, by the first event later than c

module _ (c : Float) (ws : List Waiting) where
  by_none : (xs : List Waiting) → first_of (events_of xs) ≡ None → held_by c ws xs ≡ last_held c ws
  unfolding first_of held_by events_of
  by_none [] f = refl
  by_none (x ∷ xs) f = let z : ◌≡◌ {A = ℕ} 0 1 = cc in absurd (omega arith)

  -- as code asks it: the first later event is a ramp, and c lies inside none of the others
  abbrev ramps : Event → Bool
  ramps e = is_ramp e && not (any_covers c (events_of ws))

  module _ (e : Event) where
    by_ramp : (xs : List Waiting) → first_of (events_of xs) ≡ Some e → ramps e ≡ true → events_of (held_by c ws xs) ≡ events_of ws ++ (held_event c e ∷ [])
    unfolding first_of held_by holds_ramp events_of held_at
    by_ramp [] f r = let z : ◌≡◌ {A = ℕ} 0 1 = cc in absurd (omega arith)
    by_ramp (x ∷ xs) f r = let k : x.event ≡ e = cc in rw (ap ramps k ∙ r) (events_append ws (held_at c x ∷ []) ∙ ap (λ (d : Event). events_of ws ++ (held_event c d ∷ [])) k)

    by_other : (xs : List Waiting) → first_of (events_of xs) ≡ Some e → ramps e ≡ false → held_by c ws xs ≡ last_held c ws
    unfolding first_of held_by holds_ramp events_of
    by_other [] f r = let z : ◌≡◌ {A = ℕ} 0 1 = cc in absurd (omega arith)
    by_other (x ∷ xs) f r = let k : x.event ≡ e = cc in rw (ap ramps k ∙ r)

those_both : {A : Type 0} (keep test : A → Bool) → ((x : A) → keep x ≡ not (test x)) → (xs : List A)
    → length (those keep xs) + length (those test xs) ≡ length xs
unfolding those
those_both keep test o [] = refl
those_both keep test o (x ∷ xs) = rw (o x) (go (test x) (those_both keep test o xs))
  where
    go : (b : Bool) → length (those keep xs) + length (those test xs) ≡ length xs
        → length (cond (not b) (x ∷ those keep xs) (those keep xs)) + length (cond b (x ∷ those test xs) (those test xs)) ≡ suc (length xs)
    go true e = omega arith
    go false e = omega arith

first_some : (xs : List Event) (e : Event) → first_of xs ≡ Some e → 0 < length xs
unfolding first_of
first_some [] e f = let z : ◌≡◌ {A = ℕ} 0 1 = cc in absurd (omega arith)
first_some (x ∷ xs) e f = omega arith

-- ---- the queue held

module _ (c : Float) (q : List Event) where
  abbrev early : List Event
  early = those (stays true c) q

  abbrev late : List Event
  late = those (is_later_than c) q

  abbrev ws : List Waiting
  ws = attached q []

  early_are : events_of (those (is_not_later c) ws) ≡ early
  unfolding is_kept is_not_later is_later
  early_are = events_those (stays true c) ws ∙ ap (those (stays true c)) (events_attached q [])

  late_are : events_of (those (is_later c) ws) ≡ late
  unfolding is_later is_later_than
  late_are = events_those (is_later_than c) ws ∙ ap (those (is_later_than c)) (events_attached q [])

  last_early : events_of (last_held c (attached early [])) ≡ events_of (last_held c (those (is_not_later c) ws))
  last_early = last_same c (attached early []) (those (is_not_later c) ws) (events_attached early [] ∙ sym early_are)

  pub held_none : first_of late ≡ None → events_of (last_held c (attached early [])) ≡ events_of (held c ws)
  unfolding held
  held_none f = last_early ∙ sym (ap events_of (by_none c (those (is_not_later c) ws) (those (is_later c) ws) (ap first_of late_are ∙ f)))

  module _ (e : Event) (f : first_of late ≡ Some e) where
    asked : {b : Bool} → (is_ramp e && not (any_covers c early)) ≡ b → (is_ramp e && not (any_covers c (events_of (those (is_not_later c) ws)))) ≡ b
    asked r = ap (λ (xs : List Event). is_ramp e && not (any_covers c xs)) early_are ∙ r

    pub held_other : (is_ramp e && not (any_covers c early)) ≡ false → events_of (last_held c (attached early [])) ≡ events_of (held c ws)
    unfolding held
    held_other r = last_early ∙ sym (ap events_of (by_other c (those (is_not_later c) ws) e (those (is_later c) ws) (ap first_of late_are ∙ f) (asked r)))

    pub held_ramp : (is_ramp e && not (any_covers c early)) ≡ true → put_at (length early) (held_event c e) early ≡ events_of (held c ws)
    unfolding put_at held
    held_ramp r =
        rw (take-length early, drop-length early)
        (sym
        (by_ramp c (those (is_not_later c) ws) e (those (is_later c) ws) (ap first_of late_are ∙ f) (asked r)
        ∙ ap (λ (xs : List Event). xs ++ (held_event c e ∷ [])) early_are))

    -- the ramp has the room of those that go
    pub early_fewer : length early < length q
    unfolding is_kept is_not_later is_later is_later_than
    early_fewer =
        let b : length early + length late ≡ length q = those_both (stays true c) (is_later_than c) (λ x. refl) q in
        let s : 0 < length late = first_some late e f in
        omega arith
