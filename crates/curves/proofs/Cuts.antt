-- What a cut leaves of the numbers, turn by turn. Assumes nothing.
use mathlib.Core.Path.{◌≡◌, refl, sym, ap, ap₂, ◌∙◌}
use mathlib.Core.Bool.{Bool, true, false, cond}
use mathlib.Core.List.{List, [], ◌∷◌, ◌++◌, append-nil}
use Prim.Native.Nat.{ℕ, ◌+◌, ◌-◌, ◌≤◌, ◌<◌}
use native.Mathlib.Omega.{arith}
use lib.ListN.{length, take, drop, get_or, replicate, length-append, length-take, length-drop}
use lib.Seq.{take_all, take-paste, drop-paste, length-paste, drop-drop}
use lib.Ieee.{Float}
use Rattle.rules.specs.declared.Event.{Event}
use Rattle.rules.specs.Numbers.{plus_zero}
use Rattle.rules.specs.Queue.{Waiting, length_of, lengths_of, numbers_of, attached, those, is_before, is_later, is_not_later}
use Rattle.laws.proofs.Store.{numbers-append, attached-append}
use Rattle.timeline.specs.declared.AudioParamEventTimeline.{AudioParamEventTimeline}
use Rattle.timeline.specs.Timeline.{waiting, is_kept, stays}
use Rattle.timeline.proofs.Lists.{those_snoc}
use Rattle.timeline.proofs.Laws.{nothing, one_more, offset_more, offset_most}
use Rattle.curves.specs.Curves.{moved, packed_in}

-- the test reads the event alone
kept-alone : (equal : Bool) (c : Float) (w : Waiting) → is_kept equal c w ≡ stays equal c w.event
unfolding is_kept is_before is_later is_not_later
kept-alone true c w = refl
kept-alone false c w = refl

-- an event as read from a store, with the numbers of those before it passed over
abbrev read_at : ℕ → Event → List Float → Waiting
read_at offset e o = record { event = e; numbers = take (length_of e) (drop offset o) }

attached_snoc : (es : List Event) (e : Event) (o : List Float) → attached (es ++ (e ∷ [])) o ≡ attached es o ++ (read_at (lengths_of es) e o ∷ [])
unfolding attached
attached_snoc es e o = attached-append es (e ∷ []) o

-- what a cut leaves of the numbers of these events
abbrev pub Cut : Bool → Float → List Event → List Float → List Float
Cut equal c es o = numbers_of (those (is_kept equal c) (attached es o))

cut_snoc : (equal : Bool) (c : Float) (es : List Event) (e : Event) (o : List Float)
    → Cut equal c (es ++ (e ∷ [])) o ≡ Cut equal c es o ++ cond (stays equal c e) (take (length_of e) (drop (lengths_of es) o)) []
cut_snoc equal c es e o =
    ap (λ (ws : List Waiting). numbers_of (those (is_kept equal c) ws)) (attached_snoc es e o)
    ∙ ap numbers_of (those_snoc (is_kept equal c) (attached es o) (read_at (lengths_of es) e o))
    ∙ numbers-append (those (is_kept equal c) (attached es o)) (cond (is_kept equal c (read_at (lengths_of es) e o)) (read_at (lengths_of es) e o ∷ []) [])
    ∙ ap (λ (l : List Float). Cut equal c es o ++ l) (one (is_kept equal c (read_at (lengths_of es) e o)) (kept-alone equal c (read_at (lengths_of es) e o)))
  where
    one : (b : Bool) → b ≡ stays equal c e → numbers_of (cond b (read_at (lengths_of es) e o ∷ []) []) ≡ cond (stays equal c e) (take (length_of e) (drop (lengths_of es) o)) []
    one true f = rw (← f) (unfold numbers_of in append-nil (take (length_of e) (drop (lengths_of es) o)))
    one false f = rw (← f) (unfold numbers_of in refl)

module _ (equal : Bool) (c : Float) (q : AudioParamEventTimeline) (o : List Float) where
  -- the first i events are passed: what is left of their numbers stands up to `to`, and the numbers from `from` on are as they were
  pub record Closed (part : List Float) (from to i : ℕ) : Type 0 where
    pub passed : from ≡ lengths_of (take i (waiting q))
    pub kept : to ≡ length (Cut equal c (take i (waiting q)) o)
    pub behind : to ≤ from
    pub long : length part ≡ length o
    pub front : take to part ≡ Cut equal c (take i (waiting q)) o
    pub back : drop from part ≡ drop from o

  pub closed_none : Closed o 0 0 0
  unfolding lengths_of attached those numbers_of
  closed_none = record { passed = refl; kept = refl; behind = omega arith; long = refl; front = refl; back = refl }

  module _ (fits : lengths_of (waiting q) ≤ length o) (part : List Float) (from to i : ℕ) (l : i < length (waiting q)) (s : Closed part from to i)
      (k : ℕ) (g : k ≡ length_of (get_or (waiting q) i nothing)) where
    abbrev this : Event
    this = get_or (waiting q) i nothing

    passes : from + k ≡ lengths_of (take (i + 1) (waiting q))
    passes = rw (offset_more (waiting q) i l, s.passed, g)

    pub closed_room : from + k ≤ length o
    closed_room = omega (arith, passes, offset_most (waiting q) (i + 1))

    -- the numbers of the event that is looked at
    numbers_are : take (length_of this) (drop (lengths_of (take i (waiting q))) o) ≡ take k (drop from o)
    numbers_are =
        ap (λ (n : ℕ). take (length_of this) (drop n o)) (sym s.passed)
        ∙ ap (λ (n : ℕ). take n (drop from o)) (sym g)

    cut_more : {b : Bool} → b ≡ stays equal c this
        → Cut equal c (take (i + 1) (waiting q)) o ≡ Cut equal c (take i (waiting q)) o ++ cond b (take k (drop from o)) []
    cut_more {b} e =
        ap (λ (es : List Event). Cut equal c es o) (one_more (waiting q) i l)
        ∙ cut_snoc equal c (take i (waiting q)) this o
        ∙ ap (λ (xs : List Float). Cut equal c (take i (waiting q)) o ++ cond (stays equal c this) xs []) numbers_are
        ∙ ap (λ (v : Bool). Cut equal c (take i (waiting q)) o ++ cond v (take k (drop from o)) []) (sym e)

    untouched : (p : List Float) → drop from p ≡ drop from o → drop (from + k) p ≡ drop (from + k) o
    untouched p e = sym (drop-drop k from p) ∙ ap (drop k) e ∙ drop-drop k from o

    -- its numbers go
    pub closed_skip : false ≡ stays equal c this → Closed part (from + k) to (i + 1)
    closed_skip e =
        let m : Cut equal c (take (i + 1) (waiting q)) o ≡ Cut equal c (take i (waiting q)) o = cut_more e ∙ append-nil (Cut equal c (take i (waiting q)) o) in
        record {
          passed = passes;
          kept = s.kept ∙ ap length (sym m);
          behind = let b : to ≤ from = s.behind in omega arith;
          long = s.long;
          front = s.front ∙ sym m;
          back = untouched part s.back;
        }

    -- its numbers stay
    pub closed_take : true ≡ stays equal c this → Closed (moved part from to k) (from + k) (to + k) (i + 1)
    closed_take e =
        let b : to ≤ from = s.behind in
        let r : from + k ≤ length o = closed_room in
        let n : length part ≡ length o = s.long in
        let d : length (drop from part) ≡ length part - from = length-drop from part in
        let t : to ≤ length part = omega arith in
        let u : k ≤ length (drop from part) = omega arith in
        let m : Cut equal c (take (i + 1) (waiting q)) o ≡ Cut equal c (take i (waiting q)) o ++ take k (drop from o) = cut_more e in
        let v : length (take k (drop from o)) ≡ k = simp (length-take, length-drop) (omega arith) in
        let w : (to + k) + (from - to) ≡ from + k = omega arith in
        record {
          passed = passes;
          kept = sym (ap length m ∙ length-append (Cut equal c (take i (waiting q)) o) (take k (drop from o)) ∙ ap₂ ◌+◌ (sym s.kept) v);
          behind = omega arith;
          long = length-paste part to (drop from part) k (omega arith) u ∙ n;
          front = take-paste part to (drop from part) k t u ∙ ap₂ ◌++◌ s.front (ap (take k) s.back) ∙ sym m;
          back =
              ap (λ (j : ℕ). drop j (moved part from to k)) (sym w)
              ∙ sym (drop-drop (from - to) (to + k) (moved part from to k))
              ∙ ap (drop (from - to)) (drop-paste part to (drop from part) k t u)
              ∙ drop-drop (from - to) (to + k) part
              ∙ ap (λ (j : ℕ). drop j part) w
              ∙ untouched part s.back;
        }

  -- all are passed, and zeros stand behind
  pub closed_all : (part : List Float) (from to i : ℕ) → Closed part from to i → length (waiting q) ≤ i
      → take to part ++ replicate (length part - to) plus_zero ≡ packed_in (length o) (those (is_kept equal c) (attached (waiting q) o))
  unfolding packed_in
  closed_all part from to i s l =
      let a : Cut equal c (take i (waiting q)) o ≡ Cut equal c (waiting q) o = ap (λ (es : List Event). Cut equal c es o) (take_all i (waiting q) l) in
      let f : take to part ≡ Cut equal c (waiting q) o = s.front ∙ a in
      let m : to ≡ length (Cut equal c (waiting q) o) = s.kept ∙ ap length a in
      rw (f, s.long) (ap (λ (k : ℕ). Cut equal c (waiting q) o ++ replicate (length o - k) plus_zero) m)
