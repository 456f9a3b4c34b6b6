-- The walk of a look as a loop over heads: what holds before each, and what each does of the rules' walk. Assumes nothing.
use Rattle.std.proofs.Common.{Option, Some, None}
use mathlib.Core.Path.{◌≡◌, refl, sym, ap, subst, ◌∙◌}
use mathlib.Core.Bool.{Bool, true, false, cond}
use mathlib.Core.List.{List, [], ◌∷◌}
use Prim.Native.Nat.{ℕ, ◌+◌, ◌*◌, ◌≤◌, ◌<◌}
use native.Mathlib.Omega.{arith}
use lib.Dec.{leb}
use lib.ListN.{length, take, drop, get_or}
use lib.Ieee.{Float}
use borrow.Author.Tests.{leb-true, leb-false}
use Rattle.rules.specs.declared.BlockInfos.{BlockInfos}
use Rattle.rules.specs.declared.Event.{Event}
use Rattle.rules.specs.Numbers.{plus_zero}
use Rattle.rules.specs.Queue.{Waiting, head_of, length_of, lengths_of, attached}
use Rattle.rules.specs.Walk as rule
use Rattle.rules.specs.Walk.{stop, on, turn, turn_of, walked, ended, counted, fill, with_values}
use Rattle.laws.specs.Sound.{SoundQueue}
use Rattle.laws.proofs.Counts.{head_counts}
use Rattle.laws.proofs.Walks.{stop_leaves}
use Rattle.laws.proofs.Store.{left-numbers}
use Rattle.laws.proofs.Shapes.{walk_empty, walk_stops, walk_goes_on}
use Rattle.timeline.specs.Timeline.{first_of}
use Rattle.timeline.specs.Heads.{waiting_as, numbers_at, with_head}
use Rattle.timeline.proofs.Heads.{lent, lent_is, none_waits, inside, waits_here, numbered, behind_is}
use Rattle.plain.specs.declared.Look.{Look}
use Rattle.plain.specs.declared.Turn.{Turn}
use Rattle.plain.specs.Seen.{filled_of, seen, seen_turn, counted_as, ended_as, Finds}
use Rattle.plain.proofs.Sees.{fill_passed, fill_other, fill-found, counted_is}

-- ---- a turn that is seen to stop, or to go on

record Stopped (f : BlockInfos) (n : ℕ) (t : rule.Turn) (look : Look) (head : Event) : Type 0 where
  pub walk : rule.Walk
  pub left : Waiting
  pub is : t ≡ stop walk left
  pub look_is : look ≡ seen f n walk
  pub head_is : head ≡ left.event

record Gone (f : BlockInfos) (n : ℕ) (t : rule.Turn) (look : Look) : Type 0 where
  pub walk : rule.Walk
  pub is : t ≡ on walk
  pub look_is : look ≡ seen f n walk

stopped : (f : BlockInfos) (n : ℕ) (t : rule.Turn) (look : Look) (head : Event) → Turn.Stop look head ≡ seen_turn f n t → Stopped f n t look head
unfolding seen_turn
stopped f n (stop w x) look head e = record { walk = w; left = x; is = refl; look_is = cc; head_is = cc }
stopped f n (on w) look head e = let z : ◌≡◌ {A = ℕ} 0 1 = cc in absurd (omega arith)

gone : (f : BlockInfos) (n : ℕ) (t : rule.Turn) (look : Look) → Turn.On look ≡ seen_turn f n t → Gone f n t look
unfolding seen_turn
gone f n (stop w x) look e = let z : ◌≡◌ {A = ℕ} 0 1 = cc in absurd (omega arith)
gone f n (on w) look e = record { walk = w; is = refl; look_is = cc }

-- ---- the end of a walk: places left take the intrinsic value

module _ (f : BlockInfos) (n : ℕ) (w : rule.Walk) (few : n < f.count) where
  abbrev k : ℕ
  k = filled_of f.rate f.count (length w.values)

  abbrev done : rule.Walk
  done = fill f f.count (λ t. w.intrinsic) w

  rest_found : cond (leb k n) w.intrinsic (get_or w.values n plus_zero) ≡ get_or done.values n plus_zero
  rest_found = go (leb k n) (leb f.count k) refl refl
    where
      value : {l : Look} → seen f n done ≡ l → l.found ≡ get_or done.values n plus_zero
      value e = unfold seen in sym (ap (λ (l : Look). l.found) e)

      go : (b c : Bool) → leb k n ≡ b → leb f.count k ≡ c → cond b w.intrinsic (get_or w.values n plus_zero) ≡ get_or done.values n plus_zero
      go true c h g =
          let m : k ≤ n = leb-true k n h in
          value (fill-found f f.count (λ t. w.intrinsic) w n (omega arith) (omega arith) m few)
      go false true h g = unfold seen in value (fill_passed f f.count (λ t. w.intrinsic) w n (omega arith) (leb-true f.count k g))
      go false false h g = value (fill_other f f.count (λ t. w.intrinsic) w n (omega arith) (leb-false f.count k g) (rw h))

  pub finds : {s : Look} → s ≡ seen f n w → (at : ℕ) (head : Option Event) (ws left : List Waiting) → with_head head (drop at ws) ≡ left → Finds n (ended f w left) ws (ended_as s at head)
  unfolding seen ended fill with_values
  finds {s} e at head ws left q =
      record {
        place = ap (λ (l : Look). l.place) e;
        found = ap (λ (l : Look). cond (leb l.filled l.place) l.intrinsic l.found) e ∙ rest_found;
        intrinsic = ap (λ (l : Look). l.intrinsic) e;
        last = ap (λ (l : Look). l.last) e;
        steps = ap (λ (l : Look). l.steps) e;
        queue = q;
      }

-- ---- the loop

-- Before the head at a place: the look sees a walk, which goes on as the whole one from w₀.
pub record Going (f : BlockInfos) (es : List Event) (store : List Float) (n : ℕ) (w₀ : rule.Walk) (look : Look) (at : ℕ) : Type 0 where
  pub walk : rule.Walk
  pub is : look ≡ seen f n walk
  pub few : at ≤ length es
  pub steps : walk.steps ≤ 2 * at
  pub goes_on : walked f walk (drop at (attached es store)) ≡ walked f w₀ (attached es store)

module _ (f : BlockInfos) (es : List Event) (store : List Float) (n : ℕ) (w₀ : rule.Walk) where
  abbrev ws : List Waiting
  ws = attached es store

  pub begins : {look : Look} → look ≡ seen f n w₀ → w₀.steps ≡ 0 → Going f es store n w₀ look 0
  begins e z = record { walk = w₀; is = e; few = omega arith; steps = omega arith; goes_on = refl }

  module _ {look : Look} {at : ℕ} (g : Going f es store n w₀ look at) where
    pub few_steps : look.steps ≤ 2 * at
    unfolding seen
    few_steps = omega (arith, g.steps, ap (λ (l : Look). l.steps) g.is)

    pub same_infos : look.infos ≡ f
    unfolding seen
    same_infos = ap (λ (l : Look). l.infos) g.is

    -- the queue is empty
    pub none_left : n < f.count → first_of (drop at es) ≡ None → Finds n (walked f w₀ ws) ws (ended_as (counted_as look) at None)
    unfolding with_head
    none_left few h =
        let y : drop at ws ≡ [] = none_waits es store at h in
        let all : walked f w₀ ws ≡ ended f (counted g.walk) [] = sym g.goes_on ∙ ap (walked f g.walk) y ∙ walk_empty f g.walk in
        rw all (finds f n (counted g.walk) few (counted_is f n g.walk g.is) at None ws [] y)

    -- the head e, with its numbers
    module _ {e : Event} (is : first_of (drop at es) ≡ Some e) {offset : ℕ} (from : offset ≡ lengths_of (take at es)) where
      abbrev head : Waiting
      head = waiting_as e (numbers_at store offset e)

      abbrev rest : List Waiting
      rest = drop (at + 1) ws

      here : drop at ws ≡ head ∷ rest
      here = waits_here es store at from is

      -- taken, with m numbers from the offset on
      module _ {m : ℕ} (size : m ≡ length_of e) {next : Option Event} (behind : next ≡ first_of (drop (at + 1) es)) {t : Turn}
          (answer : t ≡ seen_turn f n (turn_of f (counted g.walk) (waiting_as e (lent store offset m)) next e)) where
        turned : t ≡ seen_turn f n (turn f g.walk head (head_of rest))
        unfolding turn
        turned = rw (lent_is store offset e size, behind_is es store at behind) at answer

        pub head_stops : n < f.count → SoundQueue es → lengths_of es ≤ length store → {s : Look} {left : Event} → t ≡ Turn.Stop s left
            → Finds n (walked f w₀ ws) ws (ended_as s at (Some left))
        unfolding with_head
        head_stops few sound room {s} {left} stops =
            let d = stopped f n _ s left (sym stops ∙ turned) in
            let numbers : d.left.numbers ≡ numbers_at store offset e =
            left-numbers f head d.left (head_of rest) (stop_leaves f g.walk d.walk head d.left (head_of rest) d.is) (numbered es store at from is sound room).fits in
            let became : waiting_as left (numbers_at store offset e) ≡ d.left =
            ap (λ (y : Event). waiting_as y (numbers_at store offset e)) d.head_is ∙ ap (waiting_as d.left.event) (sym numbers) in
            let all : walked f w₀ ws ≡ ended f d.walk (d.left ∷ rest) =
            sym g.goes_on ∙ ap (walked f g.walk) here ∙ walk_stops f g.walk head rest d.walk d.left d.is in
            let queue : with_head (Some left) (drop at ws) ≡ d.left ∷ rest = ap (with_head (Some left)) here ∙ ap (λ (y : Waiting). y ∷ rest) became in
            subst (λ (x : rule.Walked). Finds n x ws (ended_as s at (Some left))) (sym all) (finds f n d.walk few d.look_is at (Some left) ws (d.left ∷ rest) queue)

        pub head_goes : {s : Look} → t ≡ Turn.On s → Going f es store n w₀ s (at + 1)
        head_goes {s} goes =
            let d = gone f n _ s (sym goes ∙ turned) in
            record {
              walk = d.walk;
              is = d.look_is;
              few = omega (arith, inside es store at from is);
              steps = omega (arith, (head_counts f g.walk d.walk head rest d.is).0, g.steps);
              goes_on = sym (walk_goes_on f g.walk head rest d.walk d.is) ∙ ap (walked f g.walk) (sym here) ∙ g.goes_on;
            }
