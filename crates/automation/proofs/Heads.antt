-- The walk as a loop over heads: what holds before each, and what each does of the rules' walk. Assumes nothing.
use Rattle.std.proofs.Common.{Option, Some, None}
use Rattle.rules.specs.declared.Finished.{Finished}
use mathlib.Core.Path.{◌≡◌, refl, sym, ap, ◌∙◌}
use mathlib.Core.List.{List, [], ◌∷◌}
use Prim.Native.Nat.{ℕ, ◌+◌, ◌*◌, ◌≤◌, ◌<◌, ◌^◌}
use native.Mathlib.Numerals.{add-one}
use native.Mathlib.Omega.{arith}
use lib.ListN.{length, take, drop, set, length-set}
use lib.Seq.{take-suc-set}
use lib.Ieee.{Float}
use Rattle.rules.specs.declared.AutomationRate.TheVariants as Rate
use Rattle.rules.specs.declared.Event.{Event}
use Rattle.rules.specs.declared.BlockInfos.{BlockInfos}
use Rattle.rules.specs.Queue.{Waiting, head_of, length_of, lengths_of, attached}
use Rattle.rules.specs.Walk as Rules
use Rattle.rules.specs.Walk.{on, turn, turn_of, walked, ended, counted, with_values, fill}
use Rattle.rules.specs.Block.{walk_from, values_before}
use Rattle.laws.specs.Sound.{SoundQueue}
use Rattle.laws.proofs.Counts.{head_counts}
use Rattle.laws.proofs.Shapes.{walk_empty, walk_stops, walk_goes_on}
use Rattle.timeline.specs.declared.AudioParamEventTimeline.{AudioParamEventTimeline}
use Rattle.timeline.specs.Timeline.{waiting, first_of}
use Rattle.timeline.specs.Heads.{waiting_as, numbers_at, Numbered, with_head}
use Rattle.timeline.proofs.Heads.{lent, lent_is, none_waits, waits_here, past_is, behind_is, inside as place_inside, past_most as numbers-most, numbered as numbered-there}
use Rattle.fills.specs.Filled.{Room, Filled}
use Rattle.automation.specs.declared.Walk.{Walk}
use Rattle.automation.specs.declared.Walked.{Walked}
use Rattle.automation.specs.declared.Turn.{Turn}
use Rattle.automation.specs.Walks.{walk_as, turn_as, with_filled, counted_once, Ready, Turns}
use Rattle.automation.specs.Walked.{Begins, Ends, Walkable, Walks}

-- ---- the ends of a walk

pub begins_a : {f : BlockInfos} {v : Float} {l : Option Finished} {b : List Float} → f.rate ≡ Rate.A
    → Begins f v l b (record { intrinsic = v; last = l; filled = 0; steps = 0; finished = 0; turned = 0 }) b
unfolding values_before
begins_a r = record { walk = rw r; filled = omega arith; whole = refl }

pub begins_k : {f : BlockInfos} {v : Float} {l : Option Finished} {b : List Float} → 0 < length b → f.rate ≡ Rate.K
    → Begins f v l b (record { intrinsic = v; last = l; filled = 1; steps = 0; finished = 0; turned = 0 }) (set b 0 v)
unfolding values_before
begins_k {v = v} {b = b} h r = record { walk = rw (r, take-suc-set b 0 v h); filled = rw (length-set b 0 v) h; whole = length-set b 0 v }

pub ends : (f : BlockInfos) (w : Walk) (b : List Float) (at : ℕ) (head : Option Event) {n : ℕ} {c : List Float}
    → Filled f f.count (λ s. w.intrinsic) w.filled b n c → Ends f w b at head (record { walk = with_filled n w; at = at; head = head }) c
unfolding fill with_values
ends f w b at head g = record { walk = rw g.values; filled = g.small; whole = g.whole; place = refl; left = refl }

-- ---- a head, taken

counted_is : (w : Walk) (b : List Float) → walk_as (counted_once w) b ≡ counted (walk_as w b)
unfolding counted
counted_is w b = rw add-one

module _ (store : List Float) (offset : ℕ) (e : Event) {k : ℕ} (size : k ≡ length_of e) where
  pub lent_numbered : Numbered e (numbers_at store offset e) → Numbered e (lent store offset k)
  lent_numbered n = rw (lent_is store offset e size) n

  pub takes_head : (f : BlockInfos) (w : Walk) (b : List Float) (n : Option Event) {u : Walk} {r : Turn} {c : List Float} → u ≡ counted_once w → Turns b (lent store offset k) (turn_of f (walk_as u b) (waiting_as e (lent store offset k)) n e) r c
      → Turns b (numbers_at store offset e) (turn f (walk_as w b) (waiting_as e (numbers_at store offset e)) n) r c
  unfolding turn
  takes_head f w b n taken g = rw (← counted_is w b) (rw (lent_is store offset e size, taken) at g)

-- ---- the loop

-- Before a head: as many heads are finished as `at` says, and where the next one's numbers begin is known. The walk w, in the buffer b, goes on as the whole
-- walk from w₀.
pub record Going (f : BlockInfos) (es : List Event) (store : List Float) (w₀ : Rules.Walk) (b₀ : List Float) (w : Walk) (b : List Float) (at offset : ℕ) : Type 0 where
  pub offset_is : offset ≡ lengths_of (take at es)
  pub filled : w.filled ≤ length b
  pub whole : length b ≡ length b₀
  pub few : at ≤ length es
  pub steps : w.steps ≤ 2 * at
  pub finished : w.finished ≤ at
  pub turned : w.turned ≤ at
  pub goes_on : walked f (walk_as w b) (drop at (attached es store)) ≡ walked f w₀ (attached es store)

pub begins : {f : BlockInfos} {v : Float} {l : Option Finished} {b : List Float} {w : Walk} {c : List Float} → Begins f v l b w c → {es : List Event} {store : List Float}
    → Going f es store (walk_as w c) c w c 0 0
unfolding lengths_of
begins g =
    record {
      offset_is = refl;
      filled = g.filled;
      whole = refl;
      few = omega arith;
      steps = omega (arith, ap (λ (x : Rules.Walk). x.steps) g.walk);
      finished = omega (arith, ap (λ (x : Rules.Walk). x.finished) g.walk);
      turned = omega (arith, ap (λ (x : Rules.Walk). x.turned) g.walk);
      goes_on = refl;
    }

module _ {f : BlockInfos} {es : List Event} {store : List Float} {w₀ : Rules.Walk} {b₀ : List Float} {w : Walk} {b : List Float} {at offset : ℕ}
    (g : Going f es store w₀ b₀ w b at offset) where
  abbrev ws : List Waiting
  ws = attached es store

  -- ---- the queue is empty

  pub none_left : first_of (drop at es) ≡ None → {r : Walked} {c : List Float} → Ends f (counted_once w) b at None r c → Walks f w₀ es store b₀ r c
  unfolding ended with_head counted
  none_left h {r} {c} d =
      let y : drop at ws ≡ [] = none_waits es store at h in
      let e : walked f w₀ ws ≡ ended f (counted (walk_as w b)) [] = sym g.goes_on ∙ ap (walked f (walk_as w b)) y ∙ walk_empty f (walk_as w b) in
      record {
        walk = rw e (d.walk ∙ ap (fill f f.count (λ s. w.intrinsic)) (counted_is w b));
        queue = rw (e, d.left, d.place) y;
        filled = d.filled;
        whole = d.whole ∙ g.whole;
      }

  -- ---- the head e, with what is behind it

  module _ {e : Event} (waits : first_of (drop at es) ≡ Some e) where
    abbrev numbers : List Float
    numbers = numbers_at store offset e

    abbrev rest : List Waiting
    rest = drop (at + 1) ws

    -- the head stands there, with what is behind it
    stands : drop at ws ≡ waiting_as e numbers ∷ rest
    stands = waits_here es store at g.offset_is waits

    pub inside : at < length es
    inside = place_inside es store at g.offset_is waits

    pub past_most : offset + length_of e ≤ lengths_of es
    past_most = numbers-most es store at g.offset_is waits

    pub numbered : SoundQueue es → lengths_of es ≤ length store → Numbered e numbers
    numbered = numbered-there es store at g.offset_is waits

    module _ {n : Option Event} (behind : n ≡ first_of (drop (at + 1) es)) {r : Turn} {c : List Float} (answer : Turns b numbers (turn f (walk_as w b) (waiting_as e numbers) n) r c) where
      turned_as : turn_as r.walk c r.left numbers ≡ turn f (walk_as w b) (waiting_as e numbers) (head_of rest)
      turned_as = answer.turn ∙ ap (turn f (walk_as w b) (waiting_as e numbers)) (behind_is es store at behind)

      pub head_stops : {x : Event} → r.left ≡ Some x → {d : Walked} {c' : List Float} → Ends f r.walk c at r.left d c' → Walks f w₀ es store b₀ d c'
      unfolding turn_as ended with_head
      head_stops {x} s {d} {c'} h =
          let y : walked f w₀ ws ≡ ended f (walk_as r.walk c) (waiting_as x numbers ∷ rest) =
          sym g.goes_on ∙ ap (walked f (walk_as w b)) stands ∙ walk_stops f (walk_as w b) (waiting_as e numbers) rest _ _ (sym (rw s at turned_as)) in
          record {
            walk = rw y h.walk;
            queue = rw (y, h.left, s, h.place, stands);
            filled = h.filled;
            whole = h.whole ∙ answer.whole ∙ g.whole;
          }

      pub head_goes : r.left ≡ None → {k : ℕ} → k ≡ length_of e → Going f es store w₀ b₀ r.walk c (at + 1) (offset + k)
      unfolding turn_as
      head_goes o size =
          let q : turn f (walk_as w b) (waiting_as e numbers) (head_of rest) ≡ on (walk_as r.walk c) = sym (rw o at turned_as) in
          let m = head_counts f (walk_as w b) (walk_as r.walk c) (waiting_as e numbers) rest q in
          record {
            offset_is = rw size (past_is es store at g.offset_is waits);
            filled = answer.filled;
            whole = answer.whole ∙ g.whole;
            few = omega (arith, inside);
            steps = omega (arith, m.0, g.steps);
            finished = omega (arith, m.1, g.finished);
            turned = omega (arith, m.2, g.turned);
            goes_on = sym (walk_goes_on f (walk_as w b) (waiting_as e numbers) rest _ q) ∙ ap (walked f (walk_as w b)) (sym stands) ∙ g.goes_on;
          }

-- ---- what the heads' callees ask, with b the buffer as it was lent

pub end_room : {f : BlockInfos} {q : AudioParamEventTimeline} {b store : List Float} → Walkable f q b store → {n : ℕ} {c : List Float} → n ≤ length c → length c ≡ length b
    → Room n f.count c
end_room p h e = record { filled = h; upto = omega (arith, p.room); most = omega (arith, p.most) }

module _ {f : BlockInfos} {q : AudioParamEventTimeline} {b store : List Float} (p : Walkable f q b store) {w₀ : Rules.Walk} {b₀ : List Float} {w : Walk} {c : List Float}
    {at offset : ℕ} (g : Going f (waiting q) store w₀ b₀ w c at offset) where
  -- every count is at most twice the number of events
  pub few_steps : w.steps < 2 ^ 31
  few_steps = omega (arith, g.steps, g.few, p.sound.few)

  pub few_turned : w.turned < 2 ^ 32
  few_turned = omega (arith, g.turned, g.few, p.sound.few)

  pub ready : length b₀ ≡ length b → Ready f w c
  ready same =
      record {
        filled = g.filled;
        room = omega (arith, g.whole, p.room);
        most = omega (arith, g.whole, p.most);
        finished = omega (arith, g.finished, g.few, p.sound.few);
      }

-- the walk begins as the rules' does
pub walks : {f : BlockInfos} {v : Float} {l : Option Finished} {b : List Float} {w : Walk} {b₀ : List Float} → Begins f v l b w b₀ → {es : List Event} {store : List Float}
    → {r : Walked} {c : List Float} → Walks f (walk_as w b₀) es store b₀ r c → Walks f (walk_from v l (values_before f.rate v) 0) es store b r c
walks g d =
    record { walk = rw (← g.walk) d.walk; queue = rw (← g.walk) d.queue; filled = d.filled; whole = d.whole ∙ g.whole }
