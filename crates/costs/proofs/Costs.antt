-- 02, C-20: the sums of a session's totals, call by call, and so the bound on its steps. Assumes nothing.
use Rattle.std.proofs.Common.{Result, Ok, Err}
use Rattle.rules.specs.declared.Refusal.{Refusal}
use mathlib.Core.Path.{◌≡◌, refl, ap, ◌∙◌}
use mathlib.Core.Bool.{Bool, not}
use mathlib.Core.List.{List, [], ◌∷◌, ◌++◌}
use Prim.Native.Nat.{ℕ, ◌+◌, ◌*◌, ◌≤◌}
use native.Mathlib.Nat.{add-zero, zero-add, add_assoc}
use native.Mathlib.Omega.{arith}
use lib.ListN.{length, take}
use lib.Ieee.{Float}
use Rattle.rules.specs.declared.Bounds.{Bounds}
use Rattle.rules.specs.declared.AutomationRate.{AutomationRate}
use Rattle.rules.specs.declared.Event.{Event}
use Rattle.rules.specs.Numbers.{taken_time}
use Rattle.rules.specs.Queue.{Waiting, filed_under, place_behind, events_of, attached, inserted, arrived, cancelled, goes_at}
use Rattle.rules.specs.Walk.{Walked}
use Rattle.rules.specs.Block.{Param, made, Command, set, step, linear, exponential, target, curve, cancel, hold, Called, called, called_as, scheduled_as, Call, Answer, infos_of, rendered, answer_of, verdict_of, answered}
use Rattle.laws.specs.Sound.{Sound}
use Rattle.laws.proofs.Events.{events_length, events_attached, events_inserted, events_cancelled, put-length}
use Rattle.laws.proofs.Store.{attached-length}
use Rattle.laws.proofs.Counts.{rendered_counts}
use Rattle.laws.proofs.Kept.{made-fresh, made_sound, called_sound, answered_sound}
use Rattle.laws.proofs.Answers.{refused_block, answer_is}
use Rattle.laws.proofs.Held.{when_a_hold_moves_a_time}
use Rattle.costs.specs.declared.Totals.{Totals}
use Rattle.costs.specs.Costs.{Asked, command, block, left, left_by_all, waiting_in, nothing, once_answered, storing, cancelling, command_cost, block_cost, cost_of, plus, totals, most_steps, Sums, SessionCosts}
use Rattle.costs.proofs.Weights.{weigh, each, exponentials, one_at_most, weigh_each, weigh_put, weigh_those, weigh_held, weigh_exponentials, held_exponentials}
use Rattle.costs.proofs.Turned.{rendered_turns}

abbrev turnable : Param → ℕ
turnable p = weigh exponentials p.queue

-- from one parameter to another at this cost; what was turned can no longer be
record Balanced (before : Param) (t : Totals) (after : Param) : Type 0 where
  steps : t.steps ≡ t.blocks + t.finished + t.turned
  events : waiting_in before + t.stored ≡ t.finished + t.cancelled + waiting_in after
  turned : t.turned + turnable after ≤ t.stored + turnable before

-- ---- a call that schedules

-- one event more where it is answered
abbrev pub Stores : Param → Called → Type 0
Stores p r =
    (waiting_in r.param ≡ once_answered r.verdict + waiting_in p) × (turnable r.param ≤ once_answered r.verdict + turnable p)

arrived_weighs : (e : Event) (q : List Event) → (length (arrived e q) ≡ 1 + length q) × (weigh exponentials (arrived e q) ≤ 1 + weigh exponentials q)
unfolding arrived
arrived_weighs e q =
    let n : ℕ = place_behind (filed_under e) q in
    (omega (arith, put-length n e q), omega (arith, one_at_most e, weigh_put exponentials n e q))

scheduled_stores : (v : Result Unit Refusal) (p : Param) (store : List Float) (e : Event) → Stores p (scheduled_as v p store e)
unfolding scheduled_as once_answered
scheduled_stores (Ok _) p store e = arrived_weighs e p.queue
scheduled_stores (Err r) p store e = (omega arith, omega arith)

inserted_is : (w : Waiting) (q : List Event) (store : List Float) → events_of (inserted w (attached q store)) ≡ arrived w.event q
inserted_is w q store = events_inserted w (attached q store) ∙ ap (arrived w.event) (events_attached q store)

curve_stores : (v : Result Unit Refusal) (p : Param) (store : List Float) (w : Waiting) (i : Float) → Stores p (called_as v p store (inserted w (attached p.queue store)) i)
unfolding called_as once_answered
curve_stores (Ok _) p store w i = rw (inserted_is w p.queue store) (arrived_weighs w.event p.queue)
curve_stores (Err r) p store w i = (omega arith, omega arith)

-- ---- a cancel, and a hold

-- no event more
abbrev pub Cancels : Param → Called → Type 0
Cancels p r = (waiting_in r.param ≤ waiting_in p) × (turnable r.param ≤ turnable p)

cancel_cancels : (v : Result Unit Refusal) (p : Param) (store : List Float) (c i : Float) → Cancels p (called_as v p store (cancelled c (attached p.queue store)) i)
unfolding called_as
cancel_cancels (Ok _) p store c i =
    let stay : Event → Bool = λ e. not (goes_at c e) in
    rw
    (events_cancelled c (attached p.queue store), events_attached p.queue store)
    (rw (weigh_each, weigh_each) at (weigh_those each stay p.queue), weigh_those exponentials stay p.queue)
cancel_cancels (Err r) p store c i = (omega arith, omega arith)

hold_cancels : (p : Param) (store : List Float) (c : Float) → Sound p → Cancels p (called p store (hold c))
hold_cancels p store c s =
    let b = (when_a_hold_moves_a_time p store c s).equal in
    let t : Float = taken_time c in
    (rw (weigh_each, weigh_each) at (weigh_held each t (λ e. omega arith) _ _ b), weigh_held exponentials t (held_exponentials t) _ _ b)

-- ---- what a command does

-- which of the two it is, by its cost
pub data Does (p : Param) (r : Called) : Totals → Type 0 where
  stores : Stores p r → Does p r (storing r.verdict)
  cancels : Cancels p r → Does p r (cancelling p r.param)

pub command_does : (p : Param) (store : List Float) (c : Command) → Sound p → Does p (called p store c) (command_cost p (called p store c) c)
unfolding called command_cost
command_does p store (set v) s = stores (scheduled_stores _ p store _)
command_does p store (step v t) s = stores (scheduled_stores _ p store _)
command_does p store (linear v t) s = stores (scheduled_stores _ p store _)
command_does p store (exponential v t) s = stores (scheduled_stores _ p store _)
command_does p store (target v t c) s = stores (scheduled_stores _ p store _)
command_does p store (curve t d xs) s = stores (curve_stores _ p store _ _)
command_does p store (cancel c) s = cancels (cancel_cancels _ p store _ _)
command_does p store (hold c) s = cancels (hold_cancels p store c s)

command_balanced : (p : Param) (r : Called) (t : Totals) → Does p r t → Balanced p t r.param
unfolding storing cancelling
command_balanced p r t (stores h) = record { steps = refl; events = omega (arith, h.0); turned = omega (arith, h.1) }
command_balanced p r t (cancels h) = record { steps = refl; events = omega (arith, h.0); turned = omega (arith, h.1) }

-- ---- a block

-- what it finished no longer waits, and what it turned is no exponential
pub record Plays (p : Param) (a : Answer) : Type 0 where
  pub steps : a.steps ≡ once_answered a.verdict + (a.finished + a.turned)
  pub finished : a.finished + waiting_in a.param ≡ waiting_in p
  pub turned : a.turned + turnable a.param ≤ turnable p

module _ (p : Param) (store : List Float) (c : Call) (fine : verdict_of p store c ≡ Ok tt) where
  abbrev ws : List Waiting
  ws = attached p.queue store

  abbrev done : Walked
  done = rendered (infos_of p.rate c) p.intrinsic p.last ws

  answered_plays : Plays p (answered p store c)
  unfolding answer_of once_answered
  answered_plays =
      rw
      (answer_is p store c fine)
      (record {
        steps = omega (arith, (rendered_counts (infos_of p.rate c) p.intrinsic p.last ws).steps);
        finished =
            omega
            (arith, (rendered_counts (infos_of p.rate c) p.intrinsic p.last ws).finished, events_length done.queue, attached-length p.queue store);
        turned = rw (events_attached p.queue store) at (rendered_turns (infos_of p.rate c) p.intrinsic p.last ws);
      })

pub block_plays : (p : Param) (store : List Float) (c : Call) → Plays p (answered p store c)
block_plays p store c = go (verdict_of p store c) refl
  where
    go : (v : Result Unit Refusal) → verdict_of p store c ≡ v → Plays p (answered p store c)
    go (Ok _) e = answered_plays p store c e
    go (Err r) e =
        rw (refused_block p store c r e) (unfold once_answered in record { steps = refl; finished = omega arith; turned = omega arith })

block_balanced : (p : Param) (a : Answer) → Plays p a → Balanced p (block_cost a) a.param
unfolding block_cost
block_balanced p a h = record { steps = omega (arith, h.steps); events = omega (arith, h.finished); turned = omega (arith, h.turned) }

-- ---- a session

call_balanced : (p : Param) (a : Asked) → Sound p → Balanced p (cost_of p a) (left p a)
unfolding cost_of left
call_balanced p (command store c) s = command_balanced p (called p store c) _ (command_does p store c s)
call_balanced p (block store c) s = block_balanced p (answered p store c) (block_plays p store c)

pub left_sound : (p : Param) (a : Asked) → Sound p → Sound (left p a)
unfolding left
left_sound p (command store c) s = called_sound p store s c
left_sound p (block store c) s = answered_sound p store s c

session_balanced : (p : Param) (calls : List Asked) → Sound p → Balanced p (totals p calls) (left_by_all p calls)
unfolding totals left_by_all plus
session_balanced p [] s = record { steps = refl; events = omega arith; turned = omega arith }
session_balanced p (a ∷ calls) s =
    let one = call_balanced p a s in
    let more = session_balanced (left p a) calls (left_sound p a s) in
    record {
      steps = omega (arith, one.steps, more.steps);
      events = omega (arith, one.events, more.events);
      turned = omega (arith, one.turned, more.turned);
    }

-- any stretch of a session: what waits at its beginning counts as stored
pub any_stretch : (p : Param) (calls : List Asked) → Sound p
    → (totals p calls).steps ≤ 2 * (waiting_in p + (totals p calls).stored) + (totals p calls).blocks
any_stretch p calls s =
    let t = session_balanced p calls s in
    omega (arith, t.steps, t.events, t.turned, weigh_exponentials p.queue)

pub session_sums : (b : Bounds) (r : AutomationRate) (n : ℕ) (calls : List Asked) → Sums (totals (made b r n) calls) (waiting_in (left_by_all (made b r n) calls))
unfolding most_steps weigh
session_sums b r n calls =
    let t = session_balanced (made b r n) calls (made_sound b r n) in
    let empty : (made b r n).queue ≡ [] = ap (λ (p : Param). p.queue) (made-fresh b r n) in
    let none : waiting_in (made b r n) ≡ 0 = ap length empty in
    let plain : turnable (made b r n) ≡ 0 = ap (weigh exponentials) empty in
    record {
      steps = t.steps;
      events = omega (arith, none, t.events);
      bound = omega (arith, none, plain, t.steps, t.events, t.turned);
    }

pub what_a_session_costs : SessionCosts
what_a_session_costs b r n calls k = session_sums b r n (take k calls)

-- ---- a session, and one call more

pub one_more_left : (p : Param) (calls : List Asked) (a : Asked) → left_by_all p (calls ++ (a ∷ [])) ≡ left (left_by_all p calls) a
unfolding left_by_all
one_more_left p [] a = refl
one_more_left p (b ∷ calls) a = one_more_left (left p b) calls a

plus-nothing : (t : Totals) → plus t nothing ≡ plus nothing t
unfolding plus
plus-nothing t = simp (add-zero, zero-add)

plus_assoc : (t u v : Totals) → plus t (plus u v) ≡ plus (plus t u) v
unfolding plus
plus_assoc t u v =
    rw (add_assoc t.steps, add_assoc t.blocks, add_assoc t.stored, add_assoc t.finished, add_assoc t.cancelled, add_assoc t.turned)

pub one_more_costs : (p : Param) (calls : List Asked) (a : Asked) → totals p (calls ++ (a ∷ [])) ≡ plus (totals p calls) (cost_of (left_by_all p calls) a)
unfolding totals left_by_all
one_more_costs p [] a = plus-nothing (cost_of p a)
one_more_costs p (b ∷ calls) a = ap (plus (cost_of p b)) (one_more_costs (left p b) calls a) ∙ plus_assoc (cost_of p b) (totals (left p b) calls) _
