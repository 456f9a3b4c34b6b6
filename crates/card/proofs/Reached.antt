-- What is reached by calls before the first block can be written and read back (02, C-11): nothing but its queue is not as it was made. Assumes nothing.
use Rattle.std.proofs.Common.{None, Result, Ok, Err}
use Rattle.rules.specs.declared.Refusal.{Refusal}
use mathlib.Core.Path.{◌≡◌, refl, sym, ap, ◌∙◌}
use mathlib.Core.Bool.{Bool, true, false, cond, not}
use mathlib.Core.List.{List, [], ◌∷◌}
use Prim.Native.Nat.{ℕ}
use lib.ListN.{length}
use lib.Ieee as Ieee
use lib.Ieee.{Float}
use Rattle.rules.specs.declared.Bounds.{Bounds}
use Rattle.rules.specs.declared.AutomationRate.{AutomationRate}
use Rattle.rules.specs.declared.Event.{Event}
use Rattle.rules.specs.Numbers.{plus_zero, store_length, is_zero, taken_time}
use Rattle.rules.specs.Queue.{Waiting, attached, packed, returned, value_after_cancel, value_after_hold, loses_head, loses_curve, head_of}
use Rattle.rules.specs.Block.{Param, fresh, with_queue, made, Command, set, step, linear, exponential, target, curve, cancel, hold, called, scheduled_as, called_as}
use Rattle.laws.specs.Sound.{is_clear, all, are_clear}
use Rattle.laws.specs.Apart.{are_apart}
use Rattle.laws.specs.Editions.{number_of_edition}
use Rattle.laws.proofs.Kept.{made-fresh, made_sound, called_sound, called-apart}
use Rattle.laws.proofs.Clear.{all-parts, step_parts, linear_parts, exponential_parts, target_parts, curve_parts}
use Rattle.laws.proofs.Results.{taken-parts}
use Rattle.playing.specs.Play.{State, begun, asked, after_call, scheduled}
use Rattle.card.specs.Card.{time_of, is_minus_zero, read, loaded, file_of, judged}
use Rattle.card.specs.Back.{FitBounds, FitWaiting, Unplayed, command_of}
use Rattle.card.proofs.Back.{given_back}
use Rattle.card.proofs.Accepts.{from_zero_not_minus}

-- ---- a call leaves all but the queue

scheduled_leaves : (v : Result Unit Refusal) (p : Param) (store : List Float) (e : Event) → let r = (scheduled_as v p store e).param in r ≡ with_queue r.queue p
unfolding scheduled_as
scheduled_leaves (Ok _) p store e = refl
scheduled_leaves (Err r) p store e = refl

called_leaves : (v : Result Unit Refusal) (p : Param) (store : List Float) (ws : List Waiting) (x : Float) → x ≡ p.intrinsic → let r = (called_as v p store ws x).param in r ≡ with_queue r.queue p
unfolding called_as
called_leaves (Ok _) p store ws x h = rw h refl
called_leaves (Err r) p store ws x h = refl

-- with no last event a cancel and a hold leave the intrinsic value
same_value_lem : (b : Bool) (v : Float) → cond b v v ≡ v
same_value_lem true v = refl
same_value_lem false v = refl

leaves_rest : (p : Param) (store : List Float) (c : Command) → p.last ≡ None → let r = (called p store c).param in r ≡ with_queue r.queue p
unfolding called value_after_cancel value_after_hold returned
leaves_rest p store (set v) n = scheduled_leaves _ p store _
leaves_rest p store (step v t) n = scheduled_leaves _ p store _
leaves_rest p store (linear v t) n = scheduled_leaves _ p store _
leaves_rest p store (exponential v t) n = scheduled_leaves _ p store _
leaves_rest p store (target v t c) n = scheduled_leaves _ p store _
leaves_rest p store (curve t d xs) n = called_leaves _ p store _ p.intrinsic refl
leaves_rest p store (cancel c) n = called_leaves _ p store _ _ (rw n (same_value_lem (loses_head (taken_time c) p.last_end (head_of (attached p.queue store))) p.intrinsic))
leaves_rest p store (hold c) n = called_leaves _ p store _ _ (rw n (same_value_lem (loses_curve (taken_time c) p.last_end (head_of (attached p.queue store))) p.intrinsic))

-- ---- reached before the first block

made-unplayed : (b : Bounds) (r : AutomationRate) (n : ℕ) → Unplayed (made b r n)
unfolding are_apart
made-unplayed b r n =
    let p : Param = made b r n in
    let new : p ≡ fresh p.bounds p.rate p.edition = made-fresh b r n in
    let empty : p.queue ≡ [] = ap (λ (q : Param). q.queue) new in
    record {
      sound = made_sound b r n;
      apart = ap are_apart empty;
      new = new ∙ ap (λ (q : List Event). with_queue q (fresh p.bounds p.rate p.edition)) (sym empty);
    }

-- what leaves all but the queue leaves it as new
still_new : (p r : Param) → p ≡ with_queue p.queue (fresh p.bounds p.rate p.edition) → r ≡ with_queue r.queue p
    → r ≡ with_queue r.queue (fresh r.bounds r.rate r.edition)
still_new p r new h =
    h ∙ ap (with_queue r.queue) new ∙ ap (λ (q : Param). with_queue r.queue (fresh q.bounds q.rate q.edition)) (sym h)

called-unplayed : (p : Param) (store : List Float) (c : Command) → Unplayed p → Unplayed (called p store c).param
called-unplayed p store c u =
    record {
      sound = called_sound p store u.sound c;
      apart = called-apart p store u.sound c u.apart;
      new = still_new p (called p store c).param u.new (leaves_rest p store c (ap (λ (q : Param). q.last) u.new));
    }

pub reached_unplayed : (s : State) (cs : List Command) → Unplayed s.param → Unplayed (scheduled s cs).param
unfolding scheduled after_call asked
reached_unplayed s [] u = u
reached_unplayed s (c ∷ cs) u = reached_unplayed (after_call s c) cs (called-unplayed s.param s.store c u)

-- every parameter that is reached by calls from a fresh one, before its first block
pub before_the_first_block : (b : Bounds) (r : AutomationRate) (n : ℕ) (store : List Float) (cs : List Command) → Unplayed (scheduled (begun b r n store) cs).param
unfolding begun
before_the_first_block b r n store cs = reached_unplayed (begun b r n store) cs (made-unplayed b r n)

-- "What the writer writes, the reader gives back, event for event": the parameter and the store that any calls leave before the first block
pub what_is_written_is_read : (b : Bounds) (r : AutomationRate) (n : ℕ) (store : List Float) (cs : List Command) → let s = scheduled (begun b r n store) cs in
    let ws = attached s.param.queue s.store in
    FitBounds s.param.bounds → FitWaiting ws → (judged s.param s.store).verdict ≡ Ok tt → (p : Param) (other : List Float) → length other ≡ store_length
    → loaded (read s.param.rate (number_of_edition s.param.edition) (file_of s.param.bounds ws)) p other
    ≡ record { says = record { verdict = Ok tt; at = length (file_of s.param.bounds ws) }; param = s.param; store = packed ws }
what_is_written_is_read b r n store cs f g a p other lent =
    given_back (scheduled (begun b r n store) cs).param (scheduled (begun b r n store) cs).store (before_the_first_block b r n store cs) f g a p other lent

-- ---- times and sets

-- "no time of −0 is ever written": none waits
no_minus_zero : (e : Event) (xs : List Float) → is_clear e ≡ true → is_minus_zero (time_of (command_of e xs)) ≡ false
unfolding time_of command_of
no_minus_zero (Event.Step v t) xs k = from_zero_not_minus t (step_parts v t k).1
no_minus_zero (Event.Linear v t h) xs k = from_zero_not_minus t (taken-parts t (linear_parts v t h k).1.time).1
no_minus_zero (Event.Exponential v t h) xs k = from_zero_not_minus t (taken-parts t (exponential_parts v t h k).2.time).1
no_minus_zero (Event.Target v t c h) xs k = from_zero_not_minus t (taken-parts t (target_parts v t c h k).time).1
no_minus_zero (Event.Curve s d n h) xs k = from_zero_not_minus s (taken-parts s (curve_parts s d n h k).start).1

pub no_time_is_minus_zero : (q : List Event) → are_clear q ≡ true → all (λ e. not (is_minus_zero (time_of (command_of e [])))) q ≡ true
unfolding all
no_time_is_minus_zero [] k = refl
no_time_is_minus_zero (e ∷ q) k =
    let a = all-parts is_clear e q k in
    rw (no_minus_zero e [] a.0) (no_time_is_minus_zero q a.1)

-- "Immediate sets are written as steps at 0": they wait as such
pub a_set_is_a_step_at_0 : (p : Param) (store : List Float) (v : Float) → called p store (set v) ≡ called p store (step v plus_zero)
unfolding called taken_time is_zero Ieee.eq
a_set_is_a_step_at_0 p store v = refl
