-- Two cancels are one, and so is any burst of them (02, C-17). Assumes nothing.
use Rattle.std.proofs.Common.{Option, Result, Ok, Err}
use Rattle.rules.specs.declared.Finished.{Finished}
use Rattle.rules.specs.declared.Refusal.{Refusal}
use mathlib.Core.Path.{◌≡◌, refl, sym, ap, fun_ext, ◌∙◌}
use mathlib.Core.Bool.{Bool, true, false, cond, not, ◌&&◌, ◌||◌, or-true}
use mathlib.Core.List.{List, [], ◌∷◌, ◌++◌, map}
use lib.ListN.{length}
use lib.Ieee as Ieee
use lib.Ieee.{Float}
use borrow.Author.Tests.{not-true}
use Rattle.rules.specs.declared.Event.{Event}
use Rattle.rules.specs.Numbers.{plus_zero, is_negative, is_zero, taken_time}
use Rattle.rules.specs.Queue.{Waiting, head_of, events_of, those, filed_under, curve_end, lasts_to, goes_at, is_before, cancelled, is_ramp, has_started, loses_head, returned, value_after_cancel}
use Rattle.rules.specs.Refusals.{lowest, cancel_rows}
use Rattle.rules.specs.Block.{Param, Command, cancel}
use Rattle.laws.specs.Sound.{is_number, in_order, Sound}
use Rattle.laws.specs.Search.{first_going, place_of}
use Rattle.laws.proofs.Tests.{clash, never}
use Rattle.laws.proofs.Order.{le_le, lt_le, not_lt, number_le, finite_number, lt_le_lt}
use Rattle.laws.proofs.Ordered.{AllPass, those_pass, those-all, cancelled_is}
use Rattle.laws.proofs.Store.{fit_cancelled, packed_back}
use Rattle.laws.proofs.Rows.{Cancelled, cancel_answered}
use Rattle.laws.proofs.Cancelled.{cancel_verdict, cancelled_at, cancel_leaves}
use Rattle.laws.proofs.Kept.{called_sound}
use Rattle.laws.proofs.Answers.{Reached, reached_sound}
use Rattle.playing.specs.Play.{State, waiting, asked, left_by_call, after_call, scheduled, verdicts, is_answered}
use Rattle.playing.specs.Cancels.{earlier_of, earliest, burst, accepted_times, one_cancel, TwoAreOne, CancelsAreOne}
use Rattle.playing.proofs.States.{SoundState, queue_is, waiting_fit, by_verdict}
use Rattle.playing.proofs.Schedules.{call_sound, refused_call}

-- ---- what a cancel takes, an earlier one takes as well

lasts_sooner : (c d : Float) (e : Event) → Ieee.le c d ≡ true → lasts_to d e ≡ true → lasts_to c e ≡ true
unfolding lasts_to
lasts_sooner c d (Event.Step v t) l h = h
lasts_sooner c d (Event.Linear v t k) l h = h
lasts_sooner c d (Event.Exponential v t k) l h = h
lasts_sooner c d (Event.Target v t k m) l h = h
lasts_sooner c d (Event.Curve s k n m) l h = le_le c d (curve_end s k m) l h

goes_sooner : (c d : Float) (e : Event) → Ieee.le c d ≡ true → goes_at d e ≡ true → goes_at c e ≡ true
unfolding goes_at
goes_sooner c d e l h = go (Ieee.lt (filed_under e) c) refl
  where
    go : (x : Bool) → Ieee.lt (filed_under e) c ≡ x → (not x || lasts_to c e) ≡ true
    go true k = lasts_sooner c d e l (rw (lt_le_lt (filed_under e) c d k l) at h)
    go false k = refl

-- so what it leaves, a later one leaves
stays_later : (c d : Float) (w : Waiting) → Ieee.le c d ≡ true → is_before c w ≡ true → is_before d w ≡ true
unfolding is_before
stays_later c d w l h = go (goes_at d w.event) refl
  where
    go : (x : Bool) → goes_at d w.event ≡ x → not x ≡ true
    go true k = never (sym (ap not (goes_sooner c d w.event l k)) ∙ h)
    go false k = refl

-- where those that pass one test pass another
module _ {A : Type 0} (few many : A → Bool) (within : (x : A) → few x ≡ true → many x ≡ true) where
  few_of_many : (xs : List A) → those few (those many xs) ≡ those few xs
  unfolding those
  few_of_many [] = refl
  few_of_many (x ∷ xs) = go (few x) (many x) refl refl (few_of_many xs)
    where
      go : (f m : Bool) → few x ≡ f → many x ≡ m → those few (those many xs) ≡ those few xs
          → those few (cond m (x ∷ those many xs) (those many xs)) ≡ cond f (x ∷ those few xs) (those few xs)
      go true true h k same = unfold those in rw (h, same)
      go true false h k same = clash (within x h) k
      go false true h k same = unfold those in rw (h, same)
      go false false h k same = same

  few_pass : (xs : List A) → AllPass few xs → AllPass many xs
  few_pass [] h = tt
  few_pass (x ∷ xs) h = (within x h.0, few_pass xs h.1)

-- ---- two cancels of waiting events, at c and at a time d that is c or later

-- a cancel takes no head from what it would leave
keeps_head : (c : Float) (end : Option Float) (ws : List Waiting) → AllPass (is_before c) ws → loses_head c end (head_of ws) ≡ false
unfolding loses_head head_of is_before
keeps_head c end [] h = refl
keeps_head c end (w ∷ ws) h = rw (not-true (goes_at c w.event) h.0)

-- a head that goes takes all with it
head_takes_all : (c : Float) (w : Waiting) (ws : List Waiting) → in_order (events_of (w ∷ ws)) ≡ true → goes_at c w.event ≡ true → cancelled c (w ∷ ws) ≡ []
unfolding first_going place_of events_of
head_takes_all c w ws o h = cancelled_is c (w ∷ ws) o ∙ rw h

module _ (c d : Float) (l : Ieee.le c d ≡ true) where
  earlier_last : (ws : List Waiting) → cancelled c (cancelled d ws) ≡ cancelled c ws
  unfolding cancelled
  earlier_last ws = few_of_many (is_before c) (is_before d) (λ w. stays_later c d w l) ws

  none_goes : (ws : List Waiting) → AllPass (is_before d) (cancelled c ws)
  unfolding cancelled
  none_goes ws = few_pass (is_before c) (is_before d) (λ w. stays_later c d w l) (cancelled c ws) (those_pass (is_before c) ws)

  earlier_first : (ws : List Waiting) → cancelled d (cancelled c ws) ≡ cancelled c ws
  unfolding cancelled
  earlier_first ws = those-all (is_before d) (cancelled c ws) (none_goes ws)

  module _ (end : Option Float) (last : Option Finished) (v : Float) where
    value_first : (ws : List Waiting) → value_after_cancel d end (cancelled c ws) last v ≡ v
    unfolding value_after_cancel
    value_first ws = rw (keeps_head d end (cancelled c ws) (none_goes ws))

    value_last : (ws : List Waiting) → in_order (events_of ws) ≡ true
        → value_after_cancel c end (cancelled d ws) last (value_after_cancel d end ws last v) ≡ value_after_cancel c end ws last v
    unfolding value_after_cancel head_of loses_head
    value_last [] o = unfold cancelled those in refl
    value_last (w ∷ ws) o = go (goes_at d w.event) refl
      where
        go : (x : Bool) → goes_at d w.event ≡ x
            → value_after_cancel c end (cancelled d (w ∷ ws)) last (cond (x && (is_ramp w.event || has_started end w.event)) (returned last v) v)
            ≡ cond (goes_at c w.event && (is_ramp w.event || has_started end w.event)) (returned last v) v
        go true h = rw (head_takes_all d w ws o h, goes_sooner c d w.event l h)
        go false h = unfold cancelled those is_before in rw h

-- ---- two cancels of a state

-- what an answered cancel leaves, at a time as it is taken
abbrev left_at : State → Float → State
left_at s c = left_by_call (cancelled_at s.param (waiting s) c)

waits_left : (s : State) (c : Float) → SoundState s → waiting (left_at s c) ≡ cancelled c (waiting s)
unfolding waiting
waits_left s c h = packed_back (cancelled c (waiting s)) (fit_cancelled c (waiting s) (waiting_fit s h))

module _ (s : State) (h : SoundState s) (c d : Float) (l : Ieee.le c d ≡ true) where
  ordered : in_order (events_of (waiting s)) ≡ true
  ordered = rw (queue_is s) h.sound.waiting.ordered

  left_first : left_at (left_at s c) d ≡ left_at s c
  left_first = rw (waits_left s c h, earlier_first c d l (waiting s), value_first c d l s.param.last_end s.param.last (left_at s c).param.intrinsic (waiting s))

  left_last : left_at (left_at s d) c ≡ left_at s c
  left_last = rw (waits_left s d h, earlier_last c d l (waiting s), value_last c d l s.param.last_end s.param.last s.param.intrinsic (waiting s) ordered)

-- ---- two calls

abbrev Accepts : State → Float → Type 0
Accepts s a = (asked s (cancel a)).verdict ≡ Ok tt

verdict_is : (s : State) (a : Float) → (asked s (cancel a)).verdict ≡ lowest (cancel_rows s.store a)
unfolding asked
verdict_is s a = cancel_verdict s.param s.store a

answered_is : (s : State) (a : Float) → Accepts s a → after_call s (cancel a) ≡ left_at s (taken_time a)
unfolding after_call asked waiting
answered_is s a h = ap left_by_call (cancel_leaves s.param s.store a h)

given : (s : State) (a : Float) → Accepts s a → Cancelled s.store a
given s a h = cancel_answered s.store a (sym (verdict_is s a) ∙ h)

time_number : (s : State) (a : Float) → Accepts s a → is_number a ≡ true
time_number s a h = finite_number a (given s a h).time

-- "a time of −0 .. is taken as 0"; so the order stays
taken_order : (a b : Float) → is_negative a ≡ false → Ieee.le a b ≡ true → is_number a ≡ true → is_number b ≡ true → Ieee.le (taken_time a) (taken_time b) ≡ true
unfolding taken_time
taken_order a b from l n m = le_le _ a _ (low (is_zero a) refl) (le_le a b _ l (high (is_zero b) refl))
  where
    low : (z : Bool) → is_zero a ≡ z → Ieee.le (cond z plus_zero a) a ≡ true
    low true k = not_lt a plus_zero n (unfold is_number Ieee.is_nan in refl) (unfold is_negative in from)
    low false k = number_le a n

    high : (z : Bool) → is_zero b ≡ z → Ieee.le b (cond z plus_zero b) ≡ true
    high true k = unfold Ieee.le is_zero in rw k (or-true (Ieee.lt b plus_zero))
    high false k = number_le b m

-- where one cancel is accepted the store has its length, and keeps it
state_sound : (s : State) (a : Float) → Sound s.param → Accepts s a → SoundState s
state_sound s a sound h = record { sound = sound; long = (given s a h).lent }

same_rows : (x y : List Float) (b : Float) → length x ≡ length y → lowest (cancel_rows x b) ≡ lowest (cancel_rows y b)
unfolding cancel_rows
same_rows x y b e = rw e

-- a cancel changes no verdict on another
verdict_stays : (s : State) → Sound s.param → (a b : Float) → (asked (after_call s (cancel a)) (cancel b)).verdict ≡ (asked s (cancel b)).verdict
verdict_stays s sound a b =
    by_verdict
    (asked s (cancel a)).verdict
    (λ h.
    let k : SoundState s = state_sound s a sound h in
    verdict_is (after_call s (cancel a)) b ∙ same_rows _ _ b ((call_sound s k (cancel a)).long ∙ sym k.long) ∙ sym (verdict_is s b))
    (λ why h. ap (λ (t : State). (asked t (cancel b)).verdict) (refused_call s (cancel a) why h))

-- of two accepted times in order
in_order_lem : (s : State) → Sound s.param → (a b : Float) → Accepts s a → Accepts s b → Ieee.le a b ≡ true
    → (scheduled s (burst (a ∷ b ∷ [])) ≡ scheduled s (burst (a ∷ []))) × (scheduled s (burst (b ∷ a ∷ [])) ≡ scheduled s (burst (a ∷ [])))
unfolding scheduled
in_order_lem s sound a b ha hb l =
    let k : SoundState s = state_sound s a sound ha in
    let t : Ieee.le (taken_time a) (taken_time b) ≡ true = taken_order a b (given s a ha).from_zero l (time_number s a ha) (time_number s b hb) in
    let next : (x y : Float) → Accepts s x → Accepts s y → after_call (after_call s (cancel x)) (cancel y) ≡ left_at (left_at s (taken_time x)) (taken_time y) =
    λ x y hx hy. answered_is (after_call s (cancel x)) y (verdict_stays s sound x y ∙ hy) ∙ rw (answered_is s x hx) in
    let one : left_at s (taken_time a) ≡ after_call s (cancel a) = sym (answered_is s a ha) in
    (next a b ha hb ∙ left_first s k (taken_time a) (taken_time b) t ∙ one, next b a hb ha ∙ left_last s k (taken_time a) (taken_time b) t ∙ one)

two_are_one : (s : State) → Sound s.param → (a b : Float) → Accepts s a → Accepts s b → TwoAreOne s a b
two_are_one s sound a b ha hb = go (Ieee.lt b a) refl
  where
    go : (x : Bool) → Ieee.lt b a ≡ x → TwoAreOne s a b
    go true h =
        let t = in_order_lem s sound b a hb ha (lt_le b a h) in
        unfold earlier_of in record { forth = rw h t.1; back = rw h t.0 }
    go false h =
        let t = in_order_lem s sound a b ha hb (not_lt b a (time_number s b hb) (time_number s a ha) h) in
        unfold earlier_of in record { forth = rw h t.0; back = rw h t.1 }

-- ---- bursts

abbrev accepts_at : State → Float → Bool
accepts_at s t = is_answered (asked s (cancel t)).verdict

accepts : (s : State) (t : Float) → accepts_at s t ≡ true → Accepts s t
accepts s t h = go (asked s (cancel t)).verdict h
  where
    go : (v : Result Unit Refusal) → is_answered v ≡ true → v ≡ Ok tt
    go (Ok _) k = refl
    go (Err r) k = never (unfold is_answered in k)

-- the earliest is one of them
earliest-accepted : (s : State) (t : Float) (ts : List Float) → AllPass (accepts_at s) (t ∷ ts) → accepts_at s (earliest t ts) ≡ true
unfolding earliest earlier_of
earliest-accepted s t [] h = h.0
earliest-accepted s t (u ∷ ts) h = go (Ieee.lt (earliest u ts) t) (earliest-accepted s u ts h.1)
  where
    go : (x : Bool) → accepts_at s (earliest u ts) ≡ true → accepts_at s (cond x (earliest u ts) t) ≡ true
    go true k = k
    go false k = h.0

-- an accepted cancel ahead of one at the earliest of others
one_more : (s : State) → Sound s.param → (t : Float) (ts : List Float) → AllPass (accepts_at s) (t ∷ ts)
    → scheduled (after_call s (cancel t)) (one_cancel ts) ≡ scheduled s (one_cancel (t ∷ ts))
unfolding scheduled one_cancel earliest
one_more s sound t [] h = refl
one_more s sound t (u ∷ ts) h =
    (two_are_one s sound t (earliest u ts) (accepts s t h.0) (accepts s (earliest u ts) (earliest-accepted s u ts h.1))).forth

times_stay : (s : State) → Sound s.param → (a : Float) (ts : List Float) → accepted_times (after_call s (cancel a)) ts ≡ accepted_times s ts
unfolding accepted_times
times_stay s sound a ts = ap (λ (test : Float → Bool). those test ts) (fun_ext (λ t. ap is_answered (verdict_stays s sound a t)))

after_sound : (s : State) → Sound s.param → (c : Command) → Sound (after_call s c).param
unfolding after_call asked
after_sound s sound c = called_sound s.param s.store sound c

many_are_one : (ts : List Float) (s : State) → Sound s.param → scheduled s (burst ts) ≡ scheduled s (one_cancel (accepted_times s ts))
unfolding scheduled accepted_times those one_cancel
many_are_one [] s sound = refl
many_are_one (t ∷ ts) s sound =
    go (asked s (cancel t)).verdict refl (many_are_one ts (after_call s (cancel t)) (after_sound s sound (cancel t))) (many_are_one ts s sound)
  where
    go : (v : Result Unit Refusal) → (asked s (cancel t)).verdict ≡ v
        → scheduled (after_call s (cancel t)) (burst ts) ≡ scheduled (after_call s (cancel t)) (one_cancel (accepted_times (after_call s (cancel t)) ts))
        → scheduled s (burst ts) ≡ scheduled s (one_cancel (accepted_times s ts))
        → scheduled (after_call s (cancel t)) (burst ts) ≡ scheduled s (one_cancel (cond (is_answered v) (t ∷ accepted_times s ts) (accepted_times s ts)))
    go (Ok _) h next same = unfold is_answered in
        next ∙ rw (times_stay s sound t ts) (one_more s sound t (accepted_times s ts) (ap is_answered h, those_pass (accepts_at s) ts))
    go (Err r) h next same = unfold is_answered in
        rw (refused_call s (cancel t) r h) same

-- each is answered as it would be if it came first
heard_in_turn : (ts : List Float) (s : State) → Sound s.param → verdicts s (burst ts) ≡ map (λ t. (asked s (cancel t)).verdict) ts
unfolding verdicts
heard_in_turn [] s sound = refl
heard_in_turn (t ∷ ts) s sound =
    ap
    (λ (vs : List (Result Unit Refusal)). (asked s (cancel t)).verdict ∷ vs)
    (heard_in_turn ts (after_call s (cancel t)) (after_sound s sound (cancel t)) ∙ ap (λ (say : Float → Result Unit Refusal). map say ts) (fun_ext (verdict_stays s sound t)))

-- ---- once more

scheduled-append : (xs ys : List Command) (s : State) → scheduled s (xs ++ ys) ≡ scheduled (scheduled s xs) ys
unfolding scheduled
scheduled-append [] ys s = refl
scheduled-append (x ∷ xs) ys s = scheduled-append xs ys (after_call s x)

burst_leaves : (ts : List Float) (s : State) → Sound s.param
    → Sound (scheduled s (burst ts)).param × ((us : List Float) → accepted_times (scheduled s (burst ts)) us ≡ accepted_times s us)
unfolding scheduled
burst_leaves [] s sound = (sound, λ us. refl)
burst_leaves (t ∷ ts) s sound =
    let more = burst_leaves ts (after_call s (cancel t)) (after_sound s sound (cancel t)) in
    (more.0, λ us. more.1 us ∙ times_stay s sound t us)

one_again : (s : State) → Sound s.param → (ts : List Float) → AllPass (accepts_at s) ts → scheduled (scheduled s (one_cancel ts)) (one_cancel ts) ≡ scheduled s (one_cancel ts)
unfolding scheduled one_cancel
one_again s sound [] h = refl
one_again s sound (t ∷ ts) h =
    let a : Accepts s (earliest t ts) = accepts s (earliest t ts) (earliest-accepted s t ts h) in
    (in_order_lem s sound (earliest t ts) (earliest t ts) a a (number_le (earliest t ts) (time_number s (earliest t ts) a))).0

burst_again : (s : State) → Sound s.param → (ts : List Float) → scheduled s (burst ts ++ burst ts) ≡ scheduled s (burst ts)
unfolding accepted_times
burst_again s sound ts =
    let left = burst_leaves ts s sound in
    let one : scheduled s (burst ts) ≡ scheduled s (one_cancel (accepted_times s ts)) = many_are_one ts s sound in
    scheduled-append (burst ts) (burst ts) s
    ∙ many_are_one ts (scheduled s (burst ts)) left.0
    ∙ rw (left.1 ts, one) (one_again s sound (accepted_times s ts) (those_pass (accepts_at s) ts))

-- ---- 02, C-17

pub cancels_are_one : (s : State) → Sound s.param → CancelsAreOne s
cancels_are_one s sound =
    record {
      two = two_are_one s sound;
      heard = λ ts. heard_in_turn ts s sound;
      many = λ ts. many_are_one ts s sound;
      again = burst_again s sound;
    }

-- of every parameter that comes from the calls, with any store
pub reached_cancels_are_one : {p : Param} → Reached p → (store : List Float) → CancelsAreOne (record { param = p; store = store })
reached_cancels_are_one {p} r store = cancels_are_one (record { param = p; store = store }) (reached_sound r)
