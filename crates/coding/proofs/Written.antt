-- A parameter written over a state, event by event, and read again. Assumes nothing.
use Rattle.std.proofs.Common.{Option}
use Rattle.rules.specs.declared.Finished.{Finished}
use mathlib.Core.Path.{◌≡◌, refl, sym, ap, ◌∙◌}
use mathlib.Core.List.{List, [], ◌∷◌, ◌++◌, append_assoc, append-nil}
use Prim.Native.Nat.{ℕ, ◌+◌, ◌*◌, ◌≤◌}
use native.Mathlib.Omega.{arith}
use lib.ListN.{length, get_or, set, take, drop, take-append-drop, length-append, length-drop}
use lib.Seq.{sets, sets-eq, length-sets, take_at, take_all, drop-drop, drop-append-add, length-take-le}
use lib.Ieee.{Float, binary32}
use Rattle.rules.specs.declared.Bounds.{Bounds}
use Rattle.rules.specs.declared.AutomationRate.{AutomationRate}
use Rattle.rules.specs.declared.AutomationRate.TheVariants as Rate
use Rattle.rules.specs.declared.Edition.{Edition}
use Rattle.rules.specs.declared.Event.{Event}
use Rattle.rules.specs.Block.{Param}
use Rattle.laws.specs.Editions.{number_of_edition}
use Rattle.laws.proofs.Editions.{edition_back}
use Rattle.timeline.specs.declared.AudioParamEvent.{AudioParamEvent}
use Rattle.timeline.specs.declared.AudioParamEventTimeline.{AudioParamEventTimeline}
use Rattle.timeline.specs.Timeline.{made}
use Rattle.timeline.proofs.Laws.{Filled, filled-made, waits_of}
use Rattle.coding.specs.Coding.{head_words, state_length, state_version, place_of, rate_in, rate_word, event_at, events_in, param_in, words_of, words_for, head_of, state_of, flag_of, last_flag, last_time, last_value, TimeBits, PutsEvent, PutsLast, PutsHead, Queues}
use Rattle.coding.proofs.Words.{Bits, six, event_behind, events_front, events_more, words_more, words_length}

-- ---- the queue of a state

pub filled_empty : {q : AudioParamEventTimeline} → q ≡ made [] → Filled q.slots 0 []
unfolding made
filled_empty e = record { many = refl; held = ap (λ (u : AudioParamEventTimeline). u.slots) e }

pub queues : (s : List ℕ) {slots : List AudioParamEvent} {len i : ℕ} → Filled slots i (events_in s i) → i ≡ len → len ≡ get_or s 14 0
    → Queues s (record { slots = slots; len = len })
queues s {slots} {len} {i} f e m =
    record { many = m; events = λ h. rw (← m, ← e) (waits_of (record { slots = slots; len = i }) (events_in s i) (filled-made f)) }

-- ---- events written one by one

-- the first i events of q are written over s₀ behind its head
pub record Wrote (q : List Event) (s₀ : List ℕ) (i : ℕ) (s : List ℕ) : Type 0 where
  pub is : s ≡ take head_words s₀ ++ words_for (take i q) ++ drop (place_of i) s₀
  pub back : events_in s i ≡ take i q

pub wrote_none : (q : List Event) (s : List ℕ) → Wrote q s 0 s
unfolding words_for events_in
wrote_none q s =
    record {
      is = sym (ap (λ (l : List ℕ). l ++ drop head_words s) (append-nil (take head_words s)) ∙ take-append-drop head_words s);
      back = refl;
    }

module _ {q : List Event} {s₀ s : List ℕ} {i : ℕ} (w : Wrote q s₀ i s) (few : i ≤ length q) (long : length s₀ ≡ state_length) where
  abbrev front : List ℕ
  front = take head_words s₀ ++ words_for (take i q)

  front_length : length front ≡ place_of i
  front_length =
      simp length-append (omega (arith, length-take-le head_words s₀ (omega arith), words_length (take i q), length-take-le i q few))

  pub long_more : {after : List ℕ} (e : Event) → PutsEvent s (place_of i) e after → place_of i + 6 ≤ length s → length after ≡ length s
  long_more e p room =
      ap length p.is ∙ simp (length-append, length-drop) (omega (arith, six e, length-take-le (place_of i) s (omega arith)))

  -- one event more
  pub wrote_more : {after : List ℕ} (e : Event) → take (i + 1) q ≡ take i q ++ (e ∷ []) → PutsEvent s (place_of i) e after → Wrote q s₀ (i + 1) after
  wrote_more {after} e next p =
      let n : place_of i + 6 ≡ place_of (i + 1) = omega arith in
      let rest : drop (place_of i + length (words_of e)) s ≡ drop (place_of (i + 1)) s₀ =
      rw (w.is, six e)
      (ap (λ (k : ℕ). drop (k + 6) (front ++ drop (place_of i) s₀)) (sym front_length) ∙ drop-append-add front (drop (place_of i) s₀) 6 ∙ drop-drop 6 (place_of i) s₀
      ∙ ap (λ (k : ℕ). drop k s₀) n) in
      let at : take (place_of i) s ≡ front = rw w.is (take_at front (drop (place_of i) s₀) (place_of i) front_length) in
      let is : after ≡ front ++ words_of e ++ drop (place_of (i + 1)) s₀ = p.is ∙ rw (at, rest) in
      record {
        is =
            is
            ∙ ap (λ (l : List ℕ). l ++ drop (place_of (i + 1)) s₀)
            (append_assoc (take head_words s₀) (words_for (take i q)) (words_of e)
            ∙ ap (λ (l : List ℕ). take head_words s₀ ++ l) (sym (words_more (take i q) e) ∙ ap words_for (sym next)));
        back =
            let same : take (place_of i) after ≡ take (place_of i) s = rw (is, append_assoc) (take_at front _ (place_of i) front_length) ∙ sym at in
            let before : events_in after i ≡ take i q =
            sym (events_front after (place_of i) i (omega arith)) ∙ ap (λ (l : List ℕ). events_in l i) same ∙ events_front s (place_of i) i (omega arith) ∙ w.back in
            let here : event_at after (place_of i) ≡ e = ap (λ (l : List ℕ). event_at l (place_of i)) is ∙ event_behind front e _ (place_of i) front_length ∙ p.back in
            events_more after i ∙ rw (before, here) (sym next);
      }

-- ---- the head

pub last_length : {s after : List ℕ} {l : Option Finished} → PutsLast s l after → length after ≡ length s
last_length {s} {after} {l} p = ap length p.is ∙ length-sets s 11 (last_flag l ∷ last_time l ∷ last_value l ∷ [])

pub head_length : {p : Param} {s after : List ℕ} → PutsHead s p after → length s ≡ state_length → length after ≡ state_length
head_length {p} {s} h long = ap length h.is ∙ simp (length-append, length-drop) (omega arith)

module _ (p : Param) (s : List ℕ) {b : Bounds} {r : AutomationRate} {e : Edition} {x : Float} {t u : Option Float} {l : Option Finished} {min default max rate edition value flag time mark end n : ℕ}
    {after : List ℕ} (last : PutsLast (sets s 0 (state_version ∷ min ∷ default ∷ max ∷ rate ∷ edition ∷ value ∷ flag ∷ time ∷ mark ∷ end ∷ [])) l after) where
  pub puts_head : length s ≡ state_length → b ≡ p.bounds → r ≡ p.rate → e ≡ p.edition → x ≡ p.intrinsic → t ≡ p.last_block → u ≡ p.last_end → l ≡ p.last → n ≡ length p.queue
      → Bits binary32 b.min min → Bits binary32 b.default default → Bits binary32 b.max max → rate ≡ rate_word r → edition ≡ number_of_edition e → Bits binary32 x value → flag ≡ flag_of t → TimeBits t time
      → mark ≡ flag_of u → TimeBits u end → PutsHead s p (set after 14 n)
  puts_head long eb er ee ex et eu el en a d m ew ed v ef h eg k =
      record {
        is =
            ap (λ (u : List ℕ). set u 14 n) last.is
            ∙ sets-eq (state_version ∷ min ∷ default ∷ max ∷ rate ∷ edition ∷ value ∷ flag ∷ time ∷ mark ∷ end ∷ last_flag l ∷ last_time l ∷ last_value l ∷ n ∷ []) s 0 (omega arith)
            ∙ rw (a.is, d.is, m.is, ew, ed, v.is, ef, h.is, eg, k.is, eb, er, ee, ex, et, eu, el, en);
        min = rw (← eb) a.back;
        default = rw (← eb) d.back;
        max = rw (← eb) m.back;
        intrinsic = rw (← ex) v.back;
        block = rw (← et) h.back;
        end = rw (← eu) k.back;
        last = rw (← el) last.back;
      }

-- ---- the whole

pub rate_back : (r : AutomationRate) → rate_in (rate_word r) ≡ r
unfolding rate_in rate_word
rate_back Rate.A = refl
rate_back Rate.K = refl

module _ (p : Param) {s s₀ after : List ℕ} {i : ℕ} (w : Wrote p.queue s₀ i after) (all : i ≡ length p.queue) (h : PutsHead s p s₀) where
  pub written : after ≡ state_of p s
  unfolding state_of
  written =
      let n : length p.queue ≤ i = omega arith in
      w.is ∙ rw (h.is, take_all i p.queue n, all) (ap (λ (r : List ℕ). head_of p ++ words_for p.queue ++ r) (drop-append-add (head_of p) (drop head_words s) (6 * length p.queue) ∙ drop-drop (6 * length p.queue) head_words s))

  events_back : events_in after (length p.queue) ≡ p.queue
  events_back = let n : length p.queue ≤ i = omega arith in rw (← all) (w.back ∙ take_all i p.queue n)

  pub given_back : param_in after ≡ p
  given_back = rw (events_at, written) (unfold state_of in rw (h.min, h.default, h.max, rate_back p.rate, (edition_back p.edition).0, h.intrinsic, h.block, h.end, h.last))
    where
      events_at : events_in after (get_or after 14 0) ≡ p.queue
      events_at = ap (events_in after) (rw written (unfold state_of in refl)) ∙ events_back
