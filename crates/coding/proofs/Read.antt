-- A state read as a parameter: it is accepted where what it has is sound, and gives back what was written. Assumes nothing.
use Rattle.std.proofs.Common.{Ok, Err}
use mathlib.Core.Path.{◌≡◌, refl, sym, ap, ◌∙◌}
use mathlib.Core.Bool.{Bool, true, false, cond, ◌&&◌}
use mathlib.Core.List.{List}
use Prim.Native.Nat.{ℕ, ◌≤◌, ◌<◌}
use native.Mathlib.Omega.{arith}
use lib.Dec.{leb, eqb}
use lib.ListN.{length, get_or, length-append, length-drop}
use borrow.Author.Tests.{leb-true, le-leb, lt-leb, eqb-true, eq-eqb, ne_eqb}
use Rattle.rules.specs.declared.Bounds.{Bounds}
use Rattle.rules.specs.declared.AutomationRate.{AutomationRate}
use Rattle.rules.specs.declared.AutomationRate.TheVariants as Rate
use Rattle.rules.specs.declared.Event.{Event}
use Rattle.rules.specs.declared.Refusal.{Refusal}
use Rattle.rules.specs.Numbers.{most_events}
use Rattle.rules.specs.Refusals.{lowest, are_bounds, is_edition, making_rows}
use Rattle.rules.specs.Block.{Param, made, made_as, with_queue}
use Rattle.laws.specs.Sound.{Sound, is_sound}
use Rattle.laws.proofs.Tests.{both, and}
use Rattle.laws.proofs.Editions.{edition_back}
use Rattle.laws.proofs.Tested.{tested, passes_test}
use Rattle.timeline.specs.declared.AudioParamEventTimeline.{AudioParamEventTimeline}
use Rattle.param.specs.declared.AudioParam.{AudioParam}
use Rattle.param.specs.declared.Outcome.{Outcome}
use Rattle.param.specs.Param.{param_of, struct_of, SoundParam, Makes, unmade, parts_of, is_whole, Restores}
use Rattle.param.proofs.Calls.{whole, struct_back}
use Rattle.coding.specs.Coding.{state_length, state_version, is_rate, rate_word, param_in, is_state, state_of, Queues, Decodes, Encodes}
use Rattle.coding.proofs.Words.{words_length}

-- ---- refused

same : {a b : Outcome} → a.verdict ≡ b.verdict → a.param ≡ b.param → a ≡ b
same v p = rw (v, p)

pub nothing-made : (b : Bounds) {r : Outcome} → are_bounds b ≡ false → Makes b Rate.A 1 r → r ≡ unmade
unfolding made made_as making_rows lowest
nothing-made b h m = same (m.verdict ∙ rw h) (m.param ∙ rw h)

module _ (s : List ℕ) where
  pub decodes_none : {r : Outcome} → (length s ≡ state_length → ⊥) → r ≡ unmade → SoundParam r.param → Decodes s r
  unfolding is_state
  decodes_none h e f = record { gives = rw (ne_eqb (length s) state_length h) e; sound = f }

  -- another version
  pub decodes_other : {r : Outcome} → length s ≡ state_length → (get_or s 0 0 ≡ state_version → ⊥) → r ≡ unmade → SoundParam r.param → Decodes s r
  unfolding is_state
  decodes_other long h e f = record { gives = rw (eq-eqb (length s) state_length long, ne_eqb (get_or s 0 0) state_version h) e; sound = f }

  -- a rate that is none
  pub decodes_no_rate : {r : Outcome} → length s ≡ state_length → get_or s 0 0 ≡ state_version → 1 < get_or s 4 0 → r ≡ unmade → SoundParam r.param → Decodes s r
  unfolding is_state is_rate
  decodes_no_rate long v h e f =
      record { gives = rw (eq-eqb (length s) state_length long, eq-eqb (get_or s 0 0) state_version v, lt-leb (get_or s 4 0) 1 h) e; sound = f }

  -- an edition that is none
  pub decodes_no_edition : {r : Outcome} → length s ≡ state_length → get_or s 0 0 ≡ state_version → get_or s 4 0 ≤ 1 → is_edition (get_or s 5 0) ≡ false → r ≡ unmade
      → SoundParam r.param → Decodes s r
  unfolding is_state is_rate
  decodes_no_edition long v rated h e f =
      record { gives = rw (eq-eqb (length s) state_length long, eq-eqb (get_or s 0 0) state_version v, le-leb (get_or s 4 0) 1 rated, h) e; sound = f }

  -- ---- accepted where the parts are

  module _ (q : AudioParamEventTimeline) (long : length s ≡ state_length) (known : get_or s 0 0 ≡ state_version) (rated : get_or s 4 0 ≤ 1)
      (edited : is_edition (get_or s 5 0) ≡ true) (h : Queues s q) where
    abbrev parts : AudioParam
    parts =
        parts_of (param_in s).bounds (param_in s).rate (param_in s).edition (param_in s).intrinsic q (param_in s).last_block (param_in s).last_end (param_in s).last

    read : leb q.len most_events ≡ true → param_of parts ≡ param_in s
    read t = ap (λ (es : List Event). with_queue es (param_in s)) (h.events (leb-true q.len most_events t))

    accepted : is_whole parts ≡ is_state s
    unfolding is_whole is_state is_rate
    accepted =
        go (leb q.len most_events) refl
        ∙ rw (eq-eqb (length s) state_length long, eq-eqb (get_or s 0 0) state_version known, le-leb (get_or s 4 0) 1 rated, edited) (ap (λ (n : ℕ). leb n most_events && is_sound (param_in s)) h.many)
      where
        go : (b : Bool) → leb q.len most_events ≡ b → (b && is_sound (param_of parts)) ≡ (b && is_sound (param_in s))
        go true e = ap is_sound (read e)
        go false e = refl

    pub decodes : {r : Outcome} → Restores parts r → Decodes s r
    decodes {r} a = record { gives = go (is_state s) refl; sound = a.sound }
      where
        go : (b : Bool) → is_state s ≡ b → r ≡ cond b (record { verdict = (Ok tt); param = struct_of (param_in s) }) unmade
        go false e = a.gives ∙ rw (accepted, e)
        go true e =
            let f : leb q.len most_events ≡ true = unfold is_whole in (both (leb q.len most_events) (is_sound (param_of parts)) (accepted ∙ e)).0 in
            a.gives ∙ ap (λ (b : Bool). cond b (record { verdict = (Ok tt); param = struct_of (param_of parts) }) unmade) (accepted ∙ e)
            ∙ ap (λ (x : Param). record { verdict = (Ok tt); param = struct_of x }) (read f)

-- ---- "decoding after encoding is the identity, every accepted state is sound"

pub accepted_sound : (s : List ℕ) → is_state s ≡ true → Sound (param_in s)
unfolding is_state
accepted_sound s h =
    let a = both (eqb (length s) state_length) _ h in
    let v = both (eqb (get_or s 0 0) state_version) _ a.1 in
    let b = both (is_rate (get_or s 4 0)) _ v.1 in
    let e = both (is_edition (get_or s 5 0)) _ b.1 in
    tested (param_in s) (both (leb (get_or s 14 0) most_events) _ e.1).1

count_in_lem : (p : Param) (s : List ℕ) → get_or (state_of p s) 14 0 ≡ length p.queue
unfolding state_of
count_in_lem p s = refl

version_in : (p : Param) (s : List ℕ) → get_or (state_of p s) 0 0 ≡ state_version
unfolding state_of
version_in p s = refl

rate_in_lem : (p : Param) (s : List ℕ) → is_rate (get_or (state_of p s) 4 0) ≡ true
unfolding state_of
rate_in_lem p s = go p.rate
  where
    go : (r : AutomationRate) → is_rate (rate_word r) ≡ true
    go Rate.A = unfold is_rate rate_word in refl
    go Rate.K = unfold is_rate rate_word in refl

edition_in : (p : Param) (s : List ℕ) → is_edition (get_or (state_of p s) 5 0) ≡ true
unfolding state_of
edition_in p s = (edition_back p.edition).1

pub encoded_accepted : {p : AudioParam} {s after : List ℕ} → SoundParam p → length after ≡ state_length → Encodes p s after → is_state after ≡ true
unfolding is_state
encoded_accepted {p} {s} {after} f long e =
    let few : length (param_of p).queue ≤ most_events = f.sound.waiting.few in
    let many : get_or after 14 0 ≡ length (param_of p).queue = ap (λ (l : List ℕ). get_or l 14 0) e.is ∙ count_in_lem (param_of p) s in
    let version : get_or after 0 0 ≡ state_version = ap (λ (l : List ℕ). get_or l 0 0) e.is ∙ version_in (param_of p) s in
    and
    (eq-eqb (length after) state_length long)
    (and
    (eq-eqb (get_or after 0 0) state_version version)
    (and
    (ap (λ (l : List ℕ). is_rate (get_or l 4 0)) e.is ∙ rate_in_lem (param_of p) s)
    (and
    (ap (λ (l : List ℕ). is_edition (get_or l 5 0)) e.is ∙ edition_in (param_of p) s)
    (and (le-leb (get_or after 14 0) most_events (omega arith)) (rw e.back (passes_test (param_of p) f.sound))))))

pub decoded_encoded : {p : AudioParam} {s after : List ℕ} {r : Outcome} → SoundParam p → length after ≡ state_length → Encodes p s after → Decodes after r
    → r ≡ record { verdict = (Ok tt); param = p }
decoded_encoded {p} {s} {after} f long e d =
    d.gives ∙ ap (λ (b : Bool). cond b (record { verdict = (Ok tt); param = struct_of (param_in after) }) unmade) (encoded_accepted f long e)
    ∙ ap (λ (x : Param). record { verdict = (Ok tt); param = struct_of x }) e.back
    ∙ ap (λ (x : AudioParam). record { verdict = (Ok tt); param = x }) (sym (whole p f))

-- ---- the state of a parameter, written

pub accepted_long : (s : List ℕ) → is_state s ≡ true → length s ≡ state_length
unfolding is_state
accepted_long s h = eqb-true (length s) state_length (both (eqb (length s) state_length) _ h).0

pub written_long : (p : Param) (s : List ℕ) → length p.queue ≤ most_events → length s ≡ state_length → length (state_of p s) ≡ state_length
unfolding state_of
written_long p s few long = simp (length-append, length-drop) (omega (arith, words_length p.queue))

module _ {p : AudioParam} {s after : List ℕ} (f : SoundParam p) (long : length s ≡ state_length) (e : Encodes p s after) where
  pub reads_back : (is_state after ≡ true) × (param_in after ≡ param_of p)
  reads_back = (encoded_accepted f (ap length e.is ∙ written_long (param_of p) s f.sound.waiting.few long) e, e.back)

-- ---- what a state gives

module _ {s : List ℕ} {d : Outcome} (x : Decodes s d) where
  pub answered_state : d.verdict ≡ Ok tt → (is_state s ≡ true) × (param_of d.param ≡ param_in s)
  answered_state h = go (is_state s) refl
    where
      go : (b : Bool) → is_state s ≡ b → (b ≡ true) × (param_of d.param ≡ param_in s)
      go true e =
          let is : d ≡ record { verdict = (Ok tt); param = struct_of (param_in s) } = x.gives ∙ rw e in
          (refl, ap (λ (o : Outcome). param_of o.param) is ∙ struct_back (param_in s))
      go false e = let is : d ≡ unmade = x.gives ∙ rw e in let z : ◌≡◌ {A = ℕ} 0 1 = cc in absurd (omega arith)

  pub answered_long : d.verdict ≡ Ok tt → length s ≡ state_length
  answered_long h = accepted_long s (answered_state h).0

  pub refused_state : {why : Refusal} → d.verdict ≡ Err why → is_state s ≡ false
  refused_state {why} h = go (is_state s) refl
    where
      go : (b : Bool) → is_state s ≡ b → b ≡ false
      go false e = refl
      go true e =
          let is : d ≡ record { verdict = (Ok tt); param = struct_of (param_in s) } = x.gives ∙ rw e in
          let z : ◌≡◌ {A = ℕ} 0 1 = cc in
          absurd (omega arith)
