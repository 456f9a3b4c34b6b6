-- The array that keeps a reader: its test, part by part, and what is read from it and written to it. Assumes nothing.
use Rattle.std.proofs.Common.{Option, Ok, Err, Result}
use mathlib.Core.Path.{◌≡◌, refl, sym, ap, ◌∙◌}
use mathlib.Core.Bool.{Bool, true, false, not, ◌&&◌}
use mathlib.Core.List.{List, [], ◌∷◌, ◌++◌, append-nil}
use Prim.Native.Nat.{ℕ, ◌-◌, ◌≤◌, ◌<◌}
use native.Mathlib.Omega.{arith}
use lib.Dec.{leb, eqb}
use lib.ListN.{length, get_or, take, drop, drop_of_length-le, length-append, length-drop}
use lib.Seq.{sets, sets-eq, length-take-le}
use lib.Ieee.{Float}
use borrow.Author.Rules.{part_to_end}
use borrow.Author.Tests.{leb-true, eqb-true, le-leb, eq-eqb, ne_eqb, not-true}
use Rattle.rules.specs.declared.AutomationRate.{AutomationRate}
use Rattle.rules.specs.declared.Refusal.{Refusal}
use Rattle.rules.specs.Numbers.{store_length}
use Rattle.rules.specs.Refusals.{number_of}
use Rattle.rules.specs.Block.{Param}
use Rattle.laws.proofs.Tests.{both, and}
use Rattle.param.specs.declared.Outcome.{Outcome}
use Rattle.param.specs.Param.{param_of, struct_of, SoundParam}
use Rattle.param.proofs.Calls.{struct_back}
use Rattle.coding.specs.Coding.{state_length, is_state, param_in, state_of, time_in, rate_in, flag_of, rate_word, TimeBits, Decodes, Encodes}
use Rattle.coding.proofs.Written.{rate_back}
use Rattle.coding.proofs.Read.{accepted_long, reads_back, answered_state, refused_state}
use Rattle.card.specs.declared.Fault.{Fault}
use Rattle.card.specs.Card.{fault_number, is_accepted, is_whole, Reading}
use Rattle.card_reader.specs.declared.CardReader.{CardReader}
use Rattle.card_reader.specs.Reader.{reader_of, reading_of, window_length, SoundReader, SoundWindow}
use Rattle.card_coding.specs.Array.{card_head, card_length, card_version, verdict_number, bit_of, state_in, is_going, is_ranged, reader_in, are_long, is_head, is_waiting, bytes_counted, is_counted, is_card, head_words, card_of, Keeps, Numbers, ReadsCard, PutsHead, PutsCard}

-- ---- numbers

-- 0 is no refusal's number
pub refusal_number : (why : Refusal) → number_of why ≡ 0 → ⊥
unfolding number_of
refusal_number Refusal.Bounds h = omega (arith, h)
refusal_number Refusal.NotFinite h = omega (arith, h)
refusal_number Refusal.BeforeZero h = omega (arith, h)
refusal_number Refusal.NotAbove h = omega (arith, h)
refusal_number Refusal.ZeroTarget h = omega (arith, h)
refusal_number Refusal.ShortCurve h = omega (arith, h)
refusal_number Refusal.QueueFull h = omega (arith, h)
refusal_number Refusal.StoreFull h = omega (arith, h)
refusal_number Refusal.BadBlock h = omega (arith, h)
refusal_number Refusal.OutOfOrder h = omega (arith, h)
refusal_number Refusal.Inside h = omega (arith, h)
refusal_number Refusal.UnknownEdition h = omega (arith, h)
refusal_number Refusal.BadStore h = omega (arith, h)

fault_number_lem : (f : Fault) → fault_number f ≡ 0 → ⊥
unfolding fault_number
fault_number_lem Fault.UnknownTag h = omega (arith, h)
fault_number_lem Fault.WrongLength h = omega (arith, h)
fault_number_lem Fault.Misplaced h = omega (arith, h)
fault_number_lem Fault.CutShort h = omega (arith, h)
fault_number_lem Fault.Unwritable h = omega (arith, h)
fault_number_lem Fault.OutOfTurn h = omega (arith, h)
fault_number_lem (Fault.Own why) h = refusal_number why h
fault_number_lem Fault.NoRoom h = omega (arith, h)

-- 0 is the number of what is not refused
pub kept_zero : (v : Result Unit Fault) → eqb (verdict_number v) 0 ≡ is_accepted v
unfolding verdict_number is_accepted
kept_zero (Ok _) = refl
kept_zero (Err f) = ne_eqb (fault_number f) 0 (fault_number_lem f)

-- by the number that is answered
pub by_number : (v : Result Unit Fault) {n : ℕ} → Numbers v n → (n ≡ 0 → is_accepted v ≡ true) × ((n ≡ 0 → ⊥) → is_accepted v ≡ false)
by_number v m = (λ z. sym (kept_zero v) ∙ eq-eqb _ 0 (sym m.is ∙ z), λ z. sym (kept_zero v) ∙ ne_eqb _ 0 (λ e. z (m.is ∙ e)))

-- ---- the test

module _ (card : List ℕ) (numbers : List Float) (window : List ℕ) where
  pub long : are_long card numbers window ≡ true → (length card ≡ card_length) × (length numbers ≡ store_length) × (length window ≡ window_length)
  unfolding are_long
  long h =
      let a = both (eqb (length card) card_length) _ h in
      let b = both (eqb (length numbers) store_length) _ a.1 in
      (eqb-true _ _ a.0, eqb-true _ _ b.0, eqb-true _ _ b.1)

pub held_room : (card : List ℕ) → is_head card ≡ true → get_or card 3 0 < window_length
unfolding is_head
held_room card h = leb-true _ _ (both (leb (get_or card 1 0) 255) _ (both (eqb (get_or card 0 0) card_version) _ h).1).1

-- the test's parts
pub record Passes (card : List ℕ) (numbers : List Float) (window : List ℕ) : Type 0 where
  pub card_long : length card ≡ card_length
  pub numbers_long : length numbers ≡ store_length
  pub window_long : length window ≡ window_length
  pub head : is_head card ≡ true
  pub waiting : is_waiting card window ≡ true
  pub counts : is_counted card ≡ true

pub passes : (card : List ℕ) (numbers : List Float) (window : List ℕ) → is_card card numbers window ≡ true → Passes card numbers window
unfolding is_card
passes card numbers window h =
    let a = both (are_long card numbers window) _ h in
    let b = both (is_head card) _ a.1 in
    let c = both (is_waiting card window) _ b.1 in
    let l = long card numbers window a.0 in
    record { card_long = l.0; numbers_long = l.1; window_long = l.2; head = b.0; waiting = c.0; counts = c.1 }

pub number_small : (card : List ℕ) → is_head card ≡ true → get_or card 1 0 ≤ 255
unfolding is_head
number_small card h = leb-true _ _ (both (leb (get_or card 1 0) 255) _ (both (eqb (get_or card 0 0) card_version) _ h).1).0

pub state_good : (card : List ℕ) → is_counted card ≡ true → is_state (state_in card) ≡ true
unfolding is_counted
state_good card h = (both (is_state (state_in card)) _ h).0

-- ---- what is read

pub decoded : (card : List ℕ) {d : Outcome} → Decodes (take (length card - card_head) (drop card_head card)) d → Decodes (state_in card) d
decoded card x = rw (part_to_end card card_head) at x

pub uncounted : (card : List ℕ) {d : Outcome} {why : Refusal} → Decodes (take (length card - card_head) (drop card_head card)) d → d.verdict ≡ Err why → false ≡ is_counted card
unfolding is_counted
uncounted card x h = rw (refused_state (decoded card x) h)

pub counted : (card : List ℕ) {d : Outcome} {n most : ℕ} → Decodes (take (length card - card_head) (drop card_head card)) d → d.verdict ≡ Ok tt
    → n ≡ length (param_of d.param).queue → most ≡ bytes_counted (not (eqb (get_or card 6 0) 0)) n → leb (get_or card 2 0) most ≡ is_counted card
unfolding is_counted is_ranged
counted card x h en em =
    let o = answered_state (decoded card x) h in
    rw o.0 (ap (leb (get_or card 2 0)) (em ∙ ap (bytes_counted (not (eqb (get_or card 6 0) 0))) (en ∙ ap (λ (p : Param). length p.queue) o.1)))

given : {s : List ℕ} {d : Outcome} → Decodes s d → is_state s ≡ true → d.param ≡ struct_of (param_in s)
given {s} {d} x h =
    let is : d ≡ record { verdict = (Ok tt); param = struct_of (param_in s) } = x.gives ∙ rw h in
    ap (λ (o : Outcome). o.param) is

pub reads_card : (card : List ℕ) {d : Outcome} {rate : AutomationRate} {before : Option Float} → is_state (state_in card) ≡ true
    → Decodes (take (length card - card_head) (drop card_head card)) d → rate ≡ rate_in (get_or card 4 0) → before ≡ time_in (get_or card 7 0) (get_or card 8 0)
    → ReadsCard card (record { param = d.param; rate = rate; edition = get_or card 5 0; ranged = not (eqb (get_or card 6 0) 0); before = before; offset = get_or card 2 0; verdict = Ok tt; held = get_or card 3 0 })
unfolding is_ranged
reads_card card good x a b = record { is = rw (given (decoded card x) good, a, b); sound = x.sound }

-- while no field is refused, the reader of an array that passes is sound
module _ {card : List ℕ} {numbers : List Float} {window : List ℕ} (g : Passes card numbers window) (z : get_or card 1 0 ≡ 0) {r : CardReader} (x : ReadsCard card r) where
  pub reader_sound : SoundReader r numbers
  unfolding is_counted
  reader_sound =
      let q : length (param_of (reader_in card).param).queue ≡ length (param_in (state_in card)).queue = ap (λ (p : Param). length p.queue) (struct_back (param_in (state_in card))) in
      let most = leb-true _ _ (both (is_state (state_in card)) _ g.counts).1 in
      rw x.is (record { param = rw x.is at x.sound; long = g.numbers_long; counted = rw q most })

  pub window_sound : SoundWindow r window
  unfolding is_waiting is_going is_accepted
  window_sound =
      let waits : (eqb (get_or card 1 0) 0 && is_whole (take (get_or card 3 0) window)) ≡ false = not-true _ g.waiting in
      rw x.is (record { long = g.window_long; room = held_room card g.head; waits = rw (eq-eqb _ 0 z) at waits })

-- ---- what is written

-- the stores one behind the other
pub puts_head : (r : CardReader) {card : List ℕ} {number rate ranged flag time : ℕ} → length card ≡ card_length → Numbers r.verdict number → rate ≡ rate_word r.rate
    → ranged ≡ bit_of r.ranged → flag ≡ flag_of r.before → TimeBits r.before time
    → PutsHead card r (sets card 0 (card_version ∷ number ∷ r.offset ∷ r.held ∷ rate ∷ r.edition ∷ ranged ∷ flag ∷ time ∷ []))
puts_head r {card} {number} {rate} {ranged} {flag} {time} long n a b f t =
    record {
      is =
          sets-eq (card_version ∷ number ∷ r.offset ∷ r.held ∷ rate ∷ r.edition ∷ ranged ∷ flag ∷ time ∷ []) card 0 (omega arith)
          ∙ rw (n.is, a, b, f, t.is);
      small = rw n.is at n.small;
      before = t.back;
    }

-- the head is written, then the state behind it
module _ {card mid : List ℕ} {r : CardReader} (long : length card ≡ card_length) (f : SoundParam r.param) (h : PutsHead card r mid) where
  pub mid_long : length mid ≡ card_length
  mid_long = ap length h.is ∙ simp (length-append, length-drop) (omega arith)

  mid_state : take (length mid - card_head) (drop card_head mid) ≡ state_in card
  mid_state = part_to_end mid card_head ∙ ap (drop card_head) h.is

  state_long : length (state_in card) ≡ state_length
  state_long = simp length-drop (omega arith)

  nothing-behind : drop (length mid - card_head) (drop card_head mid) ≡ []
  nothing-behind = drop_of_length-le (drop card_head mid) {i = length mid - card_head} (simp length-drop (omega arith))

  pub puts_card : {after : List ℕ} → Encodes r.param (take (length mid - card_head) (drop card_head mid)) after
      → PutsCard card r (take card_head mid ++ (after ++ drop (length mid - card_head) (drop card_head mid)))
  puts_card {after} e =
      let is : Encodes r.param (state_in card) after = rw mid_state at e in
      let back = reads_back f state_long is in
      record {
        is = rw (nothing-behind, append-nil after) (rw (h.is, is.is));
        small = h.small;
        before = h.before;
        state = rw is.is at back.0;
        param = rw is.is at back.1;
      }

-- ---- what is written is kept

bit_back : (b : Bool) → not (eqb (bit_of b) 0) ≡ b
unfolding bit_of
bit_back true = refl
bit_back false = refl

pub zero_kept : (v : Result Unit Fault) → verdict_number v ≡ 0 → v ≡ Ok tt
unfolding verdict_number
zero_kept (Ok _) h = refl
zero_kept (Err f) h = absurd (fault_number_lem f h)

same_reading : {a b : AutomationRate} {c d : Bool} {p q : Param} {t u : Option Float} {v w : Result Unit Fault} (n o : ℕ) (store : List Float) (rest : List ℕ) → a ≡ b → c ≡ d → p ≡ q → t ≡ u → v ≡ w
    → ◌≡◌ {A = Reading} (record { reader = record { rate = a; edition = n; ranged = c; param = p; store = store; before = t; offset = o; verdict = v }; rest = rest })
    (record { reader = record { rate = b; edition = n; ranged = d; param = q; store = store; before = u; offset = o; verdict = w }; rest = rest })
same_reading n o store rest ea ec ep et ev = rw (ea, ec, ep, et, ev)

module _ {card after : List ℕ} {r : CardReader} (x : PutsCard card r after) {numbers : List Float} {window : List ℕ} (f : SoundReader r numbers) (g : SoundWindow r window) where
  abbrev state : List ℕ
  state = state_of (param_of r.param) (state_in card)

  abbrev all : List ℕ
  all = head_words r.verdict r.offset r.held (reader_of r []) ++ state

  card_good : is_card all numbers window ≡ true
  unfolding is_card are_long is_head is_waiting is_going is_counted is_ranged
  card_good =
      let many : length all ≡ card_length = omega (arith, accepted_long state x.state) in
      let waits : not (eqb (verdict_number r.verdict) 0 && is_whole (take r.held window)) ≡ true = rw (kept_zero r.verdict) (ap not g.waits) in
      let most : r.offset ≤ bytes_counted (not (eqb (bit_of r.ranged) 0)) (length (param_in state).queue) =
      rw (bit_back r.ranged) (rw (ap (λ (p : Param). length p.queue) x.param) f.counted) in
      and (and (eq-eqb _ _ many) (and (eq-eqb _ _ f.long) (eq-eqb _ _ g.long)))
      (and (and (le-leb _ _ x.small) (le-leb _ _ g.room)) (and waits (and x.state (le-leb _ _ most))))

  pub keeps : Keeps after numbers window (reading_of r numbers window)
  unfolding is_ranged
  keeps =
      rw x.is
      (record {
        good = card_good;
        number = refl;
        offset = refl;
        going =
            λ z. same_reading r.edition r.offset numbers (take r.held window) (rate_back r.rate) (bit_back r.ranged) (struct_back (param_in state) ∙ x.param) x.before
            (sym (zero_kept r.verdict z));
      })

  pub card_is : after ≡ card_of (reading_of r numbers window) card
  unfolding card_of
  card_is = x.is ∙ ap (λ (n : ℕ). head_words r.verdict r.offset n (reader_of r []) ++ state) (sym (length-take-le r.held window (omega (arith, g.room, g.long))))
