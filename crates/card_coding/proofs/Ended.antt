-- The file's end, case by case. Assumes nothing.
use Rattle.card.specs.declared.Fault.{Fault}
use Rattle.std.proofs.Common.{Ok, Result, Err}
use mathlib.Core.Path.{◌≡◌, refl, sym, ap, ◌∙◌}
use mathlib.Core.Bool.{Bool, true, false, cond, ◌&&◌}
use mathlib.Core.List.{List}
use Prim.Native.Nat.{ℕ}
use native.Mathlib.Omega.{arith}
use lib.Dec.{eqb}
use lib.ListN.{length, get_or}
use lib.Ieee.{Float}
use borrow.Author.Tests.{eq-eqb, ne_eqb}
use Rattle.rules.specs.Numbers.{store_length}
use Rattle.rules.specs.Refusals.{number_of}
use Rattle.rules.specs.Block.{Param}
use Rattle.laws.proofs.Tests.{never, clash, and}
use Rattle.param.specs.Param.{param_of}
use Rattle.param.proofs.Calls.{struct_back}
use Rattle.coding.specs.Coding.{state_length, is_state, param_in, state_of, Encodes}
use Rattle.coding.proofs.Read.{reads_back}
use Rattle.card.specs.declared.Judged.{Judged}
use Rattle.card.specs.Card.{fault_number, is_accepted, Reader, Reading, at_end, Loaded, loaded_as, bad_store, loaded}
use Rattle.card.proofs.Fields.{and_false}
use Rattle.card_reader.specs.declared.CardReader.{CardReader}
use Rattle.card_reader.specs.declared.Loaded as code
use Rattle.card_reader.specs.Reader.{reading_of, Loads}
use Rattle.card_coding.specs.Array.{verdict_number, is_going, reading_in, is_card, Keeps, Numbers, ReadsCard}
use Rattle.card_coding.specs.Calls.{bad_card, Ended, ended_as, refused_end, ended, EndsCard}
use Rattle.card_coding.proofs.Kept.{by_number}

-- the caller's parameter is given back only where nothing is written over it
same_end : (q : Reader) (p o : Param) (store : List Float) (state : List ℕ) → ended_as (loaded q p store) state ≡ ended_as (loaded q o store) state
unfolding ended_as loaded loaded_as is_accepted
same_end q p o store state = go (eqb (length store) store_length) q.verdict
  where
    go : (b : Bool) (v : Result Unit Fault)
        → ended_as (cond b (loaded_as v q p store) (record { says = bad_store; param = p; store = store })) state
        ≡ ended_as (cond b (loaded_as v q o store) (record { says = bad_store; param = o; store = store })) state
    go true (Ok _) = refl
    go true (Err f) = refl
    go false v = refl

-- and where the file is answered the parameter is the file's, whatever the caller's is
same_given : (q : Reader) (p o : Param) (store : List Float) → is_accepted (loaded q p store).says.verdict ≡ true → (loaded q p store).param ≡ (loaded q o store).param
unfolding loaded loaded_as is_accepted
same_given q p o store h = go (eqb (length store) store_length) q.verdict h
  where
    go : (b : Bool) (v : Result Unit Fault) → is_accepted (cond b (loaded_as v q p store) (record { says = bad_store; param = p; store = store })).says.verdict ≡ true
        → (cond b (loaded_as v q p store) (record { says = bad_store; param = p; store = store })).param
        ≡ (cond b (loaded_as v q o store) (record { says = bad_store; param = o; store = store })).param
    go true (Ok _) k = refl
    go true (Err f) k = never k
    go false v k = never k

module _ (card : List ℕ) (numbers : List Float) (window : List ℕ) (before : Ended) where
  ends_bad : before.number ≡ bad_card → (is_card card numbers window && eqb (length before.state) state_length) ≡ false → EndsCard card numbers window before before
  unfolding ended
  ends_bad n h =
      record {
        says = rw h;
        keeps = λ s long k. clash (and k.good (eq-eqb (length before.state) state_length long)) h;
        reads = λ z. absurd (omega (arith, n, z));
        gives = λ s k z. absurd (omega (arith, n, z));
      }

  pub ends_no_card : before.number ≡ bad_card → is_card card numbers window ≡ false → EndsCard card numbers window before before
  ends_no_card n h = ends_bad n (rw h)

  pub ends_no_state : before.number ≡ bad_card → (length before.state ≡ state_length → ⊥) → EndsCard card numbers window before before
  ends_no_state n h = ends_bad n (rw (ne_eqb (length before.state) state_length h) (and_false (is_card card numbers window)))

  module _ (good : is_card card numbers window ≡ true) (long : length before.state ≡ state_length) where
    pub ends_no_store : (length before.store ≡ store_length → ⊥) → EndsCard card numbers window before (record { number = 14; at = 0; state = before.state; store = before.store })
    unfolding ended refused_end ended_as loaded is_accepted verdict_number fault_number number_of
    ends_no_store h =
        record {
          says = rw (good, eq-eqb (length before.state) state_length long) (go (is_going card));
          keeps = λ s l k. rw (ne_eqb (length before.store) store_length h);
          reads = λ z. absurd (omega (arith, z));
          gives = λ s k z. absurd (omega (arith, z));
        }
      where
        go : (b : Bool) → record { number = 14; at = 0; state = before.state; store = before.store }
            ≡ ended true b (loaded (at_end (reading_in card numbers window)) (param_in before.state) before.store) card before
        go true = rw (ne_eqb (length before.store) store_length h)
        go false = rw (ne_eqb (length before.store) store_length h)

    pub ends_refused : length before.store ≡ store_length → (get_or card 1 0 ≡ 0 → ⊥)
        → EndsCard card numbers window before (record { number = get_or card 1 0; at = get_or card 2 0; state = before.state; store = before.store })
    unfolding ended refused_end is_going ended_as loaded loaded_as at_end is_accepted verdict_number
    ends_refused same h =
        record {
          says = rw (good, eq-eqb (length before.state) state_length long, ne_eqb (get_or card 1 0) 0 h, eq-eqb (length before.store) store_length same);
          keeps = λ s l k. go s k s.reader.verdict refl;
          reads = λ z. absurd (h z);
          gives = λ s k z. absurd (h z);
        }
      where
        go : (s : Reading) → Keeps card numbers window s → (v : Result Unit Fault) → s.reader.verdict ≡ v
            → record { number = get_or card 1 0; at = get_or card 2 0; state = before.state; store = before.store }
            ≡ ended_as (loaded (at_end s) (param_in before.state) before.store) before.state
        go s k (Ok _) e = absurd (h (k.number ∙ ap verdict_number e))
        go s k (Err f) e = rw (k.number, k.offset, e, eq-eqb (length before.store) store_length same) refl

    module _ (same : length before.store ≡ store_length) (z : get_or card 1 0 ≡ 0) {r : CardReader} (x : ReadsCard card r) {l : code.Loaded} {left : List Float}
        (y : Loads (reading_of r numbers window) r.param before.store l left) {n : ℕ} (m : Numbers l.says.verdict n) where
      abbrev whole : Loaded
      whole = loaded (at_end (reading_of r numbers window)) (param_of r.param) before.store

      param_is : param_of l.param ≡ whole.param
      param_is = ap param_of y.param ∙ struct_back whole.param

      ends_as : {after : List ℕ} → after ≡ cond (is_accepted l.says.verdict) (state_of (param_of l.param) before.state) before.state
          → record { number = n; at = l.says.at; state = after; store = left } ≡ ended_as (loaded (at_end (reading_in card numbers window)) (param_in before.state) before.store) before.state
      unfolding ended_as
      ends_as {after} a =
          let state : after ≡ cond (is_accepted whole.says.verdict) (state_of whole.param before.state) before.state =
          a ∙ ap (λ (p : Param). cond (is_accepted l.says.verdict) (state_of p before.state) before.state) param_is
          ∙ ap (λ (v : Result Unit Fault). cond (is_accepted v) (state_of whole.param before.state) before.state) (ap (λ (j : Judged). j.verdict) y.says) in
          let number : n ≡ verdict_number whole.says.verdict = m.is ∙ ap (λ (j : Judged). verdict_number j.verdict) y.says in
          let at : l.says.at ≡ whole.says.at = ap (λ (j : Judged). j.at) y.says in
          let is : record { number = n; at = l.says.at; state = after; store = left } ≡ ended_as whole before.state = rw (number, at, state, y.left) in
          is
          ∙ ap (λ (q : CardReader). ended_as (loaded (at_end (reading_of q numbers window)) (param_of r.param) before.store) before.state) x.is
          ∙ same_end (at_end (reading_in card numbers window)) (param_of r.param) (param_in before.state) before.store before.state

      -- what is read back, where the file is answered
      abbrev Given : List ℕ → Type 0
      Given after = n ≡ 0 → (is_state after ≡ true) × (param_in after ≡ (loaded (at_end (reading_in card numbers window)) (param_in before.state) before.store).param)

      ends : {after : List ℕ} → after ≡ cond (is_accepted l.says.verdict) (state_of (param_of l.param) before.state) before.state → Given after
          → EndsCard card numbers window before (record { number = n; at = l.says.at; state = after; store = left })
      unfolding ended is_going
      ends a b =
          record {
            says = rw (good, eq-eqb (length before.state) state_length long, eq-eqb (get_or card 1 0) 0 z) (ends_as a);
            keeps = λ s _ k. ends_as a ∙ ap (λ (t : Reading). ended_as (loaded (at_end t) (param_in before.state) before.store) before.state) (k.going z);
            reads = λ h. (b h).0;
            gives = λ s k h. (b h).1 ∙ ap (λ (t : Reading). (loaded (at_end t) (param_in before.state) before.store).param) (k.going z);
          }

      pub ends_kept : {after : List ℕ} → is_accepted l.says.verdict ≡ true → Encodes l.param before.state after → EndsCard card numbers window before (record { number = n; at = l.says.at; state = after; store = left })
      ends_kept kept e =
          let back = reads_back y.sound long e in
          let same-param = same_given (at_end (reading_of r numbers window)) (param_of r.param) (param_in before.state) before.store (rw y.says at kept) in
          let is = ap (λ (q : CardReader). (loaded (at_end (reading_of q numbers window)) (param_in before.state) before.store).param) x.is in
          ends (rw kept e.is) (λ _. (back.0, back.1 ∙ param_is ∙ same-param ∙ is))

      pub ends_left : is_accepted l.says.verdict ≡ false → EndsCard card numbers window before (record { number = n; at = l.says.at; state = before.state; store = left })
      ends_left refused = ends (rw refused) (λ e. clash ((by_number l.says.verdict m).0 e) refused)
