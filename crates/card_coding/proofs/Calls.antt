-- What the calls do, case by case. Assumes nothing.
use Rattle.std.proofs.Common.{Option, Some, None, Ok, Err}
use mathlib.Core.Path.{◌≡◌, refl, sym, ap, ◌∙◌}
use mathlib.Core.Bool.{true, false, ◌&&◌}
use mathlib.Core.List.{List, ◌++◌}
use Prim.Native.Nat.{ℕ, ◌≤◌, ◌<◌}
use native.Mathlib.Omega.{arith}
use lib.Dec.{leb, eqb}
use lib.ListN.{length, get_or, take}
use lib.Ieee.{Float}
use borrow.Author.Tests.{le-leb, lt-leb, eq-eqb, ne_eqb}
use Rattle.rules.specs.declared.AutomationRate.{AutomationRate}
use Rattle.rules.specs.declared.Refusal.{Refusal}
use Rattle.rules.specs.Numbers.{store_length}
use Rattle.rules.specs.Block.{Param}
use Rattle.laws.proofs.Tests.{clash, and}
use Rattle.param.specs.declared.Outcome.{Outcome}
use Rattle.coding.specs.Coding.{state_of, Decodes}
use Rattle.coding.proofs.Read.{answered_state, refused_state}
use Rattle.card.specs.declared.Judged.{Judged}
use Rattle.card.specs.Card.{is_accepted, is_whole, has_head, Reader, Reading, opened, begun, fed, Saved, saved}
use Rattle.card.proofs.Fields.{and_false}
use Rattle.card_reader.specs.declared.CardReader.{CardReader}
use Rattle.card_reader.specs.Reader.{reading_of, window_length, part_length, SoundWindow, Opens, Feeds, TakesPart}
use Rattle.card_writer.specs.Writer.{Saves}
use Rattle.card_coding.specs.Array.{card_length, state_in, is_going, reading_in, is_card, head_words, card_of, Keeps, Numbers, ReadsCard, PutsCard}
use Rattle.card_coding.specs.Calls.{bad_card, long_part, written, WritesCard, begun_told, OpensCard, part_told, HearsCard}
use Rattle.card_coding.proofs.Kept.{kept_zero, keeps, card_is}

-- ---- writing

module _ {s : List ℕ} {d : Outcome} (x : Decodes s d) {store : List Float} {out : List ℕ} {at : ℕ} where
  pub writes_bad : {why : Refusal} → d.verdict ≡ Err why → WritesCard s store out at bad_card out at
  unfolding written
  writes_bad h = record { says = rw (refused_state x h) }

  pub writes : {j : Judged} {after : List ℕ} {n : ℕ} → d.verdict ≡ Ok tt → Saves d.param store out j after → Numbers j.verdict n → WritesCard s store out at n after j.at
  unfolding written
  writes h w n =
      let o = answered_state x h in
      let e = w.saved ∙ ap (λ (p : Param). saved p store out) o.1 in
      record { says = rw (o.0, n.is) (ap (λ (k : Saved). written true k at out) e) }

-- ---- the first part is to come

module _ (card : List ℕ) (numbers : List Float) (rate : AutomationRate) (edition : ℕ) where
  begins_bad : (eqb (length card) card_length && eqb (length numbers) store_length) ≡ false → OpensCard rate edition card numbers bad_card card numbers
  unfolding begun_told
  begins_bad h = record { says = rw h; keeps = λ z. absurd (omega (arith, z)) }

  pub begins_no_card : (length card ≡ card_length → ⊥) → OpensCard rate edition card numbers bad_card card numbers
  begins_no_card h = begins_bad (rw (ne_eqb (length card) card_length h))

  pub begins_no_numbers : (length numbers ≡ store_length → ⊥) → OpensCard rate edition card numbers bad_card card numbers
  begins_no_numbers h = begins_bad (rw (ne_eqb (length numbers) store_length h) (and_false (eqb (length card) card_length)))

  module _ {r : CardReader} {after : List ℕ} {left : List Float} (o : Opens rate edition r left) (x : PutsCard card r after) where
    abbrev whole : Reader → ℕ → List ℕ
    whole q held = head_words q.verdict q.offset held q ++ state_of q.param (state_in card)

    written_so : after ≡ card_of (begun rate edition) card
    unfolding card_of
    written_so = x.is ∙ ap (λ (q : Reader). whole q r.held) o.reader ∙ ap (whole (opened rate edition)) o.held

    fits : (window : List ℕ) → length window ≡ window_length → SoundWindow r window
    unfolding is_whole has_head
    fits window long =
        record {
          long = long;
          room = rw o.held (omega arith);
          waits = rw o.held (and_false (is_accepted r.verdict));
        }

    reads_begun : (window : List ℕ) → reading_of r left window ≡ begun rate edition
    reads_begun window =
        ap (λ (q : Reader). record { reader = q; rest = take r.held window }) o.reader
        ∙ ap (λ (n : ℕ). record { reader = opened rate edition; rest = take n window }) o.held

    pub begins : length card ≡ card_length → length numbers ≡ store_length → OpensCard rate edition card numbers 0 after left
    unfolding begun_told
    begins a b =
        record {
          says = rw (eq-eqb _ _ a, eq-eqb _ _ b) (rw (written_so, ap (λ (q : Reader). q.store) o.reader));
          keeps = λ z window long. rw (reads_begun window) at (keeps x o.sound (fits window long));
        }

-- ---- a part

pub feeds_part : (part : List ℕ) {r : CardReader} {numbers : List Float} {window : List ℕ} {f : Option CardReader} {q : CardReader} {left : List Float} {over : List ℕ} → length part ≤ part_length
    → TakesPart (leb (length part) part_length) part r numbers window f left over → f ≡ Some q → Feeds part r numbers window q left over
unfolding TakesPart
feeds_part part {r} {numbers} {window} {f} {q} {left} {over} l t e =
    let k = rw (le-leb (length part) part_length l) at t in
    let same : k.0 ≡ q = cc (k.1, e) in
    rw same at k.2

-- a part that is not too long is taken
pub part_taken : (part : List ℕ) (r : CardReader) (numbers : List Float) (window : List ℕ) {f : Option CardReader} (left : List Float) (over : List ℕ) → length part ≤ part_length
    → TakesPart (leb (length part) part_length) part r numbers window f left over → f ≡ None → ⊥
unfolding TakesPart
part_taken part r numbers window {f} left over l t e =
    let k = rw (le-leb (length part) part_length l) at t in
    let same : Some k.0 ≡ None = sym k.1 ∙ e in
    cc

module _ (card : List ℕ) (numbers : List Float) (window part : List ℕ) where
  pub hears_bad : is_card card numbers window ≡ false → HearsCard card numbers window part bad_card card numbers window
  unfolding part_told
  hears_bad h = record { says = rw h; rests = λ _. refl; stays = λ t. t; keeps = λ s l k. clash k.good h }

  module _ (good : is_card card numbers window ≡ true) where
    pub hears_long : part_length < length part → HearsCard card numbers window part long_part card numbers window
    unfolding part_told
    hears_long m = record { says = rw (good, lt-leb (length part) part_length m); rests = λ _. refl; stays = λ t. t; keeps = λ s l k. absurd (omega (arith, l, m)) }

    refused : (s : Reading) → Keeps card numbers window s → (get_or card 1 0 ≡ 0 → ⊥) → is_accepted s.reader.verdict ≡ false
    refused s k z = sym (kept_zero s.reader.verdict) ∙ ap (λ (n : ℕ). eqb n 0) (sym k.number) ∙ ne_eqb _ 0 z

    pub hears_refused : length part ≤ part_length → (get_or card 1 0 ≡ 0 → ⊥) → HearsCard card numbers window part 0 card numbers window
    unfolding part_told is_going fed
    hears_refused l z =
        record {
          says = rw (good, le-leb (length part) part_length l, ne_eqb _ 0 z);
          rests = λ _. refl;
          stays = λ t. t;
          keeps = λ s m k. rw (fed_refused s (refused s k z)) k;
        }
      where
        fed_refused : (s : Reading) → is_accepted s.reader.verdict ≡ false → fed s part ≡ s
        fed_refused s e = rw e

    module _ (l : length part ≤ part_length) (z : get_or card 1 0 ≡ 0) {r q : CardReader} (x : ReadsCard card r) {left : List Float} {over : List ℕ}
        (feeds : Feeds part r numbers window q left over) where
      is_fed : reading_of q left over ≡ fed (reading_in card numbers window) part
      is_fed = feeds.reading ∙ ap (λ (o : CardReader). fed (reading_of o numbers window) part) x.is

      pub hears : {after : List ℕ} → PutsCard card q after → HearsCard card numbers window part 0 after left over
      unfolding part_told is_going
      hears {after} p =
          let kept = keeps p feeds.sound feeds.fits in
          let is : after ≡ card_of (fed (reading_in card numbers window) part) card = card_is p feeds.sound feeds.fits ∙ ap (λ (s : Reading). card_of s card) is_fed in
          let all : (is_card card numbers window && (leb (length part) part_length && eqb (get_or card 1 0) 0)) ≡ true = and good (and (le-leb (length part) part_length l) (eq-eqb _ 0 z)) in
          record {
            says = rw (good, le-leb (length part) part_length l, eq-eqb _ 0 z) (rw (is, ap (λ (s : Reading). s.reader.store) is_fed));
            rests = λ e. clash all e;
            stays = λ _. kept.good;
            keeps = λ s m k. rw (is_fed ∙ ap (λ (t : Reading). fed t part) (k.going z)) at kept;
          }
