-- "What the writer writes, the reader gives back, event for event" (02, C-11). Assumes nothing.
use Rattle.card.specs.declared.Fault.{Fault}
use Rattle.std.proofs.Common.{Ok, Result, Err}
use mathlib.Core.Path.{◌≡◌, refl, sym, ap, ◌∙◌, subst}
use mathlib.Core.Bool.{Bool, true, false, cond, not, ◌||◌}
use mathlib.Core.List.{List, [], ◌∷◌, ◌++◌, append_assoc, append-nil}
use Prim.Native.Nat.{ℕ, suc, ◌≤◌}
use native.Mathlib.Nat.{zero-add}
use native.Mathlib.Omega.{arith}
use lib.Dec.{eqb}
use lib.ListN.{length}
use lib.Ieee.{Float}
use borrow.Author.Tests.{not-false, eq-eqb, eqb-true}
use Rattle.rules.specs.declared.Bounds.{Bounds}
use Rattle.rules.specs.declared.AutomationRate.{AutomationRate}
use Rattle.rules.specs.declared.Event.{Event}
use Rattle.rules.specs.Numbers.{store_length}
use Rattle.rules.specs.Queue.{Waiting, events_of, numbers_of, packed, attached, lengths_of}
use Rattle.rules.specs.Refusals.{lowest, are_bounds, is_edition, making_rows, all_finite}
use Rattle.rules.specs.Block.{Param, fresh, edition_of, made, made_as}
use Rattle.laws.specs.Fits.{AllFit}
use Rattle.laws.specs.Editions.{number_of_edition}
use Rattle.laws.specs.Sound.{is_clear, are_clear, are_due, has_played}
use Rattle.laws.proofs.Tests.{never, neither}
use Rattle.laws.proofs.Events.{events_attached}
use Rattle.laws.proofs.Store.{attached_fits}
use Rattle.laws.proofs.Editions.{edition_back}
use Rattle.card.specs.declared.Fault.TheVariants as Fault
use Rattle.card.specs.declared.Judged.{Judged}
use Rattle.card.specs.Card.{is_accepted, Reader, opened, ranged_as, field_turn, taken, fed, at_end, end_turn, read, event_field, fields_of, range_field, file_of, is_unwritable, is_held, Loaded, loaded_as, loaded, bad_store, unwritable, judged_from, judged}
use Rattle.card.specs.Back.{FitBounds, FitWaiting, any_unwritable, Unplayed, last_time, behind}
use Rattle.card.proofs.Parts.{taken_one}
use Rattle.card.proofs.Written.{event_field_lem, event_written, range_field_lem, bounds_written, turn_event, turn_range}
use Rattle.card.proofs.Accepts.{AllWritable, writable_middle, writable_fit, Good, accepts, all_front, events_middle, lengths_middle}
use Rattle.card.proofs.Turns.{turn_adds}

-- ---- a run of events' fields

module _ (rate : AutomationRate) (n : ℕ) (b : Bounds) where
  one_turn : (ws : List Waiting) (v : Waiting) (vs : List Waiting) → Good (ws ++ (v ∷ vs)) → length v.numbers ≤ store_length
      → field_turn (event_field v.event v.numbers ++ fields_of vs) (behind rate n b ws) ≡ behind rate n b (ws ++ (v ∷ []))
  one_turn ws v vs g few =
      let e : Event = v.event in
      let xs : List Float = v.numbers in
      let bs : List ℕ = event_field e xs ++ fields_of vs in
      let w = event_field_lem e xs (fields_of vs) few in
      let ok = writable_middle ws v vs g.each in
      let a = accepts (fresh b rate (edition_of n)) ws v vs g in
      let clear : are_clear (events_of ws) ≡ true = all_front is_clear (events_of ws) (v.event ∷ events_of vs) (rw (events_middle ws v vs) at g.sound.clear) in
      turn_event w.0 (behind rate n b ws) w.1 refl
      ∙ rw (event_written (fields_of vs) e xs ok.event ok.numbers few)
      (turn_adds rate n b ws (writable_fit ws (v ∷ vs) g.each) clear bs e xs ok.free ok.event ok.long w.0.long a.answered a.turn)

  few_numbers : (ws : List Waiting) (v : Waiting) (vs : List Waiting) → Good (ws ++ (v ∷ vs)) → length v.numbers ≤ store_length
  few_numbers ws v vs g =
      let room : lengths_of (events_of ws ++ (v.event ∷ events_of vs)) ≤ store_length = rw (events_middle ws v vs) at g.sound.room in
      omega (arith, (writable_middle ws v vs g.each).long, room, lengths_middle (events_of ws) v.event (events_of vs))

  reads_fields : (vs ws : List Waiting) → Good (ws ++ vs)
      → taken (length (fields_of vs)) (fields_of vs) (behind rate n b ws) ≡ record { reader = behind rate n b (ws ++ vs); rest = [] }
  unfolding fields_of taken is_accepted
  reads_fields [] ws g = ap (λ (ys : List Waiting). record { reader = behind rate n b ys; rest = [] }) (sym (append-nil ws))
  reads_fields (v ∷ vs) ws g =
      let few = few_numbers ws v vs g in
      let w = event_field_lem v.event v.numbers (fields_of vs) few in
      let all : (ws ++ (v ∷ [])) ++ vs ≡ ws ++ (v ∷ vs) = append_assoc ws (v ∷ []) vs in
      taken_one (event_field v.event v.numbers ++ fields_of vs) (behind rate n b ws) refl w.0.whole
      ∙ rw (w.0.behind, one_turn ws v vs g few)
      (reads_fields vs (ws ++ (v ∷ [])) (rw all g) ∙ ap (λ (ys : List Waiting). record { reader = behind rate n b ys; rest = [] }) all)

  -- ---- the range, and so the whole file

  module _ (fine : are_bounds b ≡ true) (known : is_edition n ≡ true) (f : FitBounds b) where
    answered : lowest (making_rows b n) ≡ Ok tt
    unfolding lowest making_rows
    answered = rw (fine, known) refl

    made_is : made b rate n ≡ fresh b rate (edition_of n)
    unfolding made made_as
    made_is = rw answered refl

    kept_range : (rest : List ℕ) → ranged_as (Ok tt) (range_field b ++ rest) (opened rate n) ≡ behind rate n b []
    unfolding ranged_as packed numbers_of events_of file_of fields_of last_time
    kept_range rest = rw (bounds_written b rest f, made_is, (range_field_lem b rest).0.long, append-nil (range_field b), zero-add (length (range_field b))) refl

    reads_range : (rest : List ℕ) → field_turn (range_field b ++ rest) (opened rate n) ≡ behind rate n b []
    reads_range rest =
        let w = range_field_lem b rest in
        turn_range w.0 (opened rate n) w.1 refl ∙ rw (bounds_written b rest f, answered) (kept_range rest)

    pub reads_file : (ws : List Waiting) → Good ws → read rate n (file_of b ws) ≡ behind rate n b ws
    unfolding read fed file_of is_accepted at_end end_turn
    reads_file ws g =
        let w = range_field_lem b (fields_of ws) in
        let all : taken (length (range_field b ++ fields_of ws)) (range_field b ++ fields_of ws) (opened rate n) ≡ record { reader = behind rate n b ws; rest = [] } =
        taken_one (range_field b ++ fields_of ws) (opened rate n) refl w.0.whole ∙ rw (w.0.behind, reads_range (fields_of ws)) (reads_fields ws [] g) in
        ap at_end all

-- ---- what the writer writes

-- of the events: "24 in writing, a held event .. or a curve number not finite"
judged_from_lem : (ws : List Waiting) (place many : ℕ) → (judged_from place ws many).verdict ≡ cond (any_unwritable ws) (Err Fault.Unwritable) (Ok tt)
unfolding judged_from any_unwritable
judged_from_lem [] place many = refl
judged_from_lem (w ∷ ws) place many = go (is_unwritable w) (judged_from_lem ws (suc place) many)
  where
    go : (u : Bool) → (judged_from (suc place) ws many).verdict ≡ cond (any_unwritable ws) (Err Fault.Unwritable) (Ok tt)
        → (cond u (unwritable place) (judged_from (suc place) ws many)).verdict ≡ cond (u || any_unwritable ws) (Err Fault.Unwritable) (Ok tt)
    go true more = refl
    go false more = more

-- with a store of 4,096 numbers the writer refuses exactly where a block was answered, an event is held or a curve number is not finite, and then with 24
pub refused_exactly : (p : Param) (store : List Float) → length store ≡ store_length
    → (judged p store).verdict ≡ cond (has_played p.last_block || any_unwritable (attached p.queue store)) (Err Fault.Unwritable) (Ok tt)
unfolding judged
refused_exactly p store lent = rw (eq-eqb (length store) store_length lent) (go (has_played p.last_block))
  where
    many : ℕ
    many = length (file_of p.bounds (attached p.queue store))

    go : (b : Bool) → (cond b (unwritable 0) (judged_from 0 (attached p.queue store) many)).verdict
        ≡ cond (b || any_unwritable (attached p.queue store)) (Err Fault.Unwritable) (Ok tt)
    go true = refl
    go false = judged_from_lem (attached p.queue store) 0 many

-- so where it is answered
pub judged_lent : (p : Param) (store : List Float) → (judged p store).verdict ≡ Ok tt → length store ≡ store_length
unfolding judged is_accepted
judged_lent p store h = go (eqb (length store) store_length) refl (ap is_accepted h)
  where
    rest : Judged
    rest = cond (has_played p.last_block) (unwritable 0) (judged_from 0 (attached p.queue store) (length (file_of p.bounds (attached p.queue store))))

    go : (b : Bool) → eqb (length store) store_length ≡ b → is_accepted (cond (not b) bad_store rest).verdict ≡ true → length store ≡ store_length
    go true e k = eqb-true (length store) store_length e
    go false e k = never k

none_unwritable : (p : Param) (store : List Float) → (judged p store).verdict ≡ Ok tt → any_unwritable (attached p.queue store) ≡ false
unfolding is_accepted
none_unwritable p store h = go (has_played p.last_block) (any_unwritable (attached p.queue store)) (ap is_accepted (sym (refused_exactly p store (judged_lent p store h)) ∙ h))
  where
    go : (a b : Bool) → is_accepted (cond (a || b) (Err Fault.Unwritable) (Ok tt)) ≡ true → b ≡ false
    go true b k = never k
    go false true k = never k
    go false false k = refl

all_writable : (ws : List Waiting) → any_unwritable ws ≡ false → FitWaiting ws → AllFit ws → AllWritable ws
unfolding any_unwritable FitWaiting is_unwritable
all_writable [] h f fit = tt
all_writable (w ∷ ws) h f fit =
    let a = neither (is_held w.event || not (all_finite w.numbers)) (any_unwritable ws) h in
    let b = neither (is_held w.event) (not (all_finite w.numbers)) a.0 in
    (record { long = fit.0; free = b.0; finite = not-false (all_finite w.numbers) b.1; event = f.0.0; numbers = f.0.1 }, all_writable ws a.1 f.1 fit.1)

-- before the first block no event is at +infinity
new_due : (p : Param) → Unplayed p → are_due false p.queue ≡ true
unfolding has_played
new_due p u = subst (λ (b : Bool). are_due b p.queue ≡ true) (ap (λ (q : Param). has_played q.last_block) u.new) u.sound.due

module _ (p : Param) (store : List Float) (u : Unplayed p) (f : FitBounds p.bounds) (g : FitWaiting (attached p.queue store))
    (a : (judged p store).verdict ≡ Ok tt) where
  abbrev waits : List Waiting
  waits = attached p.queue store

  good : Good waits
  good =
      let q : events_of waits ≡ p.queue = events_attached p.queue store in
      let lent : length store ≡ store_length = judged_lent p store a in
      record {
        sound = rw q u.sound.waiting;
        due = rw q (new_due p u);
        apart = rw q u.apart;
        each = all_writable waits (none_unwritable p store a) g (attached_fits p.queue store (omega (arith, lent, u.sound.waiting.room)));
      }

  is_read : read p.rate (number_of_edition p.edition) (file_of p.bounds waits) ≡ behind p.rate (number_of_edition p.edition) p.bounds waits
  is_read = reads_file p.rate (number_of_edition p.edition) p.bounds u.sound.bounded (edition_back p.edition).1 f waits good

  is_the_parameter : (behind p.rate (number_of_edition p.edition) p.bounds waits).param ≡ p
  is_the_parameter = rw (events_attached p.queue store, (edition_back p.edition).0) (sym u.new)

  -- the whole parameter, rate and edition by the caller, and its curves' numbers with zeros behind them, whatever the caller had
  pub given_back : (q : Param) (other : List Float) → length other ≡ store_length
      → loaded (read p.rate (number_of_edition p.edition) (file_of p.bounds waits)) q other
      ≡ record { says = record { verdict = Ok tt; at = length (file_of p.bounds waits) }; param = p; store = packed waits }
  unfolding loaded loaded_as
  given_back q other lent = rw (is_read, eq-eqb (length other) store_length lent, is_the_parameter) refl

-- ---- a refused reading

pub refused_changes_nothing : (r : Reader) (p : Param) (store : List Float) → is_accepted (loaded r p store).says.verdict ≡ false
    → ((loaded r p store).param ≡ p) × ((loaded r p store).store ≡ store)
unfolding loaded loaded_as is_accepted
refused_changes_nothing r p store h = go (eqb (length store) store_length) r.verdict h
  where
    after : Bool → Result Unit Fault → Loaded
    after b v = cond b (loaded_as v r p store) (record { says = bad_store; param = p; store = store })

    go : (b : Bool) (v : Result Unit Fault) → is_accepted (after b v).says.verdict ≡ false → ((after b v).param ≡ p) × ((after b v).store ≡ store)
    go false v k = (refl, refl)
    go true (Ok _) k = never (sym k)
    go true (Err f) k = (refl, refl)
