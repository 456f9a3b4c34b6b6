-- "What the reader accepts, the writer writes to the same bytes" (02, C-11). Assumes nothing.
use Rattle.std.proofs.Common.{None, Result, Ok, Err}
use Rattle.rules.specs.declared.Refusal.{Refusal}
use mathlib.Core.Path.{◌≡◌, refl, sym, ap, ◌∙◌, subst}
use mathlib.Core.Bool.{Bool, true, false, cond, not}
use mathlib.Core.List.{List, [], ◌∷◌, ◌++◌, append_assoc, append-nil}
use Prim.Native.Nat.{ℕ, zero, suc, ◌+◌, ◌*◌, ◌≤◌}
use native.Mathlib.Nat.{le_refl, zero-add}
use native.Mathlib.Omega.{arith}
use lib.Dec.{T}
use lib.ListN.{length, take, drop, length-drop, take-append-drop}
use lib.Seq.{take-add, drop-drop, length-take-le}
use lib.Ieee.{Float, is_nan}
use borrow.Author.Tests.{not-false, eqb-true}
use Rattle.rules.specs.declared.Bounds.{Bounds}
use Rattle.rules.specs.declared.AutomationRate.{AutomationRate}
use Rattle.rules.specs.declared.Event.{Event}
use Rattle.rules.specs.Numbers.{is_finite, store_length}
use Rattle.rules.specs.Refusals.{all_finite, are_bounds, making_rows, lowest}
use Rattle.rules.specs.Queue.{Waiting, alone, events_of, numbers_of, packed, length_of}
use Rattle.rules.specs.Block.{Command, Param, fresh, edition_of, made, made_as, called}
use Rattle.laws.specs.Fits.{AllFit}
use Rattle.laws.specs.Sound.{is_number, has_played, Sound}
use Rattle.laws.proofs.Tests.{never, clash, both, neither}
use Rattle.laws.proofs.Store.{fit_append, numbers-length, packed-length, packed_back}
use Rattle.laws.proofs.Kept.{called_sound, made_sound}
use Rattle.laws.proofs.Order.{finite_number}
use Rattle.laws.proofs.Rows.{passes, value_answered, exponential_answered, target_answered, curve_answered}
use Rattle.words.specs.Words.{AreBytes, single_at, double_at, singles_at, single_bytes, double_bytes, numbers_bytes}
use Rattle.words.proofs.Bytes.{bytes_drop, fits_single, fits_double, length-singles, word_bytes_back, single_bytes_back, double_bytes_back, singles_bytes_back}
use Rattle.card.specs.declared.Fault.TheVariants as Fault
use Rattle.card.specs.Card.{tag_of, length_in, field_length, is_whole, is_tag, is_range, is_wrong, is_misplaced, is_accepted, numbers_in, event_in, fits_tag, is_held, has_hold, is_unwritable, bounds_in, Reader, opened, refused_by, ranged_as, time_of, is_out_of_turn, taken_as, event_turn, contents_turn, field_turn, Reading, taken, fed, at_end, end_turn, read, field_of, range_field, event_field, fields_of, file_of}
use Rattle.card.specs.Back.{FitEvent, any_unwritable, command_of, last_time, behind, Rewritten}
use Rattle.card.proofs.Fields.{Tag, a_step, a_linear, an_exponential, a_target, a_curve, a_range, tag, whole_parts, right_fits, room, target_room, curve_room, step_in, linear_in, exponential_in, target_in, curve_in_lem}
use Rattle.card.proofs.Parts.{fewer, taken_one, taken_none}
use Rattle.card.proofs.Kept.{scheduled_verdict, called_verdict, adds, in_turn}
use Rattle.card.proofs.Turns.{turn_adds}
use Rattle.card.proofs.Back.{refused_exactly}

-- ---- a field's bytes, out of what was read from them

module _ (bs : List ℕ) (h : AreBytes bs) where
  first_byte : 1 ≤ length bs → take 1 bs ≡ tag_of bs ∷ []
  first_byte room = go bs room
    where
      go : (cs : List ℕ) → 1 ≤ length cs → take 1 cs ≡ tag_of cs ∷ []
      go [] few = absurd (omega (arith, few))
      go (c ∷ cs) few = unfold tag_of in refl

  field_bytes : is_whole bs ≡ true → (contents : List ℕ) → contents ≡ take (length_in bs) (drop 3 bs) → take (field_length bs) bs ≡ field_of (tag_of bs) contents
  unfolding field_length length_in
  field_bytes w contents is =
      let p = whole_parts bs w in
      let long : length contents ≡ length_in bs = ap length is ∙ length-take-le (length_in bs) (drop 3 bs) (simp length-drop (omega (arith, p.1))) in
      take-add 3 (length_in bs) bs
      ∙ rw (take-add 1 2 bs, first_byte (omega (arith, p.0)), ← word_bytes_back 2 bs 1 h (omega (arith, p.0)), ← is, long) refl

  single_number : (at : ℕ) → is_finite (single_at bs at) ≡ true → T (not (is_nan (single_at bs at)))
  unfolding is_number
  single_number at f = subst T (sym (finite_number (single_at bs at) f)) tt

  double_number : (at : ℕ) → is_finite (double_at bs at) ≡ true → T (not (is_nan (double_at bs at)))
  unfolding is_number
  double_number at f = subst T (sym (finite_number (double_at bs at) f)) tt

  -- a value and a time
  value_bytes : 15 ≤ length bs → is_finite (single_at bs 3) ≡ true → is_finite (double_at bs 7) ≡ true → single_bytes (single_at bs 3) ++ double_bytes (double_at bs 7) ≡ take 12 (drop 3 bs)
  value_bytes room v t =
      rw (single_bytes_back bs 3 h (omega (arith, room)) (single_number 3 v), double_bytes_back bs 7 h room (double_number 7 t))
      (sym (take-add 4 8 (drop 3 bs) ∙ rw (drop-drop 4 3 bs) refl))

  -- and a time constant
  target_bytes : 23 ≤ length bs → is_finite (single_at bs 3) ≡ true → is_finite (double_at bs 7) ≡ true → is_finite (double_at bs 15) ≡ true
      → single_bytes (single_at bs 3) ++ (double_bytes (double_at bs 7) ++ double_bytes (double_at bs 15)) ≡ take 20 (drop 3 bs)
  target_bytes room v t c =
      rw (single_bytes_back bs 3 h (omega (arith, room)) (single_number 3 v), double_bytes_back bs 7 h (omega (arith, room)) (double_number 7 t), double_bytes_back bs 15 h room (double_number 15 c))
      (sym (take-add 4 16 (drop 3 bs) ∙ rw (drop-drop 4 3 bs, take-add 8 8 (drop 7 bs), drop-drop 8 7 bs) refl))

  -- start, duration and numbers
  curve_bytes : (n : ℕ) → 19 + 4 * n ≤ length bs → is_finite (double_at bs 3) ≡ true → is_finite (double_at bs 11) ≡ true → all_finite (singles_at bs 19 n) ≡ true
      → double_bytes (double_at bs 3) ++ (double_bytes (double_at bs 11) ++ numbers_bytes (singles_at bs 19 n)) ≡ take (16 + 4 * n) (drop 3 bs)
  curve_bytes n room s d xs =
      let rest : 16 + 4 * n ≡ 8 + (8 + 4 * n) = omega arith in
      rw (double_bytes_back bs 3 h (omega (arith, room)) (double_number 3 s), double_bytes_back bs 11 h (omega (arith, room)) (double_number 11 d), singles_bytes_back bs 19 n h room xs)
      (sym (ap (λ (k : ℕ). take k (drop 3 bs)) rest ∙ take-add 8 (8 + 4 * n) (drop 3 bs) ∙ rw (drop-drop 8 3 bs, take-add 8 (4 * n) (drop 11 bs), drop-drop 8 11 bs) refl))

  -- minimum, default, maximum
  bounds_bytes : 15 ≤ length bs → is_finite (single_at bs 3) ≡ true → is_finite (single_at bs 7) ≡ true → is_finite (single_at bs 11) ≡ true
      → single_bytes (single_at bs 3) ++ (single_bytes (single_at bs 7) ++ single_bytes (single_at bs 11)) ≡ take 12 (drop 3 bs)
  bounds_bytes room a b c =
      rw (single_bytes_back bs 3 h (omega (arith, room)) (single_number 3 a), single_bytes_back bs 7 h (omega (arith, room)) (single_number 7 b), single_bytes_back bs 11 h room (single_number 11 c))
      (sym (take-add 4 8 (drop 3 bs) ∙ rw (drop-drop 4 3 bs, take-add 4 4 (drop 7 bs), drop-drop 4 7 bs) refl))

-- ---- a field that is kept

-- what is not refused with 20 to 23
pub record Judges (bs : List ℕ) (ranged : Bool) : Type 0 where
  pub tag : is_tag (tag_of bs) ≡ true
  pub right : is_wrong bs ≡ false
  pub placed : is_misplaced ranged bs ≡ false
  pub whole : is_whole bs ≡ true

pub kept_judges : (bs : List ℕ) (r : Reader) → is_accepted (field_turn bs r).verdict ≡ true → Judges bs r.ranged × (field_turn bs r ≡ contents_turn bs r)
unfolding field_turn is_accepted
kept_judges bs r h = go (is_tag (tag_of bs)) (is_wrong bs) (is_misplaced r.ranged bs) (is_whole bs) refl refl refl refl h
  where
    judge : (a b c d : Bool) → Reader
    judge a b c d =
        cond (not a) (refused_by Fault.UnknownTag r)
        (cond b (refused_by Fault.WrongLength r) (cond c (refused_by Fault.Misplaced r) (cond (not d) (refused_by Fault.CutShort r) (contents_turn bs r))))

    go : (a b c d : Bool) → is_tag (tag_of bs) ≡ a → is_wrong bs ≡ b → is_misplaced r.ranged bs ≡ c → is_whole bs ≡ d
        → is_accepted (judge a b c d).verdict ≡ true → Judges bs r.ranged × (judge a b c d ≡ contents_turn bs r)
    go false b c d p q s t k = never k
    go true true c d p q s t k = never k
    go true false true d p q s t k = never k
    go true false false false p q s t k = never k
    go true false false true p q s t k = (record { tag = p; right = q; placed = s; whole = t }, refl)

-- a field that is cut short is refused
pub cut_refused : (bs : List ℕ) (r : Reader) → is_whole bs ≡ false → is_accepted (field_turn bs r).verdict ≡ false
cut_refused bs r h = go (is_accepted (field_turn bs r).verdict) refl
  where
    go : (k : Bool) → is_accepted (field_turn bs r).verdict ≡ k → k ≡ false
    go true e = clash (kept_judges bs r e).0.whole h
    go false e = refl

-- an event that is kept
pub kept_event : (c : Command) (bs : List ℕ) (r : Reader) → is_accepted (event_turn c bs r).verdict ≡ true
    → (is_out_of_turn r.before c ≡ false) × ((called r.param r.store c).verdict ≡ Ok tt)
unfolding event_turn taken_as is_accepted
kept_event c bs r h = go (is_out_of_turn r.before c) (called r.param r.store c).verdict refl refl h
  where
    go : (o : Bool) (v : Result Unit Refusal) → is_out_of_turn r.before c ≡ o → (called r.param r.store c).verdict ≡ v
        → is_accepted (cond o (refused_by Fault.OutOfTurn r) (taken_as v (called r.param r.store c) (time_of c) bs r)).verdict ≡ true
        → (is_out_of_turn r.before c ≡ false) × ((called r.param r.store c).verdict ≡ Ok tt)
    go true v a b k = never k
    go false (Ok _) a b k = (a, b)
    go false (Err why) a b k = never k

-- ---- the event of a field that is kept

-- these bytes begin with the field of an event that can be written
pub record Decoded (bs : List ℕ) (e : Event) (xs : List Float) : Type 0 where
  pub command : event_in bs ≡ command_of e xs
  pub free : is_held e ≡ false
  pub event : FitEvent e
  pub long : length xs ≡ length_of e
  pub finite : all_finite xs ≡ true
  pub bytes : take (field_length bs) bs ≡ event_field e xs

module _ (bs : List ℕ) (h : AreBytes bs) (w : is_whole bs ≡ true) (right : is_wrong bs ≡ false) (p : Param) (store : List Float)
    (a : (called p store (event_in bs)).verdict ≡ Ok tt) where
  -- the field of a value and a time
  value_field : length_in bs ≡ 12 → is_finite (single_at bs 3) ≡ true → is_finite (double_at bs 7) ≡ true → take (field_length bs) bs ≡ field_of (tag_of bs) (single_bytes (single_at bs 3) ++ double_bytes (double_at bs 7))
  value_field n v t = field_bytes bs h w _ (value_bytes bs h (room bs w right) v t ∙ ap (λ (k : ℕ). take k (drop 3 bs)) (sym n))

  fits_as : {m : ℕ} → tag_of bs ≡ m → fits_tag m (length_in bs) ≡ true
  fits_as t = rw t at (right_fits bs w right)

  answers_as : {c : Command} → event_in bs ≡ c → (called p store c).verdict ≡ Ok tt
  answers_as e = rw e at a

  pub decoded : {m : ℕ} → Tag m → tag_of bs ≡ m → is_range bs ≡ false → (v : Waiting) × Decoded bs v.event v.numbers
  unfolding command_of is_held has_hold FitEvent length_of event_field all_finite fits_tag is_range called
  decoded a_step t e =
      let r = value_answered _ _ _ (sym (scheduled_verdict _ _ _ _) ∙ answers_as (step_in bs t)) in (
        alone (Event.Step (single_at bs 3) (double_at bs 7)),
        record {
          command = step_in bs t;
          free = refl;
          event = (fits_single bs 3, fits_double bs 7);
          long = refl;
          finite = refl;
          bytes = value_field (eqb-true _ 12 (fits_as t)) r.0 r.1.time ∙ rw t refl;
        },
      )
  decoded a_linear t e =
      let r = value_answered _ _ _ (sym (scheduled_verdict _ _ _ _) ∙ answers_as (linear_in bs t)) in (
        alone (Event.Linear (single_at bs 3) (double_at bs 7) None),
        record {
          command = linear_in bs t;
          free = refl;
          event = (fits_single bs 3, fits_double bs 7);
          long = refl;
          finite = refl;
          bytes = value_field (eqb-true _ 12 (fits_as t)) r.0 r.1.time ∙ rw t refl;
        },
      )
  decoded an_exponential t e =
      let r = exponential_answered _ _ _ (sym (scheduled_verdict _ _ _ _) ∙ answers_as (exponential_in bs t)) in (
        alone (Event.Exponential (single_at bs 3) (double_at bs 7) None),
        record {
          command = exponential_in bs t;
          free = refl;
          event = (fits_single bs 3, fits_double bs 7);
          long = refl;
          finite = refl;
          bytes = value_field (eqb-true _ 12 (fits_as t)) r.0 r.2.time ∙ rw t refl;
        },
      )
  decoded a_target t e =
      let r = target_answered _ _ _ _ (sym (scheduled_verdict _ _ _ _) ∙ answers_as (target_in bs t)) in
      let size : length_in bs ≡ 20 = eqb-true (length_in bs) 20 (fits_as t) in (
        alone (Event.Target (single_at bs 3) (double_at bs 7) (double_at bs 15) None),
        record {
          command = target_in bs t;
          free = refl;
          event = (fits_single bs 3, (fits_double bs 7, fits_double bs 15));
          long = refl;
          finite = refl;
          bytes =
              field_bytes bs h w _ (target_bytes bs h (target_room bs w right t) r.0 r.3.time r.1 ∙ ap (λ (k : ℕ). take k (drop 3 bs)) (sym size))
              ∙ rw t refl;
        },
      )
  decoded a_curve t e =
      let r = curve_answered _ _ _ _ _ (sym (called_verdict _ _ _ _ _) ∙ answers_as (curve_in_lem bs t)) in
      let n : ℕ = numbers_in bs in
      let long = (curve_room bs w right t).1 in
      let size : 16 + 4 * n ≡ length_in bs = unfold field_length in omega (arith, long) in (
        record { event = Event.Curve (double_at bs 3) (double_at bs 11) n None; numbers = singles_at bs 19 n },
        record {
          command = curve_in_lem bs t;
          free = refl;
          event = (fits_double bs 3, fits_double bs 11);
          long = length-singles bs 19 n;
          finite = r.numbers;
          bytes =
              field_bytes bs h w _ (curve_bytes bs h n (omega (arith, long, (whole_parts bs w).1)) r.scheduled.time r.duration r.numbers ∙ ap (λ (k : ℕ). take k (drop 3 bs)) size)
              ∙ rw t refl;
        },
      )
  decoded a_range t e = never (sym (rw t at e))

-- ---- the end of a file

-- a reader that has refused stays so
end_refused : (bs : List ℕ) (r : Reader) → is_accepted r.verdict ≡ false → at_end (taken (length bs) bs r) ≡ r
unfolding at_end
end_refused bs r e = rw (taken_none bs r (rw e refl), e) refl

-- what is left over is a field cut short
end_cut : (bs : List ℕ) (r : Reader) → 1 ≤ length bs → is_accepted r.verdict ≡ true → is_whole bs ≡ false → at_end (taken (length bs) bs r) ≡ field_turn bs r
unfolding at_end end_turn
end_cut [] r few e w = absurd (omega (arith, few))
end_cut (c ∷ cs) r few e w = rw (taken_none (c ∷ cs) r (rw (e, w) refl), e) refl

-- ---- the reader behind events that it kept

not_range : (bs : List ℕ) → is_misplaced true bs ≡ false → is_range bs ≡ false
unfolding is_misplaced
not_range bs h = go (is_range bs) h
  where
    go : (b : Bool) → cond b true (not true) ≡ false → b ≡ false
    go true k = k
    go false k = refl

contents_event : (bs : List ℕ) (r : Reader) → is_range bs ≡ false → contents_turn bs r ≡ event_turn (event_in bs) bs r
unfolding contents_turn
contents_event bs r h = rw h refl

module _ (rate : AutomationRate) (n : ℕ) (b : Bounds) where
  pub record Kept (ws : List Waiting) : Type 0 where
    pub fit : AllFit ws
    pub sound : Sound (behind rate n b ws).param
    pub free : any_unwritable ws ≡ false

  free_append : (ws : List Waiting) (w : Waiting) → any_unwritable ws ≡ false → is_unwritable w ≡ false → any_unwritable (ws ++ (w ∷ [])) ≡ false
  unfolding any_unwritable
  free_append [] w h k = rw k refl
  free_append (v ∷ ws) w h k = let a = neither (is_unwritable v) (any_unwritable ws) h in rw a.0 (free_append ws w a.1 k)

  -- one field more is one event more, and its bytes are the event's
  pub record OneMore (bs : List ℕ) (ws : List Waiting) (w : Waiting) : Type 0 where
    pub reader : field_turn bs (behind rate n b ws) ≡ behind rate n b (ws ++ (w ∷ []))
    pub bytes : take (field_length bs) bs ≡ event_field w.event w.numbers
    pub kept : Kept (ws ++ (w ∷ []))

  event_more : (bs : List ℕ) (ws : List Waiting) → Kept ws → is_whole bs ≡ true → (w : Waiting) → Decoded bs w.event w.numbers
      → field_turn bs (behind rate n b ws) ≡ event_turn (event_in bs) bs (behind rate n b ws)
      → (is_out_of_turn (last_time (events_of ws)) (event_in bs) ≡ false) × ((called (behind rate n b ws).param (behind rate n b ws).store (event_in bs)).verdict ≡ Ok tt)
      → OneMore bs ws w
  unfolding is_unwritable
  event_more bs ws k whole w d turn ok =
      let e : Event = w.event in
      let xs : List Float = w.numbers in
      let o : is_out_of_turn (last_time (events_of ws)) (command_of e xs) ≡ false = rw d.command at ok.0 in
      let a : (called (behind rate n b ws).param (behind rate n b ws).store (command_of e xs)).verdict ≡ Ok _ = rw d.command at ok.1 in
      let size : field_length bs ≡ length (event_field e xs) = sym (length-take-le (field_length bs) bs (whole_parts bs whole).1) ∙ ap length d.bytes in
      let clear = k.sound.waiting.clear in
      let adds = adds (fresh b rate (edition_of n)) ws k.fit clear e xs d.free d.event d.long a (in_turn (last_time (events_of ws)) (command_of e xs) o) in
      record {
        reader = turn ∙ rw d.command (turn_adds rate n b ws k.fit clear bs e xs d.free d.event d.long size a o);
        bytes = d.bytes;
        kept =
            record {
              fit = fit_append ws (w ∷ []) k.fit (d.long, tt);
              sound = subst Sound adds.param (called_sound (behind rate n b ws).param (behind rate n b ws).store k.sound (command_of e xs));
              free = free_append ws w k.free (rw (d.free, d.finite) refl);
            };
      }

  pub one_more : (bs : List ℕ) → AreBytes bs → (ws : List Waiting) → Kept ws → is_accepted (field_turn bs (behind rate n b ws)).verdict ≡ true → (w : Waiting) × OneMore bs ws w
  one_more bs h ws k kept =
      let j = kept_judges bs (behind rate n b ws) kept in
      let event : is_range bs ≡ false = not_range bs j.0.placed in
      let turn : field_turn bs (behind rate n b ws) ≡ event_turn (event_in bs) bs (behind rate n b ws) = j.1 ∙ contents_event bs (behind rate n b ws) event in
      let ok = kept_event (event_in bs) bs (behind rate n b ws) (subst (λ (r : Reader). is_accepted r.verdict ≡ true) turn kept) in
      let d = decoded bs h j.0.whole j.0.right (behind rate n b ws).param (behind rate n b ws).store ok.1 (tag (tag_of bs) j.0.tag) refl event in
      (d.0, event_more bs ws k j.0.whole d.0 d.1 turn ok)

  -- ---- a run of fields

  -- bytes that the reader accepts up to their end are the fields of some events
  pub record Run (bs : List ℕ) (ws vs : List Waiting) : Type 0 where
    pub reader : at_end (taken (length bs) bs (behind rate n b ws)) ≡ behind rate n b (ws ++ vs)
    pub bytes : bs ≡ fields_of vs
    pub kept : Kept (ws ++ vs)

  -- behind the last field
  no_more : (ws : List Waiting) → Kept ws → Run [] ws []
  unfolding taken at_end end_turn is_accepted fields_of
  no_more ws k = record { reader = rw (append-nil ws) refl; bytes = refl; kept = rw (append-nil ws) k }

  another : (bs : List ℕ) (ws : List Waiting) (w : Waiting) → is_whole bs ≡ true → OneMore bs ws w → (vs : List Waiting) → Run (drop (field_length bs) bs) (ws ++ (w ∷ [])) vs → Run bs ws (w ∷ vs)
  unfolding fields_of is_accepted
  another bs ws w whole m vs run =
      let all : (ws ++ (w ∷ [])) ++ vs ≡ ws ++ (w ∷ vs) = append_assoc ws (w ∷ []) vs in
      record {
        reader = ap at_end (taken_one bs (behind rate n b ws) refl whole ∙ rw m.reader refl) ∙ run.reader ∙ ap (behind rate n b) all;
        bytes = sym (take-append-drop (field_length bs) bs) ∙ rw (m.bytes, ← run.bytes) refl;
        kept = rw all at run.kept;
      }

  -- by what is behind the first field
  abbrev Further : List ℕ → List Waiting → Type 0
  Further bs ws =
      is_whole bs ≡ true → (w : Waiting) → OneMore bs ws w → is_accepted (at_end (taken (length (drop (field_length bs) bs)) (drop (field_length bs) bs) (behind rate n b (ws ++ (w ∷ []))))).verdict ≡ true
      → (vs : List Waiting) × Run (drop (field_length bs) bs) (ws ++ (w ∷ [])) vs

  run_on : (bs : List ℕ) → 1 ≤ length bs → AreBytes bs → (ws : List Waiting) → Kept ws → is_accepted (at_end (taken (length bs) bs (behind rate n b ws))).verdict ≡ true → Further bs ws
      → (vs : List Waiting) × Run bs ws vs
  unfolding is_accepted
  run_on bs some h ws k ok more = go (is_whole bs) (is_accepted (field_turn bs r).verdict) refl refl
    where
      r : Reader
      r = behind rate n b ws

      go : (a t : Bool) → is_whole bs ≡ a → is_accepted (field_turn bs r).verdict ≡ t → (vs : List Waiting) × Run bs ws vs
      go false t e f = clash (subst (λ (s : Reader). is_accepted s.verdict ≡ true) (end_cut bs r some refl e) ok) (cut_refused bs r e)
      go true false e f =
          clash (subst (λ (s : Reader). is_accepted s.verdict ≡ true) (ap at_end (taken_one bs r refl e) ∙ end_refused (drop (field_length bs) bs) (field_turn bs r) f) ok) f
      go true true e f =
          let m = one_more bs h ws k f in
          let v = more e m.0 m.1 (subst (λ (s : Reader). is_accepted s.verdict ≡ true) (ap at_end (taken_one bs r refl e ∙ rw m.1.reader refl)) ok) in
          (m.0 ∷ v.0, another bs ws m.0 e m.1 v.0 v.1)

  run_of : (bs : List ℕ) → AreBytes bs → (ws : List Waiting) → Kept ws → is_accepted (at_end (taken (length bs) bs (behind rate n b ws))).verdict ≡ true → Further bs ws → (vs : List Waiting) × Run bs ws vs
  run_of [] h ws k ok more = ([], no_more ws k)
  run_of (c ∷ cs) h ws k ok more = run_on (c ∷ cs) (omega arith) h ws k ok more

  pub accepted-run : (m : ℕ) (bs : List ℕ) → length bs ≤ m → AreBytes bs → (ws : List Waiting) → Kept ws → is_accepted (at_end (taken (length bs) bs (behind rate n b ws))).verdict ≡ true
      → (vs : List Waiting) × Run bs ws vs
  accepted-run zero bs few h ws k ok = run_of bs h ws k ok (λ whole w more. absurd (omega (arith, few, (whole_parts bs whole).0)))
  accepted-run (suc m) bs few h ws k ok =
      run_of bs h ws k ok (λ whole w more. accepted-run m (drop (field_length bs) bs) (fewer bs m whole few) (bytes_drop (field_length bs) bs h) (ws ++ (w ∷ [])) more.kept)

-- ---- the range

-- a range that is kept, and what stands then
pub record Ranged (rate : AutomationRate) (n : ℕ) (bs : List ℕ) : Type 0 where
  pub reader : field_turn bs (opened rate n) ≡ behind rate n (bounds_in bs) []
  pub bytes : take (field_length bs) bs ≡ range_field (bounds_in bs)
  pub kept : Kept rate n (bounds_in bs) []

module _ (rate : AutomationRate) (n : ℕ) (bs : List ℕ) (h : AreBytes bs) (ok : is_accepted (field_turn bs (opened rate n)).verdict ≡ true) where
  is_range_lem : is_misplaced false bs ≡ false → is_range bs ≡ true
  unfolding is_misplaced
  is_range_lem m = go (is_range bs) m
    where
      go : (a : Bool) → cond a false (not false) ≡ false → a ≡ true
      go true k = refl
      go false k = sym k

  judges : Judges bs false
  judges = (kept_judges bs (opened rate n) ok).0

  is_ranged_lem : is_range bs ≡ true
  is_ranged_lem = is_range_lem judges.placed

  ranged_turn : field_turn bs (opened rate n) ≡ ranged_as (lowest (making_rows (bounds_in bs) n)) bs (opened rate n)
  unfolding contents_turn
  ranged_turn = (kept_judges bs (opened rate n) ok).1 ∙ rw is_ranged_lem refl

  makes : lowest (making_rows (bounds_in bs) n) ≡ Ok tt
  unfolding ranged_as is_accepted
  makes = go (lowest (making_rows (bounds_in bs) n)) (subst (λ (r : Reader). is_accepted r.verdict ≡ true) ranged_turn ok)
    where
      go : (v : Result Unit Refusal) → is_accepted (ranged_as v bs (opened rate n)).verdict ≡ true → v ≡ Ok tt
      go (Ok _) k = refl
      go (Err why) k = never k

  finite_bounds : (is_finite (single_at bs 3) ≡ true) × ((is_finite (single_at bs 7) ≡ true) × (is_finite (single_at bs 11) ≡ true))
  unfolding making_rows are_bounds all_finite bounds_in
  finite_bounds =
      let fine = not-false _ (passes _ _ _ makes).0 in
      let all = both _ _ (both _ _ fine).0 in
      let more = both _ _ all.1 in
      (all.0, (more.0, (both _ _ more.1).0))

  range_bytes : take (field_length bs) bs ≡ range_field (bounds_in bs)
  unfolding range_field bounds_in fits_tag is_range
  range_bytes =
      let t : tag_of bs ≡ 6 = eqb-true (tag_of bs) 6 is_ranged_lem in
      let size : length_in bs ≡ 12 = eqb-true (length_in bs) 12 (rw t at (right_fits bs judges.whole judges.right)) in
      let f = finite_bounds in
      field_bytes bs h judges.whole _ (bounds_bytes bs h (room bs judges.whole judges.right) f.0 f.1.0 f.1.1 ∙ ap (λ (k : ℕ). take k (drop 3 bs)) (sym size)) ∙ rw t refl

  made_is : made (bounds_in bs) rate n ≡ fresh (bounds_in bs) rate (edition_of n)
  unfolding made made_as
  made_is = rw makes refl

  range_long : field_length bs ≡ length (file_of (bounds_in bs) [])
  unfolding file_of fields_of
  range_long = sym (length-take-le (field_length bs) bs (whole_parts bs judges.whole).1) ∙ ap length (range_bytes ∙ sym (append-nil (range_field (bounds_in bs))))

  kept_range : ranged_as (Ok tt) bs (opened rate n) ≡ behind rate n (bounds_in bs) []
  unfolding ranged_as packed numbers_of events_of last_time
  kept_range = rw (made_is, ← range_long, zero-add (field_length bs)) refl

  pub ranged : Ranged rate n bs
  unfolding events_of any_unwritable
  ranged =
      record {
        reader = ranged_turn ∙ rw makes kept_range;
        bytes = range_bytes;
        kept = record { fit = tt; sound = subst Sound made_is (made_sound (bounds_in bs) rate n); free = refl };
      }

-- ---- the file

-- a file that is accepted is that of a range and some events
pub record Accepted (rate : AutomationRate) (n : ℕ) (file : List ℕ) (b : Bounds) (ws : List Waiting) : Type 0 where
  pub reader : read rate n file ≡ behind rate n b ws
  pub bytes : file ≡ file_of b ws
  pub kept : Kept rate n b ws

module _ (rate : AutomationRate) (n : ℕ) where
  whole_file : (file : List ℕ) → AreBytes file → is_whole file ≡ true → is_accepted (field_turn file (opened rate n)).verdict ≡ true → is_accepted (read rate n file).verdict ≡ true
      → (ws : List Waiting) × Accepted rate n file (bounds_in file) ws
  unfolding read fed is_accepted file_of
  whole_file file h w turn ok =
      let first = ranged rate n file h turn in
      let same : taken (length file) file (opened rate n) ≡ taken (length (drop (field_length file) file)) (drop (field_length file) file) (behind rate n (bounds_in file) []) =
      taken_one file (opened rate n) refl w ∙ rw first.reader refl in
      let v = accepted-run rate n (bounds_in file) (length (drop (field_length file) file)) (drop (field_length file) file) (le_refl _) (bytes_drop (field_length file) file h) [] first.kept
      (subst (λ (s : Reading). is_accepted (at_end s).verdict ≡ true) same ok) in (
        v.0,
        record {
          reader = ap at_end same ∙ v.1.reader;
          bytes = sym (take-append-drop (field_length file) file) ∙ rw (first.bytes, ← v.1.bytes) refl;
          kept = v.1.kept;
        },
      )

  pub accepted_file : (file : List ℕ) → AreBytes file → is_accepted (read rate n file).verdict ≡ true → (b : Bounds) × ((ws : List Waiting) × Accepted rate n file b ws)
  unfolding read fed taken is_accepted at_end end_turn
  accepted_file [] h ok = never ok
  accepted_file (c ∷ cs) h ok = go (is_whole file) (is_accepted (field_turn file (opened rate n)).verdict) refl refl
    where
      file : List ℕ
      file = c ∷ cs

      go : (a t : Bool) → is_whole file ≡ a → is_accepted (field_turn file (opened rate n)).verdict ≡ t → (b : Bounds) × ((ws : List Waiting) × Accepted rate n file b ws)
      go false t e f = clash (subst (λ (s : Reader). is_accepted s.verdict ≡ true) (end_cut file (opened rate n) (omega arith) refl e) ok) (cut_refused file (opened rate n) e)
      go true false e f =
          clash (subst (λ (s : Reader). is_accepted s.verdict ≡ true) (ap at_end (taken_one file (opened rate n) refl e) ∙ end_refused (drop (field_length file) file) (field_turn file (opened rate n)) f) ok) f
      go true true e f = (bounds_in file, whole_file file h e f ok)

  rewritten : (b : Bounds) (ws : List Waiting) → Kept rate n b ws → Rewritten (file_of b ws) (behind rate n b ws).param (behind rate n b ws).store
  unfolding has_played
  rewritten b ws k =
      let few : length (numbers_of ws) ≤ store_length = omega (arith, numbers-length ws k.fit, k.sound.waiting.room) in
      record {
        answered = refused_exactly (behind rate n b ws).param (packed ws) (packed-length ws few) ∙ rw (packed_back ws k.fit, k.free) refl;
        bytes = ap (file_of b) (packed_back ws k.fit);
      }

  pub accepted_is_written : (file : List ℕ) → AreBytes file → is_accepted (read rate n file).verdict ≡ true → Rewritten file (read rate n file).param (read rate n file).store
  accepted_is_written file h ok =
      let v = accepted_file file h ok in
      let a = v.1.1 in
      rw a.reader (subst (λ (bs : List ℕ). Rewritten bs (behind rate n v.0 v.1.0).param (behind rate n v.0 v.1.0).store) (sym a.bytes) (rewritten v.0 v.1.0 a.kept))
