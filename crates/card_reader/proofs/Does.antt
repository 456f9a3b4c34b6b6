-- One turn of the rules on a field, by what was tested before; and what code makes of it. Assumes nothing.
use Rattle.std.proofs.Common.{Option, Some, Ok, Err}
use mathlib.Core.Path.{◌≡◌, sym, ap, ◌∙◌}
use mathlib.Core.Bool.{true, false}
use mathlib.Core.List.{List}
use Prim.Native.Nat.{ℕ, suc, ◌*◌, ◌≤◌}
use native.Mathlib.Omega.{arith}
use lib.ListN.{length}
use lib.Ieee.{Float}
use Rattle.rules.specs.declared.Bounds.{Bounds}
use Rattle.rules.specs.declared.Refusal.{Refusal}
use Rattle.rules.specs.Refusals.{lowest, making_rows}
use Rattle.rules.specs.Block.{Param, made, called}
use Rattle.param.specs.declared.AudioParam.{AudioParam}
use Rattle.param.specs.declared.Outcome.{Outcome}
use Rattle.param.specs.Param.{param_of, struct_of, Makes, Answers}
use Rattle.param.proofs.Calls.{struct_back}
use Rattle.card.specs.declared.Fault.{Fault}
use Rattle.card.specs.Card.{tag_of, field_length, is_tag, is_range, is_wrong, is_whole, bounds_in, event_in, Reader, refused_by, kept_as, is_misplaced, time_of, is_out_of_turn, ranged_as, taken_as, event_turn, contents_turn, field_turn}
use Rattle.card_reader.specs.declared.CardReader.{CardReader}
use Rattle.card_reader.specs.Reader.{reader_of, window_length, SoundReader, refused_reader, kept_reader, Does}
use Rattle.card_reader.proofs.Called.{event_longer}

-- ---- the rules

module _ (bs : List ℕ) (r : Reader) where
  pub range_kept : is_range bs ≡ true → lowest (making_rows (bounds_in bs) r.edition) ≡ Ok tt
      → contents_turn bs r ≡ kept_as bs (made (bounds_in bs) r.rate r.edition) r.store r.before r
  unfolding contents_turn ranged_as
  range_kept a b = rw (a, b)

  pub range_refused : {why : Refusal} → is_range bs ≡ true → lowest (making_rows (bounds_in bs) r.edition) ≡ Err why
      → contents_turn bs r ≡ refused_by (Fault.Own why) r
  unfolding contents_turn ranged_as
  range_refused a b = rw (a, b)

  pub event_out : is_range bs ≡ false → is_out_of_turn r.before (event_in bs) ≡ true → contents_turn bs r ≡ refused_by Fault.OutOfTurn r
  unfolding contents_turn event_turn
  event_out a b = rw (a, b)

  module _ (event : is_range bs ≡ false) (due : is_out_of_turn r.before (event_in bs) ≡ false) where
    pub event_kept : (called r.param r.store (event_in bs)).verdict ≡ Ok tt
        → contents_turn bs r ≡ kept_as bs (called r.param r.store (event_in bs)).param (called r.param r.store (event_in bs)).store (Some (time_of (event_in bs))) r
    unfolding contents_turn event_turn taken_as
    event_kept v = rw (event, due, v)

    pub event_refused : {why : Refusal} → (called r.param r.store (event_in bs)).verdict ≡ Err why → contents_turn bs r ≡ refused_by (Fault.Own why) r
    unfolding contents_turn event_turn taken_as
    event_refused v = rw (event, due, v)

  pub unknown : is_tag (tag_of bs) ≡ false → field_turn bs r ≡ refused_by Fault.UnknownTag r
  unfolding field_turn
  unknown a = rw a

  pub wrong : is_tag (tag_of bs) ≡ true → is_wrong bs ≡ true → field_turn bs r ≡ refused_by Fault.WrongLength r
  unfolding field_turn
  wrong a b = rw (a, b)

  pub misplaced : is_tag (tag_of bs) ≡ true → is_wrong bs ≡ false → is_misplaced r.ranged bs ≡ true → field_turn bs r ≡ refused_by Fault.Misplaced r
  unfolding field_turn
  misplaced a b c = rw (a, b, c)

  pub cut : is_tag (tag_of bs) ≡ true → is_wrong bs ≡ false → is_misplaced r.ranged bs ≡ false → is_whole bs ≡ false → field_turn bs r ≡ refused_by Fault.CutShort r
  unfolding field_turn
  cut a b c d = rw (a, b, c, d)

  pub contents : is_tag (tag_of bs) ≡ true → is_wrong bs ≡ false → is_misplaced r.ranged bs ≡ false → is_whole bs ≡ true → field_turn bs r ≡ contents_turn bs r
  unfolding field_turn
  contents a b c d = rw (a, b, c, d)

-- ---- the code

-- where the range has not come no field has
pub at_start : {r : CardReader} {numbers : List Float} → SoundReader r numbers → r.ranged ≡ false → r.offset ≡ 0
at_start sound h = omega (arith, rw h at sound.counted)

-- with 64 events at most so many bytes are kept
pub counted : {r : CardReader} {numbers : List Float} → SoundReader r numbers → r.ranged ≡ true → r.offset ≤ window_length * 65
counted sound h = omega (arith, rw h at sound.counted, sound.param.sound.waiting.few)

pub stays : {r : CardReader} {numbers : List Float} {turn : Reader → Reader} → SoundReader r numbers → turn (reader_of r numbers) ≡ reader_of r numbers → Does turn r numbers r numbers
stays sound is = record { reader = sym is; sound = sound }

module _ {r : CardReader} {numbers : List Float} {turn : Reader → Reader} {s : CardReader} where
  pub refuses : {f : Fault} → SoundReader r numbers → turn (reader_of r numbers) ≡ refused_by f (reader_of r numbers) → s ≡ refused_reader f r → Does turn r numbers s numbers
  refuses sound is e = rw e (record { reader = sym is; sound = record { param = sound.param; long = sound.long; counted = sound.counted } })

  keeps : (bs : List ℕ) {q : Param} {p : AudioParam} {before : Option Float} {after : List Float} {len : ℕ} → SoundReader (kept_reader r p before len) after
      → turn (reader_of r numbers) ≡ kept_as bs q after before (reader_of r numbers) → p ≡ struct_of q → len ≡ field_length bs → s ≡ kept_reader r p before len → Does turn r numbers s after
  keeps bs {q} {p} {before} {after} sound is made size e =
      rw (e, size)
      (record {
        reader = ap (λ (x : Param). kept_as bs x after before (reader_of r numbers)) (ap param_of made ∙ struct_back q) ∙ sym is;
        sound = rw size at sound;
      })

  pub same_turn : {like : Reader → Reader} {after : List Float} → turn (reader_of r numbers) ≡ like (reader_of r numbers) → Does like r numbers s after → Does turn r numbers s after
  same_turn e d = record { reader = d.reader ∙ sym e; sound = d.sound }

module _ (bs : List ℕ) {r : CardReader} {numbers : List Float} {out : Outcome} {len : ℕ} {s : CardReader} (sound : SoundReader r numbers)
    (size : (len ≡ field_length bs) × (len ≤ window_length)) where
  pub does_range : {b : Bounds} → r.ranged ≡ false → is_range bs ≡ true → b ≡ bounds_in bs → Makes b r.rate r.edition out → out.verdict ≡ Ok tt
      → s ≡ kept_reader r out.param r.before len → Does (contents_turn bs) r numbers s numbers
  does_range first range bounds made answered e =
      let m : Makes (bounds_in bs) r.rate r.edition out = rw bounds at made in
      let kept : SoundReader (kept_reader r out.param r.before len) numbers =
      record { param = m.sound; long = sound.long; counted = omega (arith, at_start sound first, size.1) } in
      keeps bs kept (range_kept bs (reader_of r numbers) range (sym m.verdict ∙ answered)) m.param size.0 e

  pub does_event : {after : List Float} {t : Float} → r.ranged ≡ true → is_range bs ≡ false → is_out_of_turn r.before (event_in bs) ≡ false
      → Answers r.param numbers (event_in bs) out after → length after ≡ length numbers → out.verdict ≡ Ok tt → t ≡ time_of (event_in bs)
      → s ≡ kept_reader r out.param (Some t) len → Does (contents_turn bs) r numbers s after
  does_event {after} {t} later event due a long answered time e =
      let p = param_of r.param in
      let v : (called p numbers (event_in bs)).verdict ≡ Ok _ = sym a.verdict ∙ answered in
      let more : length (param_of out.param).queue ≡ suc (length p.queue) =
      ap (λ (q : AudioParam). length (param_of q).queue) a.param ∙ ap (λ (q : Param). length q.queue) (struct_back (called p numbers (event_in bs)).param) ∙ event_longer bs p numbers v in
      let kept : SoundReader (kept_reader r out.param (Some t) len) after =
      record { param = a.sound; long = long ∙ sound.long; counted = omega (arith, rw later at sound.counted, size.1, more) } in
      let is : contents_turn bs (reader_of r numbers) ≡ kept_as bs (called p numbers (event_in bs)).param after (Some t) (reader_of r numbers) =
      rw (a.left, time) (event_kept bs (reader_of r numbers) event due v) in
      keeps bs kept is a.param size.0 e
