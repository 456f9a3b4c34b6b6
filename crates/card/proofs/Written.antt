-- A field that was written, read: its tag, its length, its contents; and an event's field as its event. Assumes nothing.
use mathlib.Core.Path.{◌≡◌, refl, sym, ap, ◌∙◌}
use mathlib.Core.Bool.{true, false}
use mathlib.Core.List.{List, [], ◌∷◌, ◌++◌, append_assoc}
use Prim.Native.Nat.{ℕ, ◌+◌, ◌*◌, ◌%◌, ◌≤◌, ◌<◌}
use native.Mathlib.Omega.{arith}
use lib.Dec.{T}
use lib.ListN.{length, drop, length-append}
use lib.Seq.{drop_at}
use lib.Ieee.{Float, binary32, binary64, fits}
use borrow.Author.Tests.{le-leb, eq-eqb}
use Rattle.rules.specs.declared.Bounds.{Bounds}
use Rattle.rules.specs.declared.Event.{Event}
use Rattle.rules.specs.Numbers.{store_length}
use Rattle.rules.specs.Refusals.{lowest, making_rows}
use Rattle.laws.proofs.Tests.{and}
use Rattle.words.specs.Words.{bytes_of, word_at, single_at, double_at, singles_at, single_bytes, double_bytes, numbers_bytes, AreSingles}
use Rattle.words.proofs.Bytes.{length_bytes, word_behind, word_written, single-behind, double-behind, singles-behind, single_back, double_back, singles_back, length-numbers}
use Rattle.card.specs.Card.{tag_of, has_head, length_in, field_length, is_whole, is_tag, is_range, fits_tag, is_wrong, is_misplaced, Reader, ranged_as, event_turn, contents_turn, field_turn, numbers_in, bounds_in, event_in, field_of, range_field, event_field}
use Rattle.card.specs.Back.{FitEvent, FitBounds, command_of}
use Rattle.card.proofs.Fields.{and_false, step_in, linear_in, exponential_in, target_in, curve_in_lem}

-- ---- bytes behind others

-- what f reads from a place on is the same behind other bytes
abbrev Behind : {X : Type 0} → (List ℕ → ℕ → X) → Type 0
Behind f = (bs cs : List ℕ) (at : ℕ) → f (bs ++ cs) (length bs + at) ≡ f cs at

past : {X : Type 0} (f : List ℕ → ℕ → X) → Behind f → (front ys rest : List ℕ) {n : ℕ} → length front ≡ n → (at : ℕ) → f ((front ++ ys) ++ rest) (n + at) ≡ f (ys ++ rest) at
past f b front ys rest {n} long at =
    ap (λ (bs : List ℕ). f bs (n + at)) (append_assoc front ys rest) ∙ ap (λ (k : ℕ). f (front ++ (ys ++ rest)) (k + at)) (sym long) ∙ b front (ys ++ rest) at

-- n floats, one behind the other
abbrev several : ℕ → List ℕ → ℕ → List Float
several n bs at = singles_at bs at n

several_behind : (n : ℕ) → Behind (several n)
several_behind n bs cs at = singles-behind bs cs at n

-- ---- a field

module _ (tag : ℕ) (contents rest : List ℕ) where
  -- the three bytes ahead of the contents
  abbrev head : List ℕ
  head = tag ∷ bytes_of 2 (length contents)

  abbrev pub field : List ℕ
  field = field_of tag contents ++ rest

  head_long : length head ≡ 3
  head_long = rw (length_bytes 2 (length contents)) refl

  pub field_long : length (field_of tag contents) ≡ 3 + length contents
  field_long = simp length-append (omega (arith, length_bytes 2 (length contents)))

  pub written_tag : tag_of field ≡ tag
  unfolding tag_of
  written_tag = refl

  -- what is read of the contents
  in_contents : {X : Type 0} (f : List ℕ → ℕ → X) → Behind f → (at : ℕ) → f field (3 + at) ≡ f (contents ++ rest) at
  in_contents f b at = past f b head contents rest head_long at

  module _ (small : length contents < 65536) where
    pub written-length : length_in field ≡ length contents
    unfolding length_in
    written-length =
        word_behind 2 (tag ∷ []) ((bytes_of 2 (length contents) ++ contents) ++ rest) 0
        ∙ ap (λ (bs : List ℕ). word_at 2 bs 0) (append_assoc (bytes_of 2 (length contents)) contents rest) ∙ word_written 2 (length contents) (contents ++ rest) small

    pub written-field : field_length field ≡ length (field_of tag contents)
    unfolding field_length
    written-field = ap (λ (n : ℕ). 3 + n) written-length ∙ sym field_long

    pub written-whole : is_whole field ≡ true
    unfolding is_whole has_head
    written-whole =
        let long : length field ≡ length (field_of tag contents) + length rest = length-append (field_of tag contents) rest in
        and (le-leb 3 (length field) (omega (arith, long, field_long)))
        (le-leb (field_length field) (length field) (omega (arith, long, written-field)))

    pub written_behind : drop (field_length field) field ≡ rest
    written_behind = drop_at (field_of tag contents) rest (field_length field) (sym written-field)

-- ---- contents, number by number

single_long : (v : Float) → length (single_bytes v) ≡ 4
unfolding single_bytes
single_long v = length_bytes 4 _

double_long : (t : Float) → length (double_bytes t) ≡ 8
unfolding double_bytes
double_long t = length_bytes 8 _

module _ (ys rest : List ℕ) where
  first_single : (v : Float) → T (fits binary32 v) → single_at ((single_bytes v ++ ys) ++ rest) 0 ≡ v
  first_single v h = ap (λ (bs : List ℕ). single_at bs 0) (append_assoc (single_bytes v) ys rest) ∙ single_back v (ys ++ rest) h

  first_double : (t : Float) → T (fits binary64 t) → double_at ((double_bytes t ++ ys) ++ rest) 0 ≡ t
  first_double t h = ap (λ (bs : List ℕ). double_at bs 0) (append_assoc (double_bytes t) ys rest) ∙ double_back t (ys ++ rest) h

  module _ {X : Type 0} (f : List ℕ → ℕ → X) (b : Behind f) where
    past_single : (v : Float) (at : ℕ) → f ((single_bytes v ++ ys) ++ rest) (4 + at) ≡ f (ys ++ rest) at
    past_single v at = past f b (single_bytes v) ys rest (single_long v) at

    past_double : (t : Float) (at : ℕ) → f ((double_bytes t ++ ys) ++ rest) (8 + at) ≡ f (ys ++ rest) at
    past_double t at = past f b (double_bytes t) ys rest (double_long t) at

-- ---- how long a field is

pub value_long : (v t : Float) → length (single_bytes v ++ double_bytes t) ≡ 12
value_long v t = simp length-append (omega (arith, single_long v, double_long t))

pub target_long : (v t c : Float) → length (single_bytes v ++ (double_bytes t ++ double_bytes c)) ≡ 20
target_long v t c = simp length-append (omega (arith, single_long v, double_long t, double_long c))

pub curve_long : (s d : Float) (xs : List Float) → length (double_bytes s ++ (double_bytes d ++ numbers_bytes xs)) ≡ 16 + 4 * length xs
curve_long s d xs = simp length-append (omega (arith, double_long s, double_long d, length-numbers xs))

pub bounds_long : (a b c : Float) → length (single_bytes a ++ (single_bytes b ++ single_bytes c)) ≡ 12
bounds_long a b c = simp length-append (omega (arith, single_long a, single_long b, single_long c))

-- ---- an event's field, read

module _ (rest : List ℕ) where
  -- a value and a time, behind any tag
  module _ (tag : ℕ) (v t : Float) (f : T (fits binary32 v) × T (fits binary64 t)) where
    value_of : single_at (field tag (single_bytes v ++ double_bytes t) rest) 3 ≡ v
    value_of = in_contents tag (single_bytes v ++ double_bytes t) rest single_at single-behind 0 ∙ first_single (double_bytes t) rest v f.0

    time_of_lem : double_at (field tag (single_bytes v ++ double_bytes t) rest) 7 ≡ t
    time_of_lem = in_contents tag (single_bytes v ++ double_bytes t) rest double_at double-behind 4 ∙ past_single (double_bytes t) rest double_at double-behind v 0 ∙ double_back t rest f.1

  curve_numbers : (s d : Float) (xs : List Float) → length xs ≤ store_length → numbers_in (field 5 (double_bytes s ++ (double_bytes d ++ numbers_bytes xs)) rest) ≡ length xs
  unfolding numbers_in
  curve_numbers s d xs few =
      let long = curve_long s d xs in
      let is : length_in (field 5 (double_bytes s ++ (double_bytes d ++ numbers_bytes xs)) rest) ≡ 16 + 4 * length xs = written-length 5 (double_bytes s ++ (double_bytes d ++ numbers_bytes xs)) rest (omega (arith, long, few)) ∙ long in
      rw is (omega arith)

  pub event_written : (e : Event) (xs : List Float) → FitEvent e → AreSingles xs → length xs ≤ store_length → event_in (event_field e xs ++ rest) ≡ command_of e xs
  unfolding FitEvent event_field command_of
  event_written (Event.Step v t) xs f g few =
      step_in (field 1 (single_bytes v ++ double_bytes t) rest) (written_tag 1 (single_bytes v ++ double_bytes t) rest) ∙ rw (value_of 1 v t f, time_of_lem 1 v t f) refl
  event_written (Event.Linear v t h) xs f g few =
      linear_in (field 2 (single_bytes v ++ double_bytes t) rest) (written_tag 2 (single_bytes v ++ double_bytes t) rest) ∙ rw (value_of 2 v t f, time_of_lem 2 v t f) refl
  event_written (Event.Exponential v t h) xs f g few =
      exponential_in (field 3 (single_bytes v ++ double_bytes t) rest) (written_tag 3 (single_bytes v ++ double_bytes t) rest) ∙ rw (value_of 3 v t f, time_of_lem 3 v t f) refl
  event_written (Event.Target v t c h) xs f g few =
      let contents : List ℕ = single_bytes v ++ (double_bytes t ++ double_bytes c) in
      let value : single_at (field 4 contents rest) 3 ≡ v = in_contents 4 contents rest single_at single-behind 0 ∙ first_single (double_bytes t ++ double_bytes c) rest v f.0 in
      let time : double_at (field 4 contents rest) 7 ≡ t = in_contents 4 contents rest double_at double-behind 4 ∙ past_single (double_bytes t ++ double_bytes c) rest double_at double-behind v 0 ∙ first_double (double_bytes c) rest t f.1.0 in
      let constant : double_at (field 4 contents rest) 15 ≡ c = in_contents 4 contents rest double_at double-behind 12 ∙ past_single (double_bytes t ++ double_bytes c) rest double_at double-behind v 8 ∙ past_double (double_bytes c) rest double_at double-behind t 0 ∙ double_back c rest f.1.1 in
      target_in (field 4 contents rest) (written_tag 4 contents rest) ∙ rw (value, time, constant) refl
  event_written (Event.Curve s d n h) xs f g few =
      let contents : List ℕ = double_bytes s ++ (double_bytes d ++ numbers_bytes xs) in
      let many : numbers_in (field 5 contents rest) ≡ length xs = curve_numbers s d xs few in
      let start : double_at (field 5 contents rest) 3 ≡ s = in_contents 5 contents rest double_at double-behind 0 ∙ first_double (double_bytes d ++ numbers_bytes xs) rest s f.0 in
      let duration : double_at (field 5 contents rest) 11 ≡ d = in_contents 5 contents rest double_at double-behind 8 ∙ past_double (double_bytes d ++ numbers_bytes xs) rest double_at double-behind s 0 ∙ first_double (numbers_bytes xs) rest d f.1 in
      let numbers : singles_at (field 5 contents rest) 19 (length xs) ≡ xs = in_contents 5 contents rest (several (length xs)) (several_behind (length xs)) 16 ∙ past_double (double_bytes d ++ numbers_bytes xs) rest (several (length xs)) (several_behind (length xs)) s 8 ∙ past_double (numbers_bytes xs) rest (several (length xs)) (several_behind (length xs)) d 0 ∙ singles_back xs rest g in
      curve_in_lem (field 5 contents rest) (written_tag 5 contents rest) ∙ rw (start, duration, many, numbers) refl

-- ---- a field as it is judged

-- the bytes of a field, and what is behind them
pub record Written (bs field rest : List ℕ) : Type 0 where
  pub tag : is_tag (tag_of bs) ≡ true
  pub right : is_wrong bs ≡ false
  pub whole : is_whole bs ≡ true
  pub long : field_length bs ≡ length field
  pub behind : drop (field_length bs) bs ≡ rest

module _ (tag : ℕ) (contents rest : List ℕ) (small : length contents < 65536) where
  written_right : fits_tag tag (length contents) ≡ true → is_wrong (field tag contents rest) ≡ false
  unfolding is_wrong tag_of
  written_right fit = rw (written-length tag contents rest small, fit) (and_false (has_head (field tag contents rest)))

  written : is_tag tag ≡ true → fits_tag tag (length contents) ≡ true → Written (field tag contents rest) (field_of tag contents) rest
  unfolding tag_of
  written known fit =
      record {
        tag = known;
        right = written_right fit;
        whole = written-whole tag contents rest small;
        long = written-field tag contents rest small;
        behind = written_behind tag contents rest small;
      }

-- an event's field
pub event_field_lem : (e : Event) (xs : List Float) (rest : List ℕ) → length xs ≤ store_length
    → Written (event_field e xs ++ rest) (event_field e xs) rest × (is_range (event_field e xs ++ rest) ≡ false)
unfolding event_field is_tag fits_tag is_range tag_of
event_field_lem (Event.Step v t) xs rest few =
    let n = value_long v t in
    (written 1 (single_bytes v ++ double_bytes t) rest (omega (arith, n)) refl (rw n refl), refl)
event_field_lem (Event.Linear v t h) xs rest few =
    let n = value_long v t in
    (written 2 (single_bytes v ++ double_bytes t) rest (omega (arith, n)) refl (rw n refl), refl)
event_field_lem (Event.Exponential v t h) xs rest few =
    let n = value_long v t in
    (written 3 (single_bytes v ++ double_bytes t) rest (omega (arith, n)) refl (rw n refl), refl)
event_field_lem (Event.Target v t c h) xs rest few =
    let n = target_long v t c in
    (written 4 (single_bytes v ++ (double_bytes t ++ double_bytes c)) rest (omega (arith, n)) refl (rw n refl), refl)
event_field_lem (Event.Curve s d n h) xs rest few =
    let m = curve_long s d xs in
    (written 5 (double_bytes s ++ (double_bytes d ++ numbers_bytes xs)) rest (omega (arith, m, few)) refl (rw m (and (le-leb 16 (16 + 4 * length xs) (omega arith)) (eq-eqb ((16 + 4 * length xs) % 4) 0 (omega arith)))), refl)

-- the range's
pub range_field_lem : (b : Bounds) (rest : List ℕ) → Written (range_field b ++ rest) (range_field b) rest × (is_range (range_field b ++ rest) ≡ true)
unfolding range_field is_tag fits_tag is_range tag_of
range_field_lem b rest =
    let n = bounds_long b.min b.default b.max in
    (written 6 (single_bytes b.min ++ (single_bytes b.default ++ single_bytes b.max)) rest (omega (arith, n)) refl (rw n refl), refl)

pub bounds_written : (b : Bounds) (rest : List ℕ) → FitBounds b → bounds_in (range_field b ++ rest) ≡ b
unfolding range_field bounds_in
bounds_written b rest f =
    let contents : List ℕ = single_bytes b.min ++ (single_bytes b.default ++ single_bytes b.max) in
    let min : single_at (field 6 contents rest) 3 ≡ b.min = in_contents 6 contents rest single_at single-behind 0 ∙ first_single (single_bytes b.default ++ single_bytes b.max) rest b.min f.0 in
    let default : single_at (field 6 contents rest) 7 ≡ b.default =
    in_contents 6 contents rest single_at single-behind 4 ∙ past_single (single_bytes b.default ++ single_bytes b.max) rest single_at single-behind b.min 0 ∙ first_single (single_bytes b.max) rest b.default f.1.0 in
    let max : single_at (field 6 contents rest) 11 ≡ b.max =
    in_contents 6 contents rest single_at single-behind 8 ∙ past_single (single_bytes b.default ++ single_bytes b.max) rest single_at single-behind b.min 4
    ∙ past_single (single_bytes b.max) rest single_at single-behind b.default 0 ∙ single_back b.max rest f.1.1 in
    rw (min, default, max) refl

-- ---- a turn on it

module _ {bs field rest : List ℕ} (w : Written bs field rest) (r : Reader) where
  pub turn_event : is_range bs ≡ false → r.ranged ≡ true → field_turn bs r ≡ event_turn (event_in bs) bs r
  unfolding field_turn contents_turn is_misplaced
  turn_event e h = rw (w.tag, w.right, e, h, w.whole) refl

  pub turn_range : is_range bs ≡ true → r.ranged ≡ false → field_turn bs r ≡ ranged_as (lowest (making_rows (bounds_in bs) r.edition)) bs r
  unfolding field_turn contents_turn is_misplaced
  turn_range e h = rw (w.tag, w.right, e, h, w.whole) refl
