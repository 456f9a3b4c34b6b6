-- The cases of cases-02/C-11 and 02's own field, computed by the checker.
use Rattle.card.specs.declared.Fault.{Fault}
use Rattle.std.proofs.Common.{Ok, Result, Err}
use mathlib.Core.Path.{◌≡◌, refl}
use mathlib.Core.Bool.{Bool, true, ◌&&◌}
use mathlib.Core.List.{List, [], ◌∷◌, ◌++◌}
use Prim.Native.Nat.{ℕ}
use lib.Dec.{eqb}
use lib.ListN.{set}
use lib.Ieee as Ieee
use lib.Ieee.{nan}
use Rattle.rules.specs.declared.Event.TheVariants as Event
use Rattle.rules.specs.declared.AutomationRate.TheVariants as Rate
use Rattle.rules.specs.declared.Edition.TheVariants as Edition
use Rattle.rules.specs.Block.{fresh, with_queue, curve, target, hold, Called, called, answered}
use Rattle.rules.proofs.Table.{results, bounds, n0, n1, n2, n3, n5, n6, n10, minus10}
use Rattle.laws.specs.Sound as Sound
use Rattle.words.specs.Words as Words
use Rattle.card.specs.Card as Card
use Rattle.card.specs.Card.{fault_number, Reader, read, event_field, unwritable, judged, saved}

-- ---- what is computed: its line names all definitions of the card; `results` stands for the rules

-- 0, or the number
unfoldable pub number_as : Result Unit Fault → ℕ
unfolding results Sound.is_from_zero Sound.has_played Ieee.of_bits Ieee.to_bits Words.bytes_of Words.word_in Words.word_at Words.single_at Words.double_at Words.singles_at
    Words.single_bytes Words.double_bytes Words.numbers_bytes Card.fault_number Card.is_accepted Card.tag_of Card.has_head Card.length_in Card.field_length Card.is_whole Card.is_tag
    Card.is_range Card.fits_tag Card.numbers_in Card.bounds_in Card.event_in Card.is_wrong Card.is_misplaced Card.time_of Card.is_minus_zero Card.has_no_constant
    Card.is_out_of_turn Card.ranged_as Card.taken_as Card.event_turn Card.contents_turn Card.field_turn Card.taken Card.fed Card.end_turn Card.at_end Card.read
    Card.range_field Card.event_field Card.fields_of Card.file_of Card.has_hold Card.is_held Card.is_unwritable Card.judged_from Card.judged Card.written_to Card.saved_as
    Card.saved
number_as (Ok _) = 0
number_as (Err f) = fault_number f

-- a file, and what is said of it: the number, and where
pub data Row : Type 0 where
  row : List ℕ → ℕ → ℕ → Row

unfoldable pub holds : Row → Bool
unfolding number_as
holds (row file number at) = let r = read Rate.A 1 file in eqb (number_as r.verdict) number && eqb r.offset at

unfoldable pub all_hold : List Row → Bool
all_hold [] = true
all_hold (r ∷ rows) = holds r && all_hold rows

-- ---- 02's own field: "A step 5 at 2 is the field 01 0C 00, 00 00 A0 40, 00 00 00 00 00 00 00 40"

abbrev step5at2 : List ℕ
step5at2 = 0x01 ∷ 0x0c ∷ 0x00 ∷ 0x00 ∷ 0x00 ∷ 0xa0 ∷ 0x40 ∷ 0x00 ∷ 0x00 ∷ 0x00 ∷ 0x00 ∷ 0x00 ∷ 0x00 ∷ 0x00 ∷ 0x40 ∷ []

pub the_field_of_02 : event_field (Event.Step n5 n2) [] ≡ step5at2
unfolding number_as
the_field_of_02 = refl

-- ---- files

-- -10, 0, 10
abbrev range : List ℕ
range = 0x06 ∷ 0x0c ∷ 0x00 ∷ 0x00 ∷ 0x00 ∷ 0x20 ∷ 0xc1 ∷ 0x00 ∷ 0x00 ∷ 0x00 ∷ 0x00 ∷ 0x00 ∷ 0x00 ∷ 0x20 ∷ 0x41 ∷ []

abbrev example : List ℕ
example = range ++ step5at2

unfoldable pub cases : List Row
cases =
    -- 02's field, after a range
    row example 0 30
    -- an empty file: no range by the end, offset 0
    ∷ row [] 22 0
    -- an event before the range; a second range; 22 ahead of a cut
    ∷ row step5at2 22 0
    ∷ row (range ++ range) 22 15
    ∷ row (range ++ (0x06 ∷ [])) 22 15
    ∷ row (0x01 ∷ []) 22 0
    -- cut short: a known tag alone, a tag and half a length, a body; an unknown tag alone is 20
    ∷ row (range ++ (0x01 ∷ [])) 23 15
    ∷ row (range ++ (0x01 ∷ 0x0c ∷ [])) 23 15
    ∷ row (range ++ (0x01 ∷ 0x0c ∷ 0x00 ∷ 0x00 ∷ 0x00 ∷ 0xa0 ∷ 0x40 ∷ [])) 23 15
    ∷ row (range ++ (0x07 ∷ [])) 20 15
    -- 21 ahead of a cut
    ∷ row (range ++ (0x01 ∷ 0x0d ∷ 0x00 ∷ 0x00 ∷ 0x00 ∷ 0xa0 ∷ 0x40 ∷ [])) 21 15
    -- a time of -0; a time of -1, first (01's 3) and behind another (28); NaN behind another (01's 2)
    ∷ row (range ++ (0x01 ∷ 0x0c ∷ 0x00 ∷ 0x00 ∷ 0x00 ∷ 0xa0 ∷ 0x40 ∷ 0x00 ∷ 0x00 ∷ 0x00 ∷ 0x00 ∷ 0x00 ∷ 0x00 ∷ 0x00 ∷ 0x80 ∷ [])) 28 15
    ∷ row (range ++ (0x01 ∷ 0x0c ∷ 0x00 ∷ 0x00 ∷ 0x00 ∷ 0xa0 ∷ 0x40 ∷ 0x00 ∷ 0x00 ∷ 0x00 ∷ 0x00 ∷ 0x00 ∷ 0x00 ∷ 0xf0 ∷ 0xbf ∷ [])) 3 15
    ∷ row (example ++ (0x01 ∷ 0x0c ∷ 0x00 ∷ 0x00 ∷ 0x00 ∷ 0xa0 ∷ 0x40 ∷ 0x00 ∷ 0x00 ∷ 0x00 ∷ 0x00 ∷ 0x00 ∷ 0x00 ∷ 0xf0 ∷ 0xbf ∷ [])) 28 30
    ∷ row (example ++ (0x01 ∷ 0x0c ∷ 0x00 ∷ 0x00 ∷ 0x00 ∷ 0xa0 ∷ 0x40 ∷ 0x00 ∷ 0x00 ∷ 0x00 ∷ 0x00 ∷ 0x00 ∷ 0x00 ∷ 0xf8 ∷ 0x7f ∷ [])) 2 30
    -- a target with time constant -0; 28 ahead of 01's own 5
    ∷ row (range ++ (0x04 ∷ 0x14 ∷ 0x00 ∷ 0x00 ∷ 0x00 ∷ 0xa0 ∷ 0x40 ∷ 0x00 ∷ 0x00 ∷ 0x00 ∷ 0x00 ∷ 0x00 ∷ 0x00 ∷ 0x00 ∷ 0x40 ∷ 0x00 ∷ 0x00 ∷ 0x00 ∷ 0x00 ∷ 0x00 ∷ 0x00 ∷ 0x00 ∷ 0x80 ∷ [])) 28 15
    ∷ row (range ++ (0x03 ∷ 0x0c ∷ 0x00 ∷ 0x00 ∷ 0x00 ∷ 0x00 ∷ 0x00 ∷ 0x00 ∷ 0x00 ∷ 0x00 ∷ 0x00 ∷ 0x00 ∷ 0x00 ∷ 0x00 ∷ 0x80 ∷ [])) 28 15
    -- a curve of 1 number has a right length: 01's 6; of 15 bytes a wrong one
    ∷ row (range ++ (0x05 ∷ 0x14 ∷ 0x00 ∷ 0x00 ∷ 0x00 ∷ 0x00 ∷ 0x00 ∷ 0x00 ∷ 0x00 ∷ 0x00 ∷ 0x00 ∷ 0x00 ∷ 0x00 ∷ 0x00 ∷ 0x00 ∷ 0x00 ∷ 0x00 ∷ 0xf0 ∷ 0x3f ∷ 0x00 ∷ 0x00 ∷ 0x00 ∷ 0x00 ∷ [])) 6 15
    ∷ row (range ++ (0x05 ∷ 0x0f ∷ 0x00 ∷ 0x00 ∷ 0x00 ∷ 0x00 ∷ 0x00 ∷ 0x00 ∷ 0x00 ∷ 0x00 ∷ 0x00 ∷ 0x00 ∷ 0x00 ∷ 0x00 ∷ 0x00 ∷ 0x00 ∷ 0x00 ∷ 0xf0 ∷ [])) 21 15
    -- a range that 01 refuses
    ∷ row (0x06 ∷ 0x0c ∷ 0x00 ∷ 0x00 ∷ 0x00 ∷ 0x20 ∷ 0xc1 ∷ 0x00 ∷ 0x00 ∷ 0x00 ∷ 0x00 ∷ 0x00 ∷ 0x00 ∷ 0x20 ∷ 0xc1 ∷ []) 1 0
    ∷ []

pub the_cases : all_hold cases ≡ true
unfolding number_as holds all_hold cases
the_cases = refl

-- the first gives this parameter, and is written to its own bytes
abbrev first : Reader
first = read Rate.A 1 example

pub the_first_is_read : first.param ≡ with_queue (Event.Step n5 n2 ∷ []) (fresh (bounds minus10 n0 n10) Rate.A Edition.First)
unfolding number_as
the_first_is_read = refl

pub it_is_written_back : (saved first.param first.store []).says.at ≡ 30
unfolding number_as
it_is_written_back = refl

-- ---- in writing: a held event's place, a poked number's, a block already answered

abbrev curved : Called
curved = called first.param first.store (curve n3 n1 (n0 ∷ n1 ∷ []))

abbrev targeted : Called
targeted = called curved.param curved.store (target n1 n5 n1)

abbrev held : Called
held = called targeted.param targeted.store (hold n6)

pub a_number_that_is_not_finite : judged curved.param (set curved.store 1 nan) ≡ unwritable 1
unfolding number_as
a_number_that_is_not_finite = refl

pub a_held_event : judged held.param held.store ≡ unwritable 2
unfolding number_as
a_held_event = refl

pub a_block_answered : judged (answered held.param held.store (record { time = n0; period = n1; count = 1; input = []; output = n0 ∷ [] })).param held.store ≡ unwritable 0
unfolding number_as
a_block_answered = refl
