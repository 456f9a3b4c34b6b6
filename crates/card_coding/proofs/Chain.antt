-- A file read by the calls, in parts of any lengths: what the end answers is what the rules say of the whole file. Assumes nothing.
use mathlib.Core.Path.{◌≡◌, refl, ap, ◌∙◌}
use mathlib.Core.Bool.{true}
use mathlib.Core.List.{List, [], ◌∷◌}
use Prim.Native.Nat.{ℕ, ◌≤◌}
use lib.ListN.{length}
use lib.Ieee.{Float}
use Rattle.rules.specs.declared.AutomationRate.{AutomationRate}
use Rattle.coding.specs.Coding.{state_length, is_state, param_in}
use Rattle.card.specs.Card.{Reader, Reading, begun, fed_all, joined, read, loaded}
use Rattle.card.proofs.Parts.{parts_are_the_file}
use Rattle.card_reader.specs.Reader.{window_length, part_length}
use Rattle.card_coding.specs.Array.{Keeps}
use Rattle.card_coding.specs.Calls.{OpensCard, HearsCard, Ended, ended_as, EndsCard}

-- calls with these parts, one behind the other, each on what the one before it left
pub data Heard : List (List ℕ) → List ℕ → List Float → List ℕ → List ℕ → List Float → List ℕ → Type 0 where
  none : {card : List ℕ} {numbers : List Float} {window : List ℕ} → Heard [] card numbers window card numbers window
  more : {part : List ℕ} {parts : List (List ℕ)} {card after last : List ℕ} {numbers left still : List Float} {window over end : List ℕ} {n : ℕ} → length part ≤ part_length
      → HearsCard card numbers window part n after left over → Heard parts after left over last still end → Heard (part ∷ parts) card numbers window last still end

-- what they keep is the reading with all of them
pub all-kept : {parts : List (List ℕ)} {card after : List ℕ} {numbers left : List Float} {window over : List ℕ} (s : Reading) → Heard parts card numbers window after left over
    → Keeps card numbers window s → Keeps after left over (fed_all s parts)
unfolding fed_all
all-kept s none k = k
all-kept s (more {part} short h rest) k = all-kept _ rest (h.keeps s short k)

module _ (rate : AutomationRate) (edition : ℕ) (parts : List (List ℕ)) {old card after : List ℕ} {lent numbers left : List Float} {window over : List ℕ} {before ended : Ended}
    (o : OpensCard rate edition old lent 0 card numbers) (long : length window ≡ window_length) (h : Heard parts card numbers window after left over)
    (e : EndsCard after left over before ended) where
  kept : Keeps after left over (fed_all (begun rate edition) parts)
  kept = all-kept (begun rate edition) h (o.keeps refl window long)

  -- opened, heard and ended: number, offset, state and store are those of the file that the parts are, however it is cut
  pub file_is_read : length before.state ≡ state_length → ended ≡ ended_as (loaded (read rate edition (joined parts)) (param_in before.state) before.store) before.state
  file_is_read same =
      e.keeps (fed_all (begun rate edition) parts) same kept
      ∙ ap (λ (r : Reader). ended_as (loaded r (param_in before.state) before.store) before.state) (parts_are_the_file rate edition parts)

  -- and answered, the state is one of the file's parameter
  pub file_is_given : ended.number ≡ 0
      → (is_state ended.state ≡ true) × (param_in ended.state ≡ (loaded (read rate edition (joined parts)) (param_in before.state) before.store).param)
  file_is_given z =
      (e.reads z, e.gives (fed_all (begun rate edition) parts) kept z ∙ ap (λ (r : Reader). (loaded r (param_in before.state) before.store).param) (parts_are_the_file rate edition parts))
