-- What is said of a schedule that is to be written: its events in turn, and the tests ahead of them. Assumes nothing.
use Rattle.std.proofs.Common.{Ok}
use mathlib.Core.Path.{◌≡◌, refl, ap, ◌∙◌}
use mathlib.Core.Bool.{Bool, true, false, cond, not}
use mathlib.Core.List.{List, [], ◌∷◌}
use Prim.Native.Nat.{ℕ, suc, ◌+◌, ◌≤◌}
use native.Mathlib.Numerals.{add-one}
use native.Mathlib.Omega.{arith}
use lib.Dec.{eqb}
use lib.ListN.{length, drop, length-append}
use lib.Ieee.{Float}
use borrow.Author.Tests.{eq-eqb, ne_eqb}
use Rattle.rules.specs.declared.Bounds.{Bounds}
use Rattle.rules.specs.Numbers.{store_length}
use Rattle.rules.specs.Queue.{Waiting, attached}
use Rattle.rules.specs.Block.{Param}
use Rattle.laws.specs.Sound.{has_played}
use Rattle.laws.proofs.Tests.{never}
use Rattle.card.specs.declared.Judged.{Judged}
use Rattle.card.specs.Card.{is_accepted, range_field, event_field, fields_of, file_of, is_unwritable, bad_store, unwritable, judged_from, judged}
use Rattle.card.proofs.Bound.{range_size}
use Rattle.card_writer.proofs.Parts.{fields-length, fields-over}

-- nothing is against writing these many bytes
abbrev pub fine : ℕ → Judged
fine many = record { verdict = Ok tt; at = many }

pub file_length : (b : Bounds) (ws : List Waiting) → length (file_of b ws) ≡ 15 + length (fields_of ws)
unfolding file_of
file_length b ws = rw (length-append (range_field b) (fields_of ws), range_size b)

-- ---- the events in turn

-- i events are looked at, and each can be written; the range and they have `many` bytes
pub record Looked (ws : List Waiting) (many i : ℕ) : Type 0 where
  pub sum : many + length (fields_of (drop i ws)) ≡ 15 + length (fields_of ws)
  pub left : (k : ℕ) → judged_from 0 ws k ≡ judged_from i (drop i ws) k

pub looked_none : (ws : List Waiting) → Looked ws 15 0
looked_none ws = record { sum = refl; left = λ k. refl }

module _ {ws : List Waiting} {many i : ℕ} (l : Looked ws many i) where
  pub looked_all : (b : Bounds) → drop i ws ≡ [] → fine many ≡ judged_from 0 ws (length (file_of b ws))
  unfolding judged_from
  looked_all b none =
      let sum : many ≡ length (file_of b ws) = omega (arith, file_length b ws, l.sum, ap length (fields-over none)) in
      rw (l.left, none, sum)

  module _ {w : Waiting} (here : drop i ws ≡ w ∷ drop (i + 1) ws) where
    pub looked_not : (k : ℕ) → is_unwritable w ≡ true → unwritable i ≡ judged_from 0 ws k
    unfolding judged_from
    looked_not k h = rw (l.left, here, h)

    -- no more than the file has
    pub looked_few : (b : Bounds) → many + length (event_field w.event w.numbers) ≤ length (file_of b ws)
    looked_few b = omega (arith, file_length b ws, l.sum, fields-length here)

    pub looked_more : {k : ℕ} → is_unwritable w ≡ false → k ≡ length (event_field w.event w.numbers) → Looked ws (many + k) (i + 1)
    unfolding judged_from
    looked_more h n = record { sum = omega (arith, l.sum, fields-length here); left = λ j. l.left j ∙ rw (here, h, add-one i) }

kept_from : (i : ℕ) (ws : List Waiting) (many : ℕ) → is_accepted (judged_from i ws many).verdict ≡ true → judged_from i ws many ≡ fine many
unfolding judged_from is_accepted
kept_from i [] many k = refl
kept_from i (w ∷ ws) many k = go (is_unwritable w) (judged_from (suc i) ws many) (kept_from (suc i) ws many) k
  where
    go : (b : Bool) (more : Judged) → (is_accepted more.verdict ≡ true → more ≡ fine many) → is_accepted (cond b (unwritable i) more).verdict ≡ true → cond b (unwritable i) more ≡ fine many
    go true more f k = never k
    go false more f k = f k

-- ---- the tests ahead of them

module _ (p : Param) (store : List Float) where
  abbrev ws : List Waiting
  ws = attached p.queue store

  abbrev pub bytes : ℕ
  bytes = length (file_of p.bounds ws)

  pub judged_store : (length store ≡ store_length → ⊥) → bad_store ≡ judged p store
  unfolding judged
  judged_store h = rw (ne_eqb (length store) store_length h)

  module _ (long : length store ≡ store_length) where
    pub judged-played : has_played p.last_block ≡ true → unwritable 0 ≡ judged p store
    unfolding judged
    judged-played h = rw (eq-eqb (length store) store_length long, h)

    pub judged_events : has_played p.last_block ≡ false → judged_from 0 ws bytes ≡ judged p store
    unfolding judged
    judged_events h = rw (eq-eqb (length store) store_length long, h)

  -- of what is not refused the bytes are said
  pub kept : is_accepted (judged p store).verdict ≡ true → judged p store ≡ fine bytes
  unfolding judged is_accepted
  kept k = go (not (eqb (length store) store_length)) (has_played p.last_block) k
    where
      said : Bool → Bool → Judged
      said short played = cond short bad_store (cond played (unwritable 0) (judged_from 0 ws bytes))

      go : (short played : Bool) → is_accepted (said short played).verdict ≡ true → said short played ≡ fine bytes
      go true played k = never k
      go false true k = never k
      go false false k = kept_from 0 ws bytes k
