-- From an answer of the session language to the one for a person. Assumes nothing.
use mathlib.Core.Path.{◌≡◌, refl, sym, ap, ◌∙◌, subst}
use mathlib.Core.Bool.{true, false}
use mathlib.Core.List.{List, [], ◌∷◌, ◌++◌, append_assoc}
use Rattle.std.specs.Prelude.{Option, None, Some}
use Prim.Native.Nat.{ℕ, ◌+◌, ◌-◌, ◌*◌, ◌≤◌, ◌<◌}
use native.Mathlib.Omega.{arith}
use lib.ListN.{length, take, drop, length-append}
use lib.Seq.{take_at}
use lib.Ieee.{Float}
use Rattle.rules.specs.declared.Event.{Event}
use Rattle.text.specs.Put.{put, Put}
use Rattle.text.specs.Words.{same_word}
use Rattle.text.proofs.Writing.{put_same, put_then}
use Rattle.calls.specs.Language.{Said, call_of, Heard}
use Rattle.calls.specs.declared.Call.{Call}
use Rattle.decimal.specs.Codes.{codes}
use Rattle.wording.specs.Plain.{translation}
use Rattle.replies.specs.Plain.{reply}
use Rattle.clashes.specs.declared.Clash.{Clash}
use Rattle.clashes.specs.Clashes.{clash_of, clash_text}
use Rattle.param.specs.Param.{param_of}
use Rattle.desk.specs.declared.Desk.{Desk}
use Rattle.desk.specs.declared.Answered.{Answered}
use Rattle.desk.specs.Desk.{Table, Turn, table_of, Spoken, unchanged, said_turn, with_newline, line_turn}
use Rattle.play.specs.Played.{not_read, clash_in, told, strict_turn, cost_turn, read_turn, translated_turn, plain_turn}

-- ---- an answer without its newline, and what is told of it

module _ (line : List ℕ) {d : Desk} {s : List Float} {l : List ℕ} {r : Answered} {s' : List Float} {l' : List ℕ} (spoken : Spoken 42000 (line_turn line) d s l 0 r s' l') where
  abbrev answer : List ℕ
  answer = (said_turn (call_of line) (table_of d s)).text

  written : Put l 0 (answer ++ (10 ∷ [])) l' r.next
  unfolding line_turn with_newline
  written = spoken.text

  pub long : r.next ≡ length answer + 1
  long = omega (arith, written.place, length-append answer (10 ∷ []))

  pub is_answer : take (r.next - 1) l' ≡ answer
  unfolding put
  is_answer =
      ap (take (r.next - 1)) (written.bytes ∙ append_assoc answer (10 ∷ []) (drop (0 + length (answer ++ (10 ∷ []))) l))
      ∙ take_at answer _ (r.next - 1) (omega (arith, long))

  pub for_a_person : (n : ℕ) {clash : Option Clash} → clash ≡ clash_in (param_of d.param).queue (call_of line)
      → {out out₁ out₂ : List ℕ} {at to next : ℕ} → Put out at (told n clash (take (r.next - 1) l')) out₁ to → to ≤ length out → Put out₁ to (10 ∷ []) out₂ next → next ≤ at + 168200
      → Spoken 168200 (with_newline (strict_turn n line)) d s out at (record { desk = r.desk; next = next }) s' out₂
  unfolding line_turn with_newline strict_turn
  for_a_person n {clash} e p h q near =
      record {
        param = spoken.param;
        lent = spoken.lent;
        store = spoken.store;
        totals = spoken.totals;
        text = put_then (put_same (ap (λ (x : Option Clash). told n x (take (r.next - 1) l')) e ∙ ap (told n (clash_in (param_of d.param).queue (call_of line))) is_answer) p) q h;
        sound = spoken.sound;
        room = near;
      }

-- ---- what is told

module _ (n : ℕ) (clash : Option Clash) (answer : List ℕ) where
  pub told-unread : same_word answer (codes "unread") ≡ true → told n clash answer ≡ not_read n
  unfolding told
  told-unread e = rw e

  module _ (read : same_word answer (codes "unread") ≡ false) where
    pub told_clash : same_word answer (codes "refused 11") ≡ true → told n clash answer ≡ answer ++ clash_text clash
    unfolding told
    told_clash e = rw (read, e)

    pub told-reply : same_word answer (codes "refused 11") ≡ false → told n clash answer ≡ reply answer
    unfolding told
    told-reply e = rw (read, e)

-- the call that was read runs into what its line runs into, and so does none where the line is not read
pub heard_clash : (q : List Event) (o : Option Said) (call : Option Call) (numbers : List Float) (file : List ℕ) → Heard o call numbers file → clash_of q call ≡ clash_in q o
unfolding clash_in clash_of
heard_clash q None call numbers file h = ap (clash_of q) h
heard_clash q (Some s) call numbers file h = ap (clash_of q) h.0

-- ---- by the line's translation

module _ (n : ℕ) (line : List ℕ) where
  pub no_translation : translation line ≡ None → with_newline (unchanged (not_read n)) ≡ with_newline (plain_turn n line)
  unfolding plain_turn translated_turn
  no_translation e = ap (λ (o : Option (List ℕ)). with_newline (translated_turn n o)) (sym e)

  pub a_translation : {t u : List ℕ} → translation line ≡ Some t → u ≡ t → with_newline (read_turn n u) ≡ with_newline (plain_turn n line)
  unfolding plain_turn translated_turn
  a_translation e g = ap (λ (u : List ℕ). with_newline (read_turn n u)) g ∙ ap (λ (o : Option (List ℕ)). with_newline (translated_turn n o)) (sym e)

  -- `cost`, or a word of the session language
  pub read_cost : same_word line (codes "cost") ≡ true → with_newline cost_turn ≡ with_newline (read_turn n line)
  unfolding read_turn
  read_cost e = rw e

  pub read_strict : same_word line (codes "cost") ≡ false → with_newline (strict_turn n line) ≡ with_newline (read_turn n line)
  unfolding read_turn
  read_strict e = rw e

pub spoken-same : {most : ℕ} {turn this : Table → Turn} {d : Desk} {s : List Float} {l : List ℕ} {at : ℕ} {r : Answered} {s' : List Float} {l' : List ℕ}
    → turn ≡ this → Spoken most turn d s l at r s' l' → Spoken most this d s l at r s' l'
spoken-same {most} {turn} {this} {d} {s} {l} {at} {r} {s'} {l'} e v = subst (λ (f : Table → Turn). Spoken most f d s l at r s' l') e v

-- ---- room for it

pub within : (next before after : ℕ) → next ≤ 0 + 42000 → 42000 ≤ before → after ≡ before → next - 1 ≤ after
within next before after h i e = omega arith

pub room_for : (at k len total : ℕ) → len ≡ k - 1 → k ≤ 0 + 42000 → at + 168200 ≤ total → at + 4 * len + 90 ≤ total
room_for at k len total e h r = omega arith

pub nearby : (at k len to : ℕ) → len ≡ k - 1 → k ≤ 0 + 42000 → to ≤ at + 4 * len + 90 → to ≤ at + 168100
nearby at k len to e h r = omega arith

pub room_left : (at to total whole : ℕ) → to ≤ at + 168100 → at + 168200 ≤ total → total ≡ whole → to < whole
room_left at to total whole h r e = omega arith

pub room_strict : (len from to w room : ℕ) → w ≡ to - from → to ≤ len → len ≤ 65536 → 21 + 17 * 65536 ≤ room → 21 + 17 * w ≤ room
room_strict len from to w room e h i r = omega arith
