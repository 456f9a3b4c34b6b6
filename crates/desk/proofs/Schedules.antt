-- A schedule file written and read: from what the writer and the reader ensure to what a session's calls ensure. Assumes nothing.
use Rattle.std.proofs.Common.{Option, Some, None, Ok, Result, Err}
use mathlib.Core.Path.{◌≡◌, refl, sym, ap, ◌∙◌, subst}
use mathlib.Core.Bool.{Bool, true, false, cond, ◌&&◌}
use mathlib.Core.List.{List, [], ◌∷◌, ◌++◌, append-nil}
use Prim.Native.Nat.{ℕ, ◌+◌, ◌-◌, ◌≤◌}
use native.Mathlib.Nat.{le_refl, zero-add, sub-zero}
use native.Mathlib.Omega.{arith}
use lib.Dec.{leb, eqb}
use lib.ListN.{length, take, drop, replicate, length-append, length-take, drop_of_length-le, take-append-drop}
use lib.Seq.{take_at, take-add}
use lib.Ieee.{Float}
use borrow.Author.Tests.{le-leb}
use borrow.Rule.Slice.PartMut.{mid_of, post_of, put_mid, mid_len, Post-is}
use Rattle.rules.specs.declared.AutomationRate.{AutomationRate}
use Rattle.rules.specs.Numbers.{plus_zero, store_length}
use Rattle.rules.specs.Queue.{attached}
use Rattle.rules.specs.Block.{Param}
use Rattle.text.specs.Put.{Put}
use Rattle.text.proofs.Writing.{put_same}
use Rattle.answers.specs.Answers.{verdict_text, saved_text, fault_text}
use Rattle.costs.specs.declared.Totals.{Totals}
use Rattle.costs.specs.Costs.{waiting_in, nothing, plus}
use Rattle.costs.specs.Seen.{command_seen}
use Rattle.tally.specs.Tally.{kept}
use Rattle.param.specs.declared.AudioParam.{AudioParam}
use Rattle.param.specs.Param.{param_of, struct_of, SoundParam}
use Rattle.param.proofs.Calls.{whole, struct_back}
use Rattle.card.specs.declared.Fault.{Fault}
use Rattle.card.specs.declared.Judged.{Judged}
use Rattle.card.specs.Card as card
use Rattle.card.specs.Card.{fault_number, is_accepted, has_head, is_whole, Reader, Reading, begun, fed, taken, at_end, loaded_as, file_of, judged, written_to, saved_as, Saved}
use Rattle.card.proofs.Fields.{and_false}
use Rattle.card.proofs.Parts.{fed-append}
use Rattle.card.proofs.Bound.{written_bound}
use Rattle.card_reader.specs.declared.CardReader.{CardReader}
use Rattle.card_reader.specs.declared.Loaded.{Loaded}
use Rattle.card_reader.specs.Reader.{Opens, Feeds, TakesPart, Loads}
use Rattle.card_writer.specs.Writer.{Saves}
use Rattle.desk.specs.declared.Desk.{Desk}
use Rattle.desk.specs.declared.Answered.{Answered}
use Rattle.desk.specs.Desk.{Table, Turn, desk_of, table_of, SoundDesk, Spoken, file_line, saved_line, events_stored, loaded_turn, loading_by, loading, ReadsFile}

-- ---- written

-- the file that a parameter is
abbrev pub file_of_param : AudioParam → List Float → List ℕ
file_of_param p store = file_of (param_of p).bounds (attached (param_of p).queue store)

-- what is printed, and that an answered file is in front of the slice
abbrev pub Prints : AudioParam → List Float → Judged → List ℕ → Judged → Type 0
Prints p store r after j =
    (saved_line r (take r.at after) ≡ saved_line j (file_of_param p store))
    × (r.verdict ≡ Ok tt → (r.at ≤ length after) × (r.at ≤ 17867))

module _ (p : AudioParam) (store : List Float) (out : List ℕ) {r : Judged} {after : List ℕ} where
  by_verdict : (j : Judged) (v : Result Unit Fault) → length (file_of_param p store) ≤ 17867 → 17867 ≤ length out → j.verdict ≡ v
      → record { says = r; out = after } ≡ saved_as j out (file_of_param p store) → Prints p store r after j
  unfolding saved_as is_accepted written_to file_line
  by_verdict j (Ok _) bound room h e =
      let file : List ℕ = file_of_param p store in
      let fits : length file ≤ length out = omega (arith, bound, room) in
      let wrote : ◌≡◌ {A = Saved} (record { says = r; out = after }) (record { says = record { verdict = Ok tt; at = length file }; out = file ++ drop (length file) out }) = rw (h, le-leb (length file) (length out) fits) at e in
      let said : r ≡ record { verdict = (Ok tt); at = length file } = ap (λ (s : Saved). s.says) wrote in
      let left : after ≡ file ++ drop (length file) out = ap (λ (s : Saved). s.out) wrote in
      let at : r.at ≡ length file = ap (λ (x : Judged). x.at) said in (
        rw (said, left, h) (ap saved_text (take_at file (drop (length file) out) (length file) refl)),
        λ answered. (omega (arith, at, ap length left, length-append file (drop (length file) out)), omega (arith, at, bound)),
      )
  by_verdict j (Err f) bound room h e =
      let kept : ◌≡◌ {A = Saved} (record { says = r; out = after }) (record { says = j; out = out }) =
      e ∙ ap (λ (b : Bool). cond b (written_to out (file_of_param p store)) (record { says = j; out = out })) (ap is_accepted h)
      in
      let said : r ≡ j = ap (λ (s : Saved). s.says) kept in
      (rw (said, h), λ answered. absurd (let z : ◌≡◌ {A = ℕ} 0 1 = cc in omega arith))

  pub prints : SoundParam p → length store ≡ store_length → 17867 ≤ length out → Saves p store out r after → Prints p store r after (judged (param_of p) store)
  unfolding card.saved
  prints ok long room s = by_verdict (judged (param_of p) store) (judged (param_of p) store).verdict (written_bound (param_of p) store ok.sound long) room refl s.saved

-- ---- read

pub opened_rate : {rate : AutomationRate} {n : ℕ} {r : CardReader} {numbers : List Float} → Opens rate n r numbers → r.rate ≡ rate
opened_rate o = ap (λ (r : Reader). r.rate) o.reader

-- before the first part
pub opened_reads : {rate : AutomationRate} {n : ℕ} {r : CardReader} {numbers : List Float} (window : List ℕ) → length window ≡ 65538 → Opens rate n r numbers
    → ReadsFile r.rate n [] r numbers window
unfolding fed taken is_accepted is_whole has_head
opened_reads {rate} {n} {r} {numbers} window long o =
    subst (λ (q : AutomationRate). ReadsFile q n [] r numbers window) (sym (opened_rate o))
    (record {
      reading = same o.reader (ap (λ (k : ℕ). take k window) o.held);
      sound = o.sound;
      fits = record { long = long; room = omega (arith, o.held); waits = ap (λ (k : ℕ). is_accepted r.verdict && is_whole (take k window)) o.held ∙ and_false (is_accepted r.verdict) };
    })
  where
    same : {r s : Reader} {a b : List ℕ} → r ≡ s → a ≡ b → ◌≡◌ {A = Reading} (record { reader = r; rest = a }) (record { reader = s; rest = b })
    same e f = rw (e, f)

-- one part more
pub part_reads : {rate : AutomationRate} {n : ℕ} {r q : CardReader} {numbers after : List Float} {window left : List ℕ} {f : Option CardReader} (file : List ℕ) (from to : ℕ) → from ≤ to
    → to - from ≤ 65536 → ReadsFile rate n (take from file) r numbers window
    → TakesPart (leb (length (take (to - from) (drop from file))) 65536) (take (to - from) (drop from file)) r numbers window f after left
    → f ≡ Some q → ReadsFile rate n (take to file) q after left
unfolding TakesPart
part_reads {rate} {n} {r} {q} {numbers} {after} {window} {left} {f} file from to h few k t e =
    let part : List ℕ = take (to - from) (drop from file) in
    let short : length part ≤ 65536 = simp length-take (omega (arith, few)) in
    let one = rw (le-leb (length part) 65536 short) at t in
    let same : one.0 ≡ q = cc (one.1, e) in
    let feeds : Feeds part r numbers window q after left = rw same at one.2 in
    let end : from + (to - from) ≡ to = omega arith in
    let both : take from file ++ part ≡ take to file = sym (take-add from (to - from) file) ∙ ap (λ (m : ℕ). take m file) end in
    record {
      reading = feeds.reading ∙ ap (λ (s : Reading). fed s part) k.reading ∙ fed-append (begun rate n) (take from file) part ∙ ap (fed (begun rate n)) both;
      sound = feeds.sound;
      fits = feeds.fits;
    }

-- such a part is taken
pub part_taken : (r : CardReader) (numbers : List Float) (window : List ℕ) {f : Option CardReader} (after : List Float) (left : List ℕ) (file : List ℕ) (from to : ℕ) → to - from ≤ 65536
    → TakesPart (leb (length (take (to - from) (drop from file))) 65536) (take (to - from) (drop from file)) r numbers window f after left → f ≡ None → ⊥
unfolding TakesPart
part_taken r numbers window {f} after left file from to few t e =
    let part : List ℕ = take (to - from) (drop from file) in
    let short : length part ≤ 65536 = simp length-take (omega (arith, few)) in
    let one = rw (le-leb (length part) 65536 short) at t in
    let same : Some one.0 ≡ None = sym one.1 ∙ e in
    cc

-- ---- its end

-- each event of the file is stored
pub all_stored : (n : ℕ) → kept (plus nothing (command_seen 0 n)) ≡ kept (events_stored n)
unfolding plus command_seen
all_stored n = let none : 0 - n ≡ 0 = omega arith in rw (none, sub-zero n, zero-add n)

-- a refused one leaves the caller's
kept_as_was : (r : Reader) (p : Param) (store : List Float) {f : Fault} → (card.loaded r p store).says.verdict ≡ Err f → (card.loaded r p store).store ≡ store
unfolding card.loaded loaded_as
kept_as_was r p store {f} e = go (eqb (length store) store_length) r.verdict e
  where
    go : (b : Bool) (v : Result Unit Fault) → (cond b (loaded_as v r p store) (record { says = card.bad_store; param = p; store = store })).says.verdict ≡ Err f
        → (cond b (loaded_as v r p store) (record { says = card.bad_store; param = p; store = store })).store ≡ store
    go true (Ok _) e = absurd (let z : ◌≡◌ {A = ℕ} 0 1 = cc in omega arith)
    go true (Err g) e = refl
    go false v e = refl

-- the numbers behind the first 4,096 are cleared
pub cleared_behind : (after rest ys : List Float) → length after ≡ 4096 → length rest ≡ 4096
    → ys ≡ replicate (length (mid_of 4096 (length (after ++ rest) - 4096) (after ++ rest))) plus_zero → put_mid 4096 (length (after ++ rest) - 4096) (after ++ rest) ys ≡ after ++ replicate 4096 plus_zero
cleared_behind after rest ys a r e =
    let xs : List Float = after ++ rest in
    let long : length xs ≡ 4096 + 4096 = length-append after rest ∙ ap (λ (n : ℕ). n + length rest) a ∙ ap (λ (n : ℕ). 4096 + n) r in
    let mid : length (mid_of 4096 (length xs - 4096) xs) ≡ 4096 = mid_len 4096 (length xs) xs (le_refl (length xs)) ∙ omega (arith, long) in
    let none : post_of 4096 (length xs - 4096) xs ≡ [] = Post-is 4096 (length xs) xs (omega (arith, long)) ∙ drop_of_length-le xs (le_refl (length xs)) in
    ap (λ (z : List Float). z ++ (ys ++ post_of 4096 (length xs - 4096) xs)) (take_at after rest 4096 a)
    ∙ ap (λ (z : List Float). after ++ (ys ++ z)) none
    ∙ ap (λ (z : List Float). after ++ z) (append-nil ys ∙ e ∙ ap (λ (n : ℕ). replicate n plus_zero) mid)

-- by what the call does
by_turn : {most : ℕ} {turn : Table → Turn} {d : Desk} {s : List Float} {l : List ℕ} {at : ℕ} {r : Answered} {s' : List Float} {l' : List ℕ} (u : Turn) → turn (table_of d s) ≡ u
    → Spoken most (λ t. u) d s l at r s' l' → Spoken most turn d s l at r s' l'
by_turn u is k =
    record {
      param = k.param ∙ ap (λ (y : Turn). struct_of y.table.param) (sym is);
      lent = k.lent ∙ ap (λ (y : Turn). y.table.lent) (sym is);
      store = k.store ∙ ap (λ (y : Turn). y.table.store) (sym is);
      totals = k.totals ∙ ap (λ (y : Turn). y.table.totals) (sym is);
      text = put_same (ap (λ (y : Turn). y.text) (sym is)) k.text;
      sound = k.sound;
      room = k.room;
    }

module _ (s : Reading) (d : Desk) (store : List Float) {r : Loaded} {after : List Float} (ok : SoundDesk d) (a : Loads s d.param (take store_length store) r after) where
  abbrev given : card.Loaded
  given = card.loaded (at_end s) (param_of d.param) (take store_length store)

  turn_is : {v : Result Unit Fault} → given.says.verdict ≡ v → loading_by (at_end s) (table_of d store) ≡ loaded_turn v given (table_of d store)
  unfolding loading_by
  turn_is e = ap (λ (v : Result Unit Fault). loaded_turn v given (table_of d store)) e

  verdict_is : {v : Result Unit Fault} → r.says.verdict ≡ v → given.says.verdict ≡ v
  verdict_is h = ap (λ (j : Judged). j.verdict) (sym a.says) ∙ h

  pub answered_load : {l : List ℕ} {at n : ℕ} {t : Answered} {totals : Totals} {s' : List Float} {l' : List ℕ} → r.says.verdict ≡ Ok tt
      → t.desk ≡ desk_of r.param 4096 totals → totals ≡ kept (plus nothing (command_seen 0 n)) → n ≡ waiting_in (param_of r.param)
      → s' ≡ after ++ replicate 4096 plus_zero → Put l at (111 ∷ 107 ∷ []) l' t.next → Spoken 41999 (loading_by (at_end s)) d store l at t s' l'
  unfolding loaded_turn verdict_text
  answered_load {n = n} {t} {totals} h is count waits left p =
      let e = verdict_is h in
      let many : n ≡ waiting_in given.param = waits ∙ ap waiting_in (ap param_of a.param ∙ struct_back given.param) in
      by_turn _ (turn_is e)
      (record {
        param = ap (λ (x : Desk). x.param) is ∙ a.param;
        lent = ap (λ (x : Desk). x.lent) is;
        store = left ∙ ap (λ (x : List Float). x ++ replicate 4096 plus_zero) a.left;
        totals = ap (λ (x : Desk). x.totals) is ∙ count ∙ all_stored n ∙ ap (λ (k : ℕ). kept (events_stored k)) many;
        text = p;
        sound = subst SoundDesk (sym is) (record { param = a.sound; lent = omega arith });
        room = omega (arith, p.place);
      })

  pub refused_load : {f : Fault} {l : List ℕ} {at number : ℕ} {t : Answered} {s' : List Float} {l' : List ℕ} → r.says.verdict ≡ Err f
      → t.desk ≡ d → number ≡ fault_number f → s' ≡ after ++ drop store_length store → Put l at (fault_text number r.says.at) l' t.next → t.next ≤ at + 49
      → Spoken 41999 (loading_by (at_end s)) d store l at t s' l'
  unfolding loaded_turn
  refused_load {f} {t = t} h is number left p near =
      let e = verdict_is h in
      by_turn _ (turn_is e)
      (record {
        param = ap (λ (x : Desk). x.param) is ∙ whole d.param ok.param;
        lent = ap (λ (x : Desk). x.lent) is;
        store = left ∙ ap (λ (x : List Float). x ++ drop store_length store) (a.left ∙ kept_as_was (at_end s) (param_of d.param) (take store_length store) e) ∙ take-append-drop store_length store;
        totals = ap (λ (x : Desk). x.totals) is;
        text = put_same (ap (λ (k : ℕ). fault_text k r.says.at) number ∙ ap (λ (j : Judged). fault_text (fault_number f) j.at) a.says) p;
        sound = subst SoundDesk (sym is) ok;
        room = omega (arith, near);
      })

-- a whole file, in whatever parts it came
pub by_reading : {s : Reading} (rate : AutomationRate) (n : ℕ) (file : List ℕ) {d : Desk} {store : List Float} {l : List ℕ} {at : ℕ} {r : Answered} {s' : List Float} {l' : List ℕ}
    → s ≡ fed (begun rate n) file → Spoken 41999 (loading_by (at_end s)) d store l at r s' l' → Spoken 41999 (loading rate n file) d store l at r s' l'
unfolding loading card.read
by_reading rate n file {d} {store} {l} {at} {r} {s'} {l'} e k = subst (λ (x : Reading). Spoken 41999 (loading_by (at_end x)) d store l at r s' l') e k
