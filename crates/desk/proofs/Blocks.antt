-- From what the parameter's block ensures to what a session's block ensures. Assumes nothing.
use Rattle.std.proofs.Common.{Result, Ok, Err}
use mathlib.Core.Path.{◌≡◌, sym, ap, ◌∙◌, subst}
use mathlib.Core.Bool.{Bool}
use mathlib.Core.List.{List, ◌++◌}
use Prim.Native.Nat.{ℕ, ◌+◌, ◌-◌, ◌≤◌}
use native.Mathlib.Omega.{arith}
use native.Mathlib.Nat.{le_trans}
use lib.ListN.{length, take, drop, replicate, length-replicate, replicate-append-replicate}
use lib.Seq.{take_at, length-take-le}
use lib.Ieee.{Float, binary32, of_bits}
use Rattle.rules.specs.declared.Refusal.{Refusal}
use Rattle.rules.specs.Block as rule
use Rattle.rules.specs.Block.{Param, answered}
use Rattle.laws.proofs.Rows.{ceiling_most}
use Rattle.laws.proofs.Answers.{given}
use Rattle.text.specs.Put.{Put}
use Rattle.text.proofs.Writing.{put_same}
use Rattle.answers.specs.Answers.{verdict_text, block_text, list_text, rest_text, are_marks}
use Rattle.answers.proofs.Lists.{list_length}
use Rattle.param.specs.declared.Processed.{Processed}
use Rattle.param.specs.Param.{param_of}
use Rattle.param.specs.Processed.{Processes}
use Rattle.param.proofs.Blocks.{verdict_is, length-kept}
use Rattle.param.proofs.Calls.{struct_back}
use Rattle.costs.specs.declared.Totals.{Totals}
use Rattle.costs.specs.Costs.{waiting_in, plus, block_cost}
use Rattle.costs.specs.Seen.{block_seen}
use Rattle.costs.proofs.Seen.{block_seen_lem}
use Rattle.tally.specs.Tally.{kept}
use Rattle.desk.specs.declared.Desk.{Desk}
use Rattle.desk.specs.declared.Answered.{Answered}
use Rattle.desk.specs.Desk.{desk_of, after_block, SoundDesk, Spoken, block_line, playing, marks}

-- ---- its text

module _ {v : Result Unit Refusal} (count steps : ℕ) (current : Float) (one : Bool) (output : List Float) {rest : Bool} where
  pub answered_line : v ≡ Ok tt → rest ≡ are_marks (drop count output)
      → block_text steps current one ++ (list_text 32 32 (take count output) ++ rest_text rest) ≡ block_line v count steps current one output
  unfolding block_line
  answered_line h e = rw (h, e)

  pub refused_line : {why : Refusal} → v ≡ Err why → rest ≡ are_marks (drop 0 output) → verdict_text v ++ rest_text rest ≡ block_line v count steps current one output
  unfolding block_line
  refused_line h e = rw (h, e)

-- its samples take no more than 9216 characters
pub samples_room : (count : ℕ) (output : List Float) → (count ≤ 1024) × (count ≤ length output) → (length (take count output) ≤ 1024) × (length (list_text 32 32 (take count output)) ≤ 9216)
samples_room count output h =
    let n = length-take-le count output h.1 in
    (omega (arith, n, h.0), omega (arith, n, h.0, list_length 32 32 (take count output)))

-- ---- its effect

module _ (time period : Float) (count : ℕ) (input output : List Float) (d : Desk) (s : List Float) {r : Processed} {output' after : List Float}
    (a : Processes d.param (take d.lent s) (record { time = time; period = period; count = count; input = input; output = output }) r output' after) where
  abbrev asks : rule.Call
  asks = record { time = time; period = period; count = count; input = input; output = output }

  -- where it is answered, its samples are no more than 1,024, under either edition, and the output holds them
  pub block_fits : r.verdict ≡ Ok tt → (count ≤ 1024) × (count ≤ length output')
  block_fits h =
      let g = given (param_of d.param) (take d.lent s) asks (sym (verdict_is a) ∙ h) in
      (le_trans g.few (ceiling_most d.param.edition), rw (length-kept a h) g.room)

  -- what is seen of it is what it costs
  counted : after_block d r ≡ kept (plus d.totals (block_cost (answered (param_of d.param) (take d.lent s) asks)))
  counted =
      let p : Param = param_of d.param in
      let is : param_of r.param ≡ (answered p (take d.lent s) asks).param = ap param_of a.param ∙ struct_back _ in
      ap (λ (q : Param). kept (plus d.totals (block_seen r.verdict r.steps (waiting_in p) (waiting_in q)))) is
      ∙ rw (a.verdict, a.steps) (ap (λ (u : Totals). kept (plus d.totals u)) (block_seen_lem p (take d.lent s) asks))

  pub played : {l l' : List ℕ} {at next : ℕ} {k : Desk} → SoundDesk d → k ≡ desk_of r.param d.lent (after_block d r)
      → Put l at (block_line r.verdict count r.steps r.current r.one output') l' next → next ≤ at + 9259
      → Spoken 41999 (playing time period count input output) d s l at (record { desk = k; next = next }) (after ++ drop d.lent s) l'
  unfolding playing
  played ok e p near =
      record {
        param = ap (λ (x : Desk). x.param) e ∙ a.param;
        lent = ap (λ (x : Desk). x.lent) e;
        store = ap (λ (x : List Float). x ++ drop d.lent s) a.left;
        totals = ap (λ (x : Desk). x.totals) e ∙ counted;
        text = put_same (rw (a.verdict, a.steps, a.current, a.one, a.written)) p;
        sound = subst SoundDesk (sym e) (record { param = a.sound; lent = ok.lent });
        room = omega (arith, near);
      }

-- ---- its output

-- the first of an array of marks
module _ (n len : ℕ) (h : len ≤ n) where
  pub marked : take len (replicate n (of_bits binary32 0x4b000000)) ≡ marks len
  unfolding marks
  marked =
      let v = of_bits binary32 0x4b000000 in
      let all : n ≡ len + (n - len) = omega arith in
      ap (λ (k : ℕ). take len (replicate k v)) all ∙ ap (take len) (sym (replicate-append-replicate len (n - len) v)) ∙ take_at (replicate len v) (replicate (n - len) v) len (length-replicate len v)

  pub marks_long : len ≡ length (take len (replicate n (of_bits binary32 0x4b000000)))
  marks_long = sym (length-take-le len (replicate n (of_bits binary32 0x4b000000)) (rw length-replicate h))

pub with_output : (time period : Float) (count : ℕ) (input : List Float) {xs ys : List Float} {d : Desk} {s : List Float} {l : List ℕ} {at : ℕ} {r : Answered} {s' : List Float} {l' : List ℕ}
    → xs ≡ ys → Spoken 41999 (playing time period count input xs) d s l at r s' l' → Spoken 41999 (playing time period count input ys) d s l at r s' l'
with_output time period count input {xs} {ys} {d} {s} {l} {at} {r} {s'} {l'} e spoken =
    subst (λ (o : List Float). Spoken 41999 (playing time period count input o) d s l at r s' l') e spoken
