-- What a state gives, the call on that, and what is written: the exported call, whatever the call is. Assumes nothing.
use Rattle.std.proofs.Common.{Result, Ok, Err, is_ok}
use mathlib.Core.Path.{◌≡◌, refl, sym, ap, ◌∙◌}
use mathlib.Core.Bool.{true, false}
use mathlib.Core.List.{List}
use Prim.Native.Nat.{ℕ}
use native.Mathlib.Omega.{arith}
use lib.Dec.{eqb}
use lib.ListN.{length}
use lib.Ieee.{Float}
use borrow.Author.Tests.{eq-eqb, ne_eqb}
use Rattle.rules.specs.declared.AutomationRate.{AutomationRate}
use Rattle.rules.specs.declared.Bounds.{Bounds}
use Rattle.rules.specs.declared.Refusal.{Refusal}
use Rattle.rules.specs.Block.{Param, made, Command, Called, called, Call, Answer, answered}
use Rattle.laws.proofs.Tests.{clash}
use Rattle.param.specs.declared.AudioParam.{AudioParam}
use Rattle.param.specs.declared.Outcome.{Outcome}
use Rattle.param.specs.declared.Processed.{Processed}
use Rattle.param.specs.Param.{param_of, SoundParam, Makes, Answers}
use Rattle.param.specs.Processed.{Processes}
use Rattle.param.proofs.Calls.{struct_back}
use Rattle.param.proofs.Settled.{refused_same}
use Rattle.param.proofs.Blocks.{refused_keeps}
use Rattle.coding.specs.Coding.{state_length, param_in, is_state, state_of, Encodes}
use Rattle.coding.proofs.Read.{reads_back}
use Rattle.crackledray.specs.Exported.{bad_state, number_as, state_after, told, Played, played, Keeps, Begins, Tells, Plays, Closes}

-- ---- the test of an answer

ok_is : (v : Result Unit Refusal) → is_ok v ≡ true → v ≡ Ok tt
ok_is (Ok _) h = refl
ok_is (Err why) h = clash h refl

-- ---- the state of a parameter

module _ {p : AudioParam} {s after : List ℕ} (f : SoundParam p) (long : length s ≡ state_length) (e : Encodes p s after) where
  pub closes_answered : (v : Result Unit Refusal) {n : ℕ} → n ≡ number_as v → is_ok v ≡ true → Closes v (param_of p) s n after
  unfolding state_after
  closes_answered v h z = record { number = h; state = rw (ok_is v z) e.is; reads = λ t. reads_back f long e }

pub closes_refused : (v : Result Unit Refusal) {n : ℕ} (p : Param) (s : List ℕ) → n ≡ number_as v → is_ok v ≡ false → Closes v p s n s
unfolding number_as state_after
closes_refused (Ok _) p s h z = clash refl z
closes_refused (Err why) p s h z =
    record { number = h; state = refl; reads = λ t. let z : ◌≡◌ {A = ℕ} 0 1 = cc in absurd (omega arith) }

-- ---- the constructor

pub begins_bad : (s : List ℕ) (b : Bounds) (rate : AutomationRate) (edition : ℕ) → (length s ≡ state_length → ⊥) → Begins s b rate edition bad_state s
begins_bad s b rate edition h =
    let e : eqb (length s) state_length ≡ false = ne_eqb (length s) state_length h in
    record { number = rw e; state = rw e; reads = λ t. absurd (h t) }

pub begins : {s after : List ℕ} {b : Bounds} {rate : AutomationRate} {edition : ℕ} {m : Outcome} {n : ℕ} → length s ≡ state_length → Makes b rate edition m → Encodes m.param s after
    → n ≡ number_as m.verdict → Begins s b rate edition n after
begins {s} {after} {b} {rate} {edition} {m} long made-it e h =
    let t : eqb (length s) state_length ≡ true = eq-eqb (length s) state_length long in
    let is : param_of m.param ≡ made b rate edition = ap param_of made-it.param ∙ struct_back (made b rate edition) in
    let back = reads_back made-it.sound long e in
    record {
      number = rw t (h ∙ ap number_as made-it.verdict);
      state = rw t (e.is ∙ ap (λ (p : Param). state_of p s) is);
      reads = λ _. (back.0, back.1 ∙ is);
    }

-- ---- a call

pub tells_bad : {s : List ℕ} {store : List Float} {c : Command} → is_state s ≡ false → Tells s store c bad_state s store
unfolding told
tells_bad h = record { says = rw h; reads = λ t. clash t h }

pub plays_bad : {s : List ℕ} {store : List Float} {c : Call} (before : Played) → is_state s ≡ false → before.state ≡ s → Plays s store c before before
unfolding played
plays_bad before h e = record { says = rw h; reads = λ t. clash t h }

module _ {s : List ℕ} {p : AudioParam} (x : Keeps s p) where
  module _ {store left : List Float} {c : Command} {r : Outcome} {n : ℕ} {after : List ℕ} (a : Answers p store c r left)
      (k : Closes r.verdict (param_of r.param) s n after) where
    abbrev answer : Called
    answer = called (param_in s) store c

    verdict : r.verdict ≡ answer.verdict
    verdict = a.verdict ∙ ap (λ (p : Param). (called p store c).verdict) x.is

    param : param_of r.param ≡ answer.param
    param = ap param_of a.param ∙ struct_back _ ∙ ap (λ (p : Param). (called p store c).param) x.is

    left_is : left ≡ answer.store
    left_is = a.left ∙ ap (λ (p : Param). (called p store c).store) x.is

    state_reads : (is_state after ≡ true) × (param_in after ≡ answer.param)
    state_reads = go r.verdict refl
      where
        go : (v : Result Unit Refusal) → r.verdict ≡ v → (is_state after ≡ true) × (param_in after ≡ answer.param)
        go (Ok _) e = let b = k.reads e in (b.0, b.1 ∙ param)
        go (Err why) e =
            let same : after ≡ s = k.state ∙ unfold state_after in rw e in
            let kept = (refused_same x.sound a e).0 in
            (rw same x.good, ap param_in same ∙ sym x.is ∙ ap param_of (sym kept) ∙ param)

    pub tells : Tells s store c n after left
    unfolding told
    tells = record { says = rw x.good (rw (k.number, k.state, verdict, param, left_is)); reads = λ t. state_reads }

  -- ---- a block

  module _ {store left output : List Float} {c : Call} {r : Processed} {n : ℕ} {after : List ℕ} (before : Played)
      (a : Processes p store c r output left) (k : Closes r.verdict (param_of r.param) s n after) where
    abbrev block : Answer
    block = answered (param_in s) store c

    by : {A : Type 0} (f : Answer → A) → f (answered (param_of p) store c) ≡ f block
    by f = ap (λ (p : Param). f (answered p store c)) x.is

    block_verdict : r.verdict ≡ block.verdict
    block_verdict = a.verdict ∙ by (λ (y : Answer). y.verdict)

    block_param : param_of r.param ≡ block.param
    block_param = ap param_of a.param ∙ struct_back _ ∙ by (λ (y : Answer). y.param)

    block_reads : (is_state after ≡ true) × (param_in after ≡ block.param)
    block_reads = go r.verdict refl
      where
        go : (v : Result Unit Refusal) → r.verdict ≡ v → (is_state after ≡ true) × (param_in after ≡ block.param)
        go (Ok _) e = let b = k.reads e in (b.0, b.1 ∙ block_param)
        go (Err why) e =
            let same : after ≡ s = k.state ∙ unfold state_after in rw e in
            let kept = ap (λ (y : Processed). y.param) (refused_keeps a x.sound e).0 in
            (rw same x.good, ap param_in same ∙ sym x.is ∙ ap param_of (sym kept) ∙ block_param)

    pub plays : Plays s store c before (record { number = n; state = after; store = left; output = output; steps = r.steps; current = r.current; one = r.one })
    unfolding played
    plays =
        record {
          says =
              rw x.good
              (rw (k.number, k.state, block_verdict, block_param, a.left ∙ by (λ (y : Answer). y.store), a.written ∙ by (λ (y : Answer). y.output), a.steps ∙ by (λ (y : Answer). y.steps), a.current ∙ by (λ (y : Answer). y.current), a.one ∙ by (λ (y : Answer). y.one_valued)));
          reads = λ t. block_reads;
        }
