-- What the exported calls settle: two results that a contract allows are the same; a bad state changes nothing; on the state of a parameter the exported call is
-- the call on that parameter. Assumes nothing.
use mathlib.Core.Path.{◌≡◌, sym, ap, ◌∙◌}
use mathlib.Core.Bool.{true, false}
use mathlib.Core.List.{List}
use Prim.Native.Nat.{ℕ}
use lib.Ieee.{Float}
use Rattle.rules.specs.declared.AutomationRate.{AutomationRate}
use Rattle.rules.specs.declared.Bounds.{Bounds}
use Rattle.rules.specs.Block.{Param, Command, called, Call, Answer, answered}
use Rattle.param.specs.declared.AudioParam.{AudioParam}
use Rattle.param.specs.declared.Outcome.{Outcome}
use Rattle.param.specs.declared.Processed.{Processed}
use Rattle.param.specs.Param.{param_of, Answers}
use Rattle.param.specs.Processed.{Processes}
use Rattle.param.proofs.Calls.{struct_back}
use Rattle.coding.specs.Coding.{param_in, is_state}
use Rattle.crackledray.specs.Exported.{bad_state, number_as, Told, told, Played, played, Begins, Tells, Plays}

-- ---- two results

pub begins_settled : {s after other : List ℕ} {b : Bounds} {rate : AutomationRate} {edition n m : ℕ} → Begins s b rate edition n after → Begins s b rate edition m other
    → (n ≡ m) × (after ≡ other)
begins_settled x y = (x.number ∙ sym y.number, x.state ∙ sym y.state)

pub tells_settled : {s after other : List ℕ} {store left rest : List Float} {c : Command} {n m : ℕ} → Tells s store c n after left → Tells s store c m other rest
    → (n ≡ m) × (after ≡ other) × (left ≡ rest)
tells_settled x y =
    let e = x.says ∙ sym y.says in
    (ap (λ (t : Told). t.number) e, ap (λ (t : Told). t.state) e, ap (λ (t : Told). t.store) e)

pub plays_settled : {s : List ℕ} {store : List Float} {c : Call} {before after other : Played} → Plays s store c before after → Plays s store c before other → after ≡ other
plays_settled x y = x.says ∙ sym y.says

-- ---- a state that fails its test

module _ (s : List ℕ) (bad : is_state s ≡ false) where
  pub call_changes_nothing : {store left : List Float} {c : Command} {n : ℕ} {after : List ℕ} → Tells s store c n after left
      → (n ≡ bad_state) × (after ≡ s) × (left ≡ store)
  unfolding told
  call_changes_nothing x =
      let e = rw bad at x.says in
      (ap (λ (t : Told). t.number) e, ap (λ (t : Told). t.state) e, ap (λ (t : Told). t.store) e)

  pub block_changes_nothing : {store : List Float} {c : Call} {before after : Played} → Plays s store c before after → after ≡ before
  unfolding played
  block_changes_nothing x = rw bad at x.says

-- ---- the state of a parameter

module _ (p : AudioParam) (s : List ℕ) (good : is_state s ≡ true) (is : param_in s ≡ param_of p) (store : List Float) where
  -- number and store are those of the call on p, and the state left is one of the call's parameter
  pub same_call : (c : Command) {left rest : List Float} {n : ℕ} {after : List ℕ} {r : Outcome} → Tells s store c n after left → Answers p store c r rest
      → (n ≡ number_as r.verdict) × (left ≡ rest) × (is_state after ≡ true) × (param_in after ≡ param_of r.param)
  unfolding told
  same_call c {r = r} x a =
      let e = rw good at x.says in
      let b = x.reads good in (
        ap (λ (t : Told). t.number) e ∙ ap (λ (q : Param). number_as (called q store c).verdict) is ∙ ap number_as (sym a.verdict),
        ap (λ (t : Told). t.store) e ∙ ap (λ (q : Param). (called q store c).store) is ∙ sym a.left,
        b.0,
        b.1 ∙ ap (λ (q : Param). (called q store c).param) is ∙ sym (ap param_of a.param ∙ struct_back (called (param_of p) store c).param),
      )

  -- the same of a block: samples, steps, current value and one-valued too
  pub same_block : (c : Call) {before after : Played} {r : Processed} {output rest : List Float} → Plays s store c before after → Processes p store c r output rest
      → (after.number ≡ number_as r.verdict) × (after.output ≡ output) × (after.store ≡ rest) × (after.steps ≡ r.steps) × (after.current ≡ r.current)
      × (after.one ≡ r.one) × (is_state after.state ≡ true) × (param_in after.state ≡ param_of r.param)
  unfolding played
  same_block c {before} {after} {r} x a =
      let e = rw good at x.says in
      let b = x.reads good in (
        ap (λ (t : Played). t.number) e ∙ by (λ (y : Answer). number_as y.verdict) ∙ ap number_as (sym a.verdict),
        ap (λ (t : Played). t.output) e ∙ by (λ (y : Answer). y.output) ∙ sym a.written,
        ap (λ (t : Played). t.store) e ∙ by (λ (y : Answer). y.store) ∙ sym a.left,
        ap (λ (t : Played). t.steps) e ∙ by (λ (y : Answer). y.steps) ∙ sym a.steps,
        ap (λ (t : Played). t.current) e ∙ by (λ (y : Answer). y.current) ∙ sym a.current,
        ap (λ (t : Played). t.one) e ∙ by (λ (y : Answer). y.one_valued) ∙ sym a.one,
        b.0,
        b.1 ∙ by (λ (y : Answer). y.param) ∙ sym (ap param_of a.param ∙ struct_back (answered (param_of p) store c).param),
      )
    where
      by : {A : Type 0} (f : Answer → A) → f (answered (param_in s) store c) ≡ f (answered (param_of p) store c)
      by f = ap (λ (q : Param). f (answered q store c)) is
