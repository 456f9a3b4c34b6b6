-- 02, C-20, of the code: any list of results, each of which meets the contract for the parameter that the one before left, has the totals of the rules' session, and so
-- their sums. Assumes nothing.
use mathlib.Core.Path.{◌≡◌, refl, sym, ap, ◌∙◌, subst}
use mathlib.Core.List.{List, [], ◌∷◌}
use Prim.Native.Nat.{ℕ, zero, suc}
use lib.ListN.{take}
use Rattle.rules.specs.declared.Bounds.{Bounds}
use Rattle.rules.specs.declared.AutomationRate.{AutomationRate}
use Rattle.rules.specs.Block.{Param, Called, called, answered, made}
use Rattle.param.specs.declared.AudioParam.{AudioParam}
use Rattle.param.specs.declared.Outcome.{Outcome}
use Rattle.param.specs.Param.{param_of, SoundParam, Makes}
use Rattle.playing.specs.Play.{asked}
use Rattle.playing.specs.Results.{Results, none, more, last_left}
use Rattle.costs.specs.Costs.{Asked, command, block, left, left_by_all, waiting_in, cost_of, totals, Sums}
use Rattle.costs.specs.Seen.{command_seen, block_seen}
use Rattle.costs.proofs.Costs.{session_sums}
use Rattle.costs.proofs.Seen.{command_seen_lem, block_seen_lem}
use Rattle.demands.specs.Costs as Code
use Rattle.demands.specs.Costs.{Given, done, rendered, Meets, left_by_given, seen_of, seen_totals}
use Rattle.demands.proofs.Run.{back, call_settled}

-- ---- a call

-- what it leaves is the rules' parameter, and what is seen of it what it costs by the rules
record Settled (p : AudioParam) (a : Asked) (g : Given) : Type 0 where
  param : param_of (left_by_given g) ≡ left (param_of p) a
  cost : seen_of p g ≡ cost_of (param_of p) a
  sound : SoundParam (left_by_given g)

settled : (p : AudioParam) (a : Asked) (g : Given) → SoundParam p → Meets p a g → Settled p a g
unfolding left_by_given seen_of left cost_of asked
settled p (command store c) (done r) ok (Code.called m) =
    let s = call_settled (record { param = p; store = store }) c r ok m in
    let e : param_of r.outcome.param ≡ (called (param_of p) store c).param = ap (λ (k : Called). k.param) s.0 in
    record {
      param = e;
      cost = ap (λ (q : Param). command_seen (waiting_in (param_of p)) (waiting_in q)) e ∙ command_seen_lem (param_of p) store c ok.sound;
      sound = s.1;
    }
settled p (block store c) (rendered r) ok (Code.played m) =
    let e : param_of r.result.param ≡ (answered (param_of p) store c).param = back m.param in
    record {
      param = e;
      cost =
          ap (λ (q : Param). block_seen r.result.verdict r.result.steps (waiting_in (param_of p)) (waiting_in q)) e
          ∙ rw (m.verdict, m.steps) (block_seen_lem (param_of p) store c);
      sound = m.sound;
    }
settled p (command store c) (rendered r) ok x = elim x [ ]
settled p (block store c) (done r) ok x = elim x [ ]

-- ---- a session

abbrev Session : AudioParam → List Asked → List Given → Type 0
Session = Results left_by_given Meets

session_settled : (p : AudioParam) (calls : List Asked) (gs : List Given) → SoundParam p → Session p calls gs
    → (seen_totals p gs ≡ totals (param_of p) calls) × (param_of (last_left left_by_given p gs) ≡ left_by_all (param_of p) calls)
unfolding seen_totals totals last_left left_by_all
session_settled p [] [] ok none = (refl, refl)
session_settled p [] (g ∷ gs) ok x = elim x [ ]
session_settled p (a ∷ calls) [] ok x = elim x [ ]
session_settled p (a ∷ calls) (g ∷ gs) ok (more m rest) =
    let one = settled p a g ok m in
    let all = session_settled (left_by_given g) calls gs one.sound rest in
    (rw (one.cost, all.0, one.param), all.1 ∙ ap (λ (q : Param). left_by_all q calls) one.param)

first_results : (k : ℕ) (p : AudioParam) (calls : List Asked) (gs : List Given) → Session p calls gs → Session p (take k calls) (take k gs)
first_results zero p calls gs r = none
first_results (suc k) p [] [] none = none
first_results (suc k) p [] (g ∷ gs) r = elim r [ ]
first_results (suc k) p (a ∷ calls) [] r = elim r [ ]
first_results (suc k) p (a ∷ calls) (g ∷ gs) (more m rest) = more m (first_results k (left_by_given g) calls gs rest)

-- behind each of its first calls
pub what_a_session_costs_of_code : {b : Bounds} {rate : AutomationRate} {n : ℕ} {o : Outcome} → Makes b rate n o → {calls : List Asked} {gs : List Given}
    → Session o.param calls gs → (k : ℕ)
    → (seen_totals o.param (take k gs) ≡ totals (made b rate n) (take k calls))
    × Sums (seen_totals o.param (take k gs)) (waiting_in (param_of (last_left left_by_given o.param (take k gs))))
what_a_session_costs_of_code {b} {rate} {n} {o} makes {calls} {gs} results k =
    let all = session_settled o.param (take k calls) (take k gs) makes.sound (first_results k o.param calls gs results) in
    let made_is : param_of o.param ≡ made b rate n = back makes.param in
    let same : seen_totals o.param (take k gs) ≡ totals (made b rate n) (take k calls) = all.0 ∙ ap (λ (p : Param). totals p (take k calls)) made_is in
    let waits : param_of (last_left left_by_given o.param (take k gs)) ≡ left_by_all (made b rate n) (take k calls) = all.1 ∙ ap (λ (p : Param). left_by_all p (take k calls)) made_is in
    (same, subst (λ (q : Param). Sums (seen_totals o.param (take k gs)) (waiting_in q)) (sym waits) (rw same (session_sums b rate n (take k calls))))
