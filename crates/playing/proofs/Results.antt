-- Results that meet contracts which settle each answer are what the rules schedule and play; so demand 3 is theirs. Assumes nothing.
use Rattle.std.proofs.Common.{Result, Ok}
use Rattle.rules.specs.declared.Refusal.{Refusal}
use mathlib.Core.Path.{◌≡◌, refl, sym, ap, ap₂, ◌∙◌}
use mathlib.Core.List.{List, ◌∷◌, ◌++◌, map}
use Prim.Native.Nat.{ℕ}
use lib.ListN.{length, take, drop}
use lib.Ieee.{Float}
use Rattle.rules.specs.Block.{Call, Answer, Command, Called}
use Rattle.playing.specs.Play.{State, waiting, left_by_call, after_call, asked, scheduled, verdicts, left_by, answer_to, after, played, apart, told}
use Rattle.playing.specs.Demand.{behind, resumed, Holds, with_store, PlayedTheSame}
use Rattle.playing.specs.Results.{Results, none, more, last_left}
use Rattle.playing.proofs.Resume.{played_first}
use Rattle.playing.proofs.Demand.{first_blocks}

-- `state` is how the rules see what code passes on, and Ok what its contracts require of it
module _ {X A : Type 0} (state : X → State) (left : A → X) (Ok : X → Type 0) where
  -- ---- scheduling and cancelling

  module _ (called : A → Called) (Meets : X → Command → A → Type 0)
      (leaves : (r : A) → state (left r) ≡ left_by_call (called r))
      (settles : (x : X) (c : Command) (r : A) → Ok x → Meets x c r → (called r ≡ asked (state x) c) × Ok (left r)) where
    pub results_scheduled : {x : X} {cs : List Command} {rs : List A} → Ok x → Results left Meets x cs rs
        → (state (last_left left x rs) ≡ scheduled (state x) cs) × Ok (last_left left x rs)
    unfolding last_left scheduled after_call
    results_scheduled ok none = (refl, ok)
    results_scheduled {x} ok (more {c} {r} m rest) =
        let s : (called r ≡ asked (state x) c) × Ok (left r) = settles x c r ok m in
        let e : state (left r) ≡ after_call (state x) c = leaves r ∙ ap left_by_call s.0 in
        rw e at (results_scheduled s.1 rest)

    -- and say what the rules say
    pub results_verdicts : {x : X} {cs : List Command} {rs : List A} → Ok x → Results left Meets x cs rs → map (λ r. (called r).verdict) rs ≡ verdicts (state x) cs
    unfolding verdicts after_call
    results_verdicts ok none = refl
    results_verdicts {x} ok (more {c} {r} m rest) =
        let s : (called r ≡ asked (state x) c) × Ok (left r) = settles x c r ok m in
        let e : state (left r) ≡ after_call (state x) c = leaves r ∙ ap left_by_call s.0 in
        ap₂ (λ (v : Result Unit Refusal) (vs : List (Result Unit Refusal)). v ∷ vs) (ap (λ (a : Called). a.verdict) s.0) (rw e at (results_verdicts s.1 rest))

  -- ---- blocks

  module _ (answer : A → Answer) (Meets : X → Call → A → Type 0) (leaves : (r : A) → state (left r) ≡ left_by (answer r))
      (settles : (x : X) (c : Call) (r : A) → Ok x → Meets x c r → (answer r ≡ answer_to (state x) c) × Ok (left r)) where
    pub results_played : {x : X} {cs : List Call} {rs : List A} → Ok x → Results left Meets x cs rs → map answer rs ≡ played (state x) cs
    unfolding played after
    results_played ok none = refl
    results_played {x} ok (more {c} {r} m rest) =
        let s : (answer r ≡ answer_to (state x) c) × Ok (left r) = settles x c r ok m in
        let e : state (left r) ≡ after (state x) c = leaves r ∙ ap left_by s.0 in
        ap₂ (λ (b : Answer) (bs : List Answer). b ∷ bs) s.0 (rw e at (results_played s.1 rest))

    -- demand 3 of such lists: rs from x and us from y over all blocks, and vs over the rest of them from z, which is x resumed as y with any store that holds its curves
    pub results_the_same : {x y z : X} {m : ℕ} {all cs : List Call} {rs us vs : List A} → PlayedTheSame m (state x) (state y) all cs → (store : List Float)
        → Holds (waiting (resumed m (state x) (state y) cs)) store → state z ≡ with_store store (resumed m (state x) (state y) cs) → Ok x → Ok y → Ok z → Results left Meets x all rs → Results left Meets y all us
        → Results left Meets z (drop (length cs) all) vs
        → (map apart (take (length cs) (map answer rs)) ≡ map apart (take (length cs) (map answer us)))
        × (map told (drop (length cs) (map answer us)) ≡ map told (map answer vs))
    results_the_same {x} {y} {z} {m} {all} {cs} same store holds is okx oky okz rx ry rz =
        let whole : cs ++ drop (length cs) all ≡ all = rw same.first at (first_blocks (behind m (state x)) (state x) all) in
        let firsts : (s : State) → take (length cs) (played s all) ≡ played s cs =
        λ s. ap (λ (l : List Call). take (length cs) (played s l)) (sym whole) ∙ played_first s cs (drop (length cs) all) in
        rw
        (results_played okx rx, results_played oky ry, results_played okz rz, is, firsts (state x), firsts (state y))
        (same.heard, same.rest store holds)
