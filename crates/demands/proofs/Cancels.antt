-- Two cancels are one, and so is any burst of them, of the code: whatever results meet the contracts (02, C-17). Assumes nothing.
use Rattle.std.proofs.Common.{Ok}
use mathlib.Core.Path.{◌≡◌, refl, sym, ap, ◌∙◌}
use mathlib.Core.List.{List, ◌++◌, map}
use lib.Ieee.{Float}
use Rattle.rules.specs.Block.{Command, cancel, Called}
use Rattle.param.specs.Param.{struct_of}
use Rattle.param.proofs.Calls.{whole}
use Rattle.playing.specs.Play.{State, asked, scheduled}
use Rattle.playing.specs.Cancels.{earlier_of, burst, accepted_times, one_cancel, TwoAreOne, CancelsAreOne}
use Rattle.playing.specs.Results.{Results, none, more, last_left}
use Rattle.playing.proofs.Cancels.{cancels_are_one}
use Rattle.playing.proofs.Results.{results_verdicts}
use Rattle.demands.specs.Run.{Held, state_of, Done, left_by_done, called_by, MeetsCall}
use Rattle.demands.proofs.Run.{Fine, call_settled, code_schedules}

-- a sound struct and its store are known by what they stand for
held_is : (x y : Held) → Fine x → Fine y → state_of x ≡ state_of y → x ≡ y
held_is x y okx oky e =
    let same : x.param ≡ y.param = whole x.param okx ∙ ap (λ (s : State). struct_of s.param) e ∙ sym (whole y.param oky) in
    let store : x.store ≡ y.store = ap (λ (s : State). s.store) e in
    rw (same, store)

module _ (h : Held) (ok : Fine h) where
  -- calls that leave one state by the rules leave one struct and one store
  left-same : {cs ds : List Command} {rs us : List Done} → scheduled (state_of h) cs ≡ scheduled (state_of h) ds
      → Results left_by_done MeetsCall h cs rs → Results left_by_done MeetsCall h ds us → last_left left_by_done h rs ≡ last_left left_by_done h us
  left-same same first second =
      let x = code_schedules ok first in
      let y = code_schedules ok second in
      held_is _ _ x.1 y.1 (x.0 ∙ same ∙ sym y.0)

  one : CancelsAreOne (state_of h)
  one = cancels_are_one (state_of h) ok.sound

  -- a burst, and one cancel at the earliest of its accepted times
  pub burst_of_code : (ts : List Float) {rs us : List Done} → Results left_by_done MeetsCall h (burst ts) rs
      → Results left_by_done MeetsCall h (one_cancel (accepted_times (state_of h) ts)) us → last_left left_by_done h rs ≡ last_left left_by_done h us
  burst_of_code ts = left-same (one.many ts)

  pub burst_again_of_code : (ts : List Float) {rs us : List Done} → Results left_by_done MeetsCall h (burst ts ++ burst ts) rs
      → Results left_by_done MeetsCall h (burst ts) us → last_left left_by_done h rs ≡ last_left left_by_done h us
  burst_again_of_code ts = left-same (one.again ts)

  -- each of a burst is answered, or refused, as it would be if it came first
  pub burst_heard_of_code : (ts : List Float) {rs : List Done} → Results left_by_done MeetsCall h (burst ts) rs
      → map (λ r. r.outcome.verdict) rs ≡ map (λ t. (asked (state_of h) (cancel t)).verdict) ts
  burst_heard_of_code ts results = results_verdicts state_of left_by_done Fine called_by MeetsCall (λ r. refl) call_settled ok results ∙ one.heard ts

  -- cancels at a and b, at b and a, and one at the earlier of the two; the code answers either where it comes first
  pub two_cancels_of_code : (a b : Float) (ra rb sb sa r : Done) → MeetsCall h (cancel a) ra → MeetsCall (left_by_done ra) (cancel b) rb → MeetsCall h (cancel b) sb
      → MeetsCall (left_by_done sb) (cancel a) sa → MeetsCall h (cancel (earlier_of a b)) r → ra.outcome.verdict ≡ Ok tt → sb.outcome.verdict ≡ Ok tt
      → (left_by_done rb ≡ left_by_done r) × (left_by_done sa ≡ left_by_done r)
  unfolding last_left
  two_cancels_of_code a b ra rb sb sa r first second third fourth single answered answered' =
      let says : (c : Float) (d : Done) → MeetsCall h (cancel c) d → d.outcome.verdict ≡ (asked (state_of h) (cancel c)).verdict =
      λ c d m. ap (λ (x : Called). x.verdict) (call_settled h (cancel c) d ok m).0 in
      let two : TwoAreOne (state_of h) a b = one.two a b (sym (says a ra first) ∙ answered) (sym (says b sb third) ∙ answered') in
      (left-same two.forth (more first (more second none)) (more single none), left-same two.back (more third (more fourth none)) (more single none))
