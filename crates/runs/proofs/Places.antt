-- What is seen of the phases of a run, sixteen a turn. Assumes nothing.
use Rattle.std.proofs.Common.{◌≡◌, ℕ, ◌+◌, ◌<◌, List, length, get_or, sym, ap, ◌∙◌, subst, arith}
use lib.Ieee.{Float, nan}
use Rattle.rules.specs.Numbers.{run}
use Rattle.rules.specs.Samples.{phase_of}
use Rattle.runs.specs.After.{after}
use Rattle.runs.specs.Each.{Each, Maps}
use Rattle.runs.proofs.Filling.{after_more, run_length, run_at}

-- the times of a run that goes on where another ends are the other's too
pub after_on : (dt time : Float) (i k : ℕ) (t : Float) → t ≡ after dt i time → after dt k t ≡ after dt (i + k) time
after_on dt time i k t e = let swap : k + i ≡ i + k = omega arith in ap (after dt k) e ∙ sym (after_more dt k i time) ∙ ap (λ (j : ℕ). after dt j time) swap

module _ {B : Type 0} (R : Float → B → Type 0) (start duration dt time : Float) (i : ℕ) (t : Float) (e : t ≡ after dt i time) where
  -- and so are its phases
  pub on : (n : ℕ) (bs : List B) → Each (λ k b. R (phase_of start duration (after dt k t)) b) n bs → Each (λ k b. R (phase_of start duration (after dt (i + k) time)) b) n bs
  on n bs h = record { at = λ k d l. subst (λ (u : Float). R (phase_of start duration u) (get_or bs k d)) (after_on dt time i k t e) (h.at k d l) }

  pub mapped : (n : ℕ) (xs : List Float) (bs : List B) → xs ≡ run (phase_of start duration) dt n t → Maps R xs bs → Each (λ k b. R (phase_of start duration (after dt (i + k) time)) b) n bs
  mapped n xs bs f m =
      on n bs
      (record {
        at = λ k d l.
            subst (λ (u : Float). R u (get_or bs k d))
            (ap (λ (l : List Float). get_or l k nan) f ∙ run_at (phase_of start duration) dt n k t nan l)
            (m.at k nan d (subst (λ (j : ℕ). k < j) (sym (ap length f ∙ run_length (phase_of start duration) dt n t)) l));
      })
