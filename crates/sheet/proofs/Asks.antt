-- What the calls of a row do, by what the parameter's own calls ensure. Assumes nothing.
use Rattle.std.proofs.Common.{Ok}
use mathlib.Core.Path.{◌≡◌, refl, sym, ap, ap₂, ◌∙◌}
use mathlib.Core.List.{List, [], ◌∷◌}
use Rattle.std.specs.Prelude.{Option, None, Some}
use lib.Ieee.{Float}
use Rattle.rules.specs.Block.{Param, made, Called, Command, called, step, linear, exponential, curve, cancel, hold}
use Rattle.laws.proofs.Answers.{unlent}
use Rattle.param.specs.declared.AudioParam.{AudioParam}
use Rattle.param.specs.declared.Outcome.{Outcome}
use Rattle.param.specs.Param.{param_of, struct_of, SoundParam, Makes, Answers}
use Rattle.param.proofs.Calls.{whole, struct_back}
use Rattle.sheet.specs.declared.Call.{Call}
use Rattle.sheet.specs.declared.Row.{Row}
use Rattle.sheet.specs.Played.{applied, set_up, Applies, SetsUp}

-- ---- one call

-- by a call that is not lent the store
abbrev with_store : List Float → Called → Called
with_store s x = record { verdict = x.verdict; param = x.param; store = s }

module _ {p : AudioParam} {s : List Float} {c : Option Call} where
  pub asks_nothing : SoundParam p → c ≡ None → Applies p s c (record { verdict = (Ok tt); param = p }) s
  unfolding applied
  asks_nothing sound h = rw h (record { verdict = refl; param = whole p sound; left = refl; sound = sound })

  module _ {k : Command} {r : Outcome} where
    lent : {after : List Float} → applied (param_of p) s c ≡ called (param_of p) s k → Answers p s k r after → Applies p s c r after
    lent e a =
        record {
          verdict = a.verdict ∙ ap (λ (x : Called). x.verdict) (sym e);
          param = a.param ∙ ap (λ (x : Called). struct_of x.param) (sym e);
          left = a.left ∙ ap (λ (x : Called). x.store) (sym e);
          sound = a.sound;
        }

    scheduled : applied (param_of p) s c ≡ with_store s (called (param_of p) [] k) → Answers p [] k r [] → Applies p s c r s
    scheduled e a =
        record {
          verdict = a.verdict ∙ ap (λ (x : Called). x.verdict) (sym e);
          param = a.param ∙ ap (λ (x : Called). struct_of x.param) (sym e);
          left = ap (λ (x : Called). x.store) (sym e);
          sound = a.sound;
        }

  module _ {v t : Float} {r : Outcome} where
    pub asks_step : c ≡ Some (Call.Step v t) → Answers p [] (step v t) r [] → Applies p s c r s
    unfolding applied called
    asks_step h a = scheduled (rw h (unlent _ (param_of p) s _)) a

    pub asks_linear : c ≡ Some (Call.Linear v t) → Answers p [] (linear v t) r [] → Applies p s c r s
    unfolding applied called
    asks_linear h a = scheduled (rw h (unlent _ (param_of p) s _)) a

    pub asks_exponential : c ≡ Some (Call.Exponential v t) → Answers p [] (exponential v t) r [] → Applies p s c r s
    unfolding applied called
    asks_exponential h a = scheduled (rw h (unlent _ (param_of p) s _)) a

  module _ {t : Float} {r : Outcome} {after : List Float} where
    pub asks_curve : {x y z d : Float} → c ≡ Some (Call.Curve x y z t d) → Answers p s (curve t d (x ∷ y ∷ z ∷ [])) r after → Applies p s c r after
    unfolding applied
    asks_curve h a = lent (rw h refl) a

    pub asks_hold : c ≡ Some (Call.Hold t) → Answers p s (hold t) r after → Applies p s c r after
    unfolding applied
    asks_hold h a = lent (rw h refl) a

    pub asks_cancel : c ≡ Some (Call.Cancel t) → Answers p s (cancel t) r after → Applies p s c r after
    unfolding applied
    asks_cancel h a = lent (rw h refl) a

-- ---- a row's calls

-- a call behind others, by what these leave
pub after-calls : {p : AudioParam} {q : Param} {s t after : List Float} {c : Option Call} {r : Outcome} → Applies p s c r after → param_of p ≡ q → s ≡ t
    → (param_of r.param ≡ (applied q t c).param) × (after ≡ (applied q t c).store)
after-calls {c = c} a here there =
    (ap param_of a.param ∙ struct_back _ ∙ ap₂ (λ (x : Param) (y : List Float). (applied x y c).param) here there, a.left ∙ ap₂ (λ (x : Param) (y : List Float). (applied x y c).store) here there)

module _ {row : Row} {s s₁ s₂ s₃ : List Float} {m r₁ r₂ r₃ : Outcome} where
  pub sets_up : Makes row.bounds row.rate 1 m → Applies m.param s row.first r₁ s₁ → Applies r₁.param s₁ row.second r₂ s₂
      → Applies r₂.param s₂ row.third r₃ s₃ → SetsUp row s r₃.param s₃
  unfolding set_up
  sets_up as-made a b c =
      let p₀ : param_of m.param ≡ made row.bounds row.rate 1 = ap param_of as-made.param ∙ struct_back _ in
      let one = after-calls a p₀ refl in
      let two = after-calls b one.0 one.1 in
      let three = after-calls c two.0 two.1 in
      record { param = whole _ c.sound ∙ ap struct_of three.0; left = three.1; sound = c.sound }
