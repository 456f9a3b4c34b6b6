-- Answers that tell whether two things are the same. Assumes nothing.
use Rattle.std.proofs.Common.{Result, Ok, Err}
use Rattle.rules.specs.declared.Refusal.{Refusal}
use mathlib.Core.Path.{◌≡◌, refl, sym, ap, ◌∙◌, subst}
use mathlib.Core.Bool.{Bool, true, false, cond, ◌&&◌, beq}
use mathlib.Core.List.{List}
use Prim.Native.Nat.{ℕ}
use lib.Dec.{T, eqb}
use lib.Ieee.{Float, binary32, to_bits}
use borrow.Author.Tests.{eq-eqb, eqb-true}
use Rattle.rules.specs.Refusals.{number_of}
use Rattle.text.proofs.Reading.{and_true}
use Rattle.param.specs.declared.AudioParam.{AudioParam}
use Rattle.param.specs.declared.Processed.{Processed}
use Rattle.param.specs.Param.{param_of, struct_of, SoundParam}
use Rattle.param.proofs.Calls.{whole}
use Rattle.coding.specs.Coding.{param_in, state_of, Encodes}
use Rattle.beside.specs.Beside.{same_value, Tells, SameValue, number_for}

module _ {This : Type 0} where
  pub yes : This → Tells This true
  yes t = record { so = λ e. t; always = λ u. refl }

  pub no : (This → ⊥) → Tells This false
  no n = record { so = λ e. absurd (subst T (sym e) tt); always = λ t. absurd (n t) }

-- what is told of one thing is told of another that comes to the same
pub as_well : {This That : Type 0} {r : Bool} → (This → That) → (That → This) → Tells This r → Tells That r
as_well to back t = record { so = λ e. to (t.so e); always = λ u. t.always (back u) }

-- ---- a verdict by its number

verdict_at : ℕ → Result Unit Refusal
verdict_at n =
    cond (eqb n 0) (Ok tt) (cond (eqb n 1) (Err Refusal.Bounds) (cond (eqb n 2) (Err Refusal.NotFinite)
    (cond (eqb n 3) (Err Refusal.BeforeZero) (cond (eqb n 4) (Err Refusal.NotAbove) (cond (eqb n 5) (Err Refusal.ZeroTarget)
    (cond (eqb n 6) (Err Refusal.ShortCurve) (cond (eqb n 7) (Err Refusal.QueueFull) (cond (eqb n 8) (Err Refusal.StoreFull)
    (cond (eqb n 9) (Err Refusal.BadBlock) (cond (eqb n 10) (Err Refusal.OutOfOrder) (cond (eqb n 11) (Err Refusal.Inside)
    (cond (eqb n 12) (Err Refusal.UnknownEdition) (Err Refusal.BadStore)))))))))))))

back : (v : Result Unit Refusal) → verdict_at (number_for v) ≡ v
unfolding number_for number_of verdict_at
back (Ok _) = refl
back (Err Refusal.Bounds) = refl
back (Err Refusal.NotFinite) = refl
back (Err Refusal.BeforeZero) = refl
back (Err Refusal.NotAbove) = refl
back (Err Refusal.ZeroTarget) = refl
back (Err Refusal.ShortCurve) = refl
back (Err Refusal.QueueFull) = refl
back (Err Refusal.StoreFull) = refl
back (Err Refusal.BadBlock) = refl
back (Err Refusal.OutOfOrder) = refl
back (Err Refusal.Inside) = refl
back (Err Refusal.UnknownEdition) = refl
back (Err Refusal.BadStore) = refl

pub one_verdict : {v w : Result Unit Refusal} → number_for v ≡ number_for w → v ≡ w
one_verdict {v} {w} e = sym (back v) ∙ ap verdict_at e ∙ back w

-- ---- a parameter by its state, an answer by its parts

pub by_states : {p q : AudioParam} {s a b : List ℕ} {r : Bool} → SoundParam p → SoundParam q → Encodes p s a → Encodes q s b → Tells (a ≡ b) r → Tells (p ≡ q) r
by_states {p} {q} {s} sp sq ea eb t =
    as_well (λ e. whole p sp ∙ ap struct_of (sym ea.back ∙ ap param_in e ∙ eb.back) ∙ sym (whole q sq)) (λ e. ea.is ∙ ap (λ (x : AudioParam). state_of (param_of x) s) e ∙ sym eb.is) t

same_flag : (a b : Bool) → Tells (a ≡ b) (beq a b)
same_flag true true = yes refl
same_flag true false = no (λ e. subst T e tt)
same_flag false true = no (λ e. subst T (sym e) tt)
same_flag false false = yes refl

same_bits : {x y : Float} → x ≡ y → same_value x y ≡ true
unfolding same_value
same_bits {x} {y} e = eq-eqb (to_bits binary32 x) (to_bits binary32 y) (ap (to_bits binary32) e)

abbrev answer_of : Result Unit Refusal → AudioParam → ℕ → Float → Bool → Processed
answer_of v p n x b = record { verdict = v; param = p; steps = n; current = x; one = b }

one_answer : {v w : Result Unit Refusal} {p q : AudioParam} {m n : ℕ} {x y : Float} {a b : Bool} → v ≡ w → p ≡ q → m ≡ n → x ≡ y → a ≡ b → answer_of v p m x a ≡ answer_of w q n y b
one_answer e₁ e₂ e₃ e₄ e₅ = rw (e₁, e₂, e₃, e₄, e₅)

module _ {r t : Processed} {m n : ℕ} {value param : Bool} where
  pub by_parts : m ≡ number_for r.verdict → n ≡ number_for t.verdict → SameValue r.current t.current value → Tells (r.param ≡ t.param) param
      → Tells (r ≡ t) ((((eqb m n && eqb r.steps t.steps) && value) && beq r.one t.one) && param)
  by_parts em en v p = record { so = so; always = always }
    where
      flag : Tells (r.one ≡ t.one) (beq r.one t.one)
      flag = same_flag r.one t.one

      so : ((((eqb m n && eqb r.steps t.steps) && value) && beq r.one t.one) && param) ≡ true → r ≡ t
      so e =
          let a = and_true _ param e in
          let b = and_true _ (beq r.one t.one) a.0 in
          let d = and_true _ value b.0 in
          let f = and_true (eqb m n) (eqb r.steps t.steps) d.0 in
          one_answer (one_verdict (sym em ∙ eqb-true m n f.0 ∙ en)) (p.so a.1) (eqb-true r.steps t.steps f.1) (v.one d.1) (flag.so b.1)

      always : r ≡ t → ((((eqb m n && eqb r.steps t.steps) && value) && beq r.one t.one) && param) ≡ true
      always e =
          let number : eqb m n ≡ true = eq-eqb m n (em ∙ ap (λ (x : Processed). number_for x.verdict) e ∙ sym en) in
          let steps : eqb r.steps t.steps ≡ true = eq-eqb r.steps t.steps (ap (λ (x : Processed). x.steps) e) in
          let current : value ≡ true = v.is ∙ same_bits (ap (λ (x : Processed). x.current) e) in
          rw (number, steps, current, flag.always (ap (λ (x : Processed). x.one) e), p.always (ap (λ (x : Processed). x.param) e))
