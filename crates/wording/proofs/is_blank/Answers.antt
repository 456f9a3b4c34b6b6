-- `wording::is_blank` meets its contract: by the three characters. Assumes nothing.
use Rattle.std.proofs.Common.{◌≡◌, ◌⊎◌, inl, inr, ℕ, true, refl, sym, ap, ◌∙◌, arith}
use borrow.Author.Tests.{ne_eqb}
use Rattle.wording.specs.Plain.{is_blank}
use Rattle.wording.proofs.is_blank.Goals as goal

a_blank : {c x y z : ℕ} → (c ≡ x) ⊎ ((c ≡ y) ⊎ (c ≡ z)) → is_blank x ≡ true → is_blank y ≡ true → is_blank z ≡ true → true ≡ is_blank c
a_blank (inl e) p q r = sym (ap is_blank e ∙ p)
a_blank (inr (inl e)) p q r = sym (ap is_blank e ∙ q)
a_blank (inr (inr e)) p q r = sym (ap is_blank e ∙ r)

pub returns-in-32 : goal.returns-in-32
unfolding is_blank
returns-in-32 c = a_blank c.in-32.is refl refl refl

pub returns-in_default : goal.returns-in_default
unfolding is_blank
returns-in_default c =
    let x = c.args.c in
    rw (ne_eqb x 32 (grind arith), ne_eqb x 9 (grind arith), ne_eqb x 13 (grind arith)) refl
