-- `replies::is_mark` meets its contract. Assumes nothing.
use Rattle.std.proofs.Common.{◌≡◌, ◌⊎◌, inl, inr, ℕ, true, refl, sym, ap, ◌∙◌, arith}
use borrow.Author.Tests.{ne_eqb}
use Rattle.replies.specs.Plain.{is_mark}
use Rattle.replies.proofs.is_mark.Goals as goal

a_mark : {c x y z : ℕ} → (c ≡ x) ⊎ ((c ≡ y) ⊎ (c ≡ z)) → is_mark x ≡ true → is_mark y ≡ true → is_mark z ≡ true → true ≡ is_mark c
a_mark (inl e) p q r = sym (ap is_mark e ∙ p)
a_mark (inr (inl e)) p q r = sym (ap is_mark e ∙ q)
a_mark (inr (inr e)) p q r = sym (ap is_mark e ∙ r)

pub returns-in-32 : goal.returns-in-32
unfolding is_mark
returns-in-32 c = a_mark c.in-32.is refl refl refl

pub returns-in_default : goal.returns-in_default
unfolding is_mark
returns-in_default c =
    let x = c.args.c in
    rw (ne_eqb x 32 (grind arith), ne_eqb x 58 (grind arith), ne_eqb x 44 (grind arith)) refl
