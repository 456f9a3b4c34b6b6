-- A value written as r * 2 ^ e / 2 ^ g, with both powers moved. Assumes nothing.
use Rattle.std.proofs.Common.{◌≡◌, ℕ, ◌+◌, ◌*◌, ◌^◌, Bool, sym, ap, ◌∙◌, mul_assoc, pow_pos, pow-add}
use lib.Ieee.{Format, round}
use lib.Ieee.Scale.{round_same}

pub moved : (f : Format) (s : Bool) (r e g e' g' : ℕ) → e + g' ≡ e' + g → round f s (r * 2 ^ e) (2 ^ g) ≡ round f s (r * 2 ^ e') (2 ^ g')
moved f s r e g e' g' h =
    round_same f s (r * 2 ^ e) (2 ^ g) (r * 2 ^ e') (2 ^ g') (pow_pos g) (pow_pos g')
    (mul_assoc r (2 ^ e) (2 ^ g') ∙ ap (λ (x : ℕ). r * x) (sym (pow-add 2 e g') ∙ ap (λ (x : ℕ). 2 ^ x) h ∙ pow-add 2 e' g) ∙ sym (mul_assoc r (2 ^ e') (2 ^ g)))
