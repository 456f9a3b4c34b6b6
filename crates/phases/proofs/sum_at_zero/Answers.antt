-- `phases::sum_at_zero` meets its contract. Assumes nothing.
use mathlib.Core.Path.{◌≡◌, refl, sym, ap, ◌∙◌, subst}
use mathlib.Core.Bool.{Bool, beq, true, false, not, ◌&&◌, ◌||◌, true≢false}
use Prim.Native.Nat.{ℕ, zero, suc, ◌*◌, ◌^◌, ◌<◌}
use native.Mathlib.Nat.{lt_irrefl, zero-lt-suc, zero-mul, mul-zero, mul-one, mul-pos}
use lib.Dec.{T, eqb, eqb→eq}
use lib.Pow.{pow_pos}
use lib.IntN.{pos}
use lib.Ieee.{Float, nan, inf, fin, binary32, binary64, up, down, round, fits, is_nan, eq, add, mul}
use lib.Ieee.Exact.{HasValue}
use lib.Ieee.Fits.{and_l, and_i, up_pos}
use lib.Ieee.Scale.{finite}
use Rattle.rules.specs.Numbers.{plus_zero, narrowed, fused}
use Rattle.rounding_laws.proofs.Decode.{finite_no_nan}
use Rattle.rounding_laws.proofs.Fuse.{fused_zero}
use Rattle.rounding_laws.proofs.Value.{zero_exp}
use Rattle.rounding_laws.proofs.Wide.{parts_of_lem}
use Rattle.phases.proofs.sum_at_zero.Goals as goal
use Rattle.phases.proofs.sum_at_zero.Goals.{Start}

-- a zero: 0 with a sign
some : (m k : ℕ) → 0 < k → suc m * k * 1 ≡ 0 → ⊥
some m k h e = lt_irrefl 0 (subst (λ (n : ℕ). 0 < n) e (mul-pos (mul-pos (zero-lt-suc m) h) (zero-lt-suc 0)))

zero_is : (x : Float) → T (fits binary64 x) → eq x plus_zero ≡ true → (s : Bool) × (x ≡ fin s 0 (pos 0))
unfolding eq
zero_is nan f h = absurd (true≢false (sym h))
zero_is (inf s) f h = absurd (true≢false (sym h))
zero_is (fin s zero e) f h = (s, ap (fin s 0) (zero_exp binary64 s e f))
zero_is (fin s (suc m) e) f h =
    let l = suc m * up e * 1 in
    let r = 0 * 1 * down e in
    absurd (some m (up e) (up_pos e) (eqb→eq l r (and_l (eqb l r) (beq s false || eqb l 0) (subst T (sym h) tt)) ∙ ap (λ (k : ℕ). k * down e) (zero-mul 1) ∙ zero-mul (down e)))

-- it is one of either format
held : (s : Bool) → T (fits binary32 (fin s 0 (pos 0)) && not (is_nan (fin s 0 (pos 0))))
unfolding fits is_nan
held true = tt
held false = tt

narrowed_zero : (s : Bool) → fin s 0 (pos 0) ≡ narrowed (fin s 0 (pos 0))
unfolding narrowed round
narrowed_zero true = refl
narrowed_zero false = refl

-- a product with it is one
sum_is : (a c : Float) → T (fits binary32 a) → T (fits binary32 c) → T (finite a) → T (finite c) → (s : Bool) → add binary32 (mul binary32 a (fin s 0 (pos 0))) c ≡ fused binary32 a (fin s 0 (pos 0)) c
sum_is a c f g p q s =
    let A = parts_of_lem a f p in
    let C = parts_of_lem c g q in
    fused_zero binary32 A.s s C.s (A.m * 2 ^ A.j) 0 (C.m * 2 ^ C.j) (2 ^ 149) 1 (pow_pos 149) (zero-lt-suc 0) a (fin s 0 (pos 0)) c A.value (refl, refl)
    (subst (λ (d : ℕ). HasValue c C.s (C.m * 2 ^ C.j) d) (sym (mul-one (2 ^ 149))) C.value) (mul-zero (A.m * 2 ^ A.j))

zeros : (c : Start) → (s : Bool) × (c.args.x ≡ fin s 0 (pos 0))
zeros c = zero_is c.args.x (subst T (sym c.well_formed.1.0.1) tt) c.requires.plus_zero_value

pub float_to_float-result : goal.float_to_float-result
float_to_float-result c = and_i (fits binary32 c.args.a) (not (is_nan c.args.a)) c.requires.t.0 (finite_no_nan c.args.a c.requires.t.2)

pub float_to_float-result-2 : goal.float_to_float-result-2
float_to_float-result-2 c = let z = zeros (goal.at.float_to_float-result-2 c).Start in subst (λ (v : Float). T (fits binary32 v && not (is_nan v))) (sym z.1) (held z.0)

pub float_to_float-result-3 : goal.float_to_float-result-3
float_to_float-result-3 c = and_i (fits binary32 c.args.c) (not (is_nan c.args.c)) c.requires.t.1 (finite_no_nan c.args.c c.requires.t.3)

pub returns : goal.returns
returns c =
    let s = (goal.at.returns c).Start in
    let z = zeros s in
    let a = c.args in
    let p = c.requires.t in
    ap (λ (v : Float). add binary32 (mul binary32 a.a v) a.c) z.1 ∙ sum_is a.a a.c p.0 p.1 p.2 p.3 z.0 ∙ ap (λ (v : Float). fused binary32 a.a v a.c) (narrowed_zero z.0) ∙ ap (λ (v : Float). fused binary32 a.a (narrowed v) a.c) (sym z.1)
