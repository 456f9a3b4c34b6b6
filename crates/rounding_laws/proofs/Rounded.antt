-- The theorems that 01 asks of fused and narrowed results, for every format: each is its exact number, rounded once to the nearest value, ties to even (`Nearest`). Assumes nothing.
use mathlib.Core.Path.{sym, subst}
use mathlib.Core.Bool.{beq}
use Prim.Native.Nat.{◌*◌}
use native.Mathlib.Nat.{mul-pos}
use lib.Dec.{T}
use lib.IntN.{◌+ℤ◌}
use lib.Ieee.{Float, nan, inf, fin, Format, binary32, up, down, unlike, add}
use lib.Ieee.Fits.{down_pos}
use lib.Ieee.Scale.{finite}
use Rattle.rules.specs.Numbers.{product, fused, narrowed}
use Rattle.rounding_laws.specs.Nearest.{Nearest, exactly, exact_sum, exact_fused}
use Rattle.rounding_laws.specs.Total.{total_sign, total_size}
use Rattle.rounding_laws.proofs.Sum.{sum_once}
use Rattle.rounding_laws.proofs.Nearest.{round_nearest}

pub fused_nearest : (f : Format) (x y z : Float) → T (finite x) → T (finite y) → T (finite z) → Nearest f (exact_fused x y z) (fused f x y z)
unfolding fused product add exactly exact_sum exact_fused
fused_nearest f nan y z a b c = absurd a
fused_nearest f (inf s) y z a b c = absurd a
fused_nearest f (fin s m e) nan z a b c = absurd b
fused_nearest f (fin s m e) (inf t) z a b c = absurd b
fused_nearest f (fin s m e) (fin t n d) nan a b c = absurd c
fused_nearest f (fin s m e) (fin t n d) (inf u) a b c = absurd c
fused_nearest f (fin s m e) (fin t n d) (fin u l g) a b c =
    let S = unlike s t in
    let p = m * n * up (e +ℤ d) * down g in
    let q = l * up g * down (e +ℤ d) in
    let D = down (e +ℤ d) * down g in
    subst (Nearest f (exact_fused (fin s m e) (fin t n d) (fin u l g))) (sym (sum_once f S p u q D))
    (round_nearest f (total_sign S p u q) (total_size (beq S u) p q) D (mul-pos (down_pos (e +ℤ d)) (down_pos g)))

pub narrowed_nearest : (x : Float) → T (finite x) → Nearest binary32 (exactly x) (narrowed x)
unfolding narrowed exactly
narrowed_nearest nan a = absurd a
narrowed_nearest (inf s) a = absurd a
narrowed_nearest (fin s m e) a = round_nearest binary32 s (m * up e) (down e) (down_pos e)
