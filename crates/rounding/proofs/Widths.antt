-- What `narrow`, `fused32` and `fused64` ensure of a result, as 01 asks it: of finite operands it is the exact number rounded once (`Nearest`). Both widths cite one theorem. Assumes nothing.
use mathlib.Core.Path.{◌≡◌, sym, subst}
use Prim.Native.Nat.{ℕ, ◌≤◌}
use native.Mathlib.Nat.{le_trans}
use lib.Dec.{T, lit≤}
use lib.Ieee.{Float, binary32, binary64}
use lib.Ieee.Scale.{finite}
use Rattle.rules.specs.Numbers.{narrowed, fused, wide}
use Rattle.rounding_laws.specs.Nearest.{Nearest, exactly, exact_fused}
use Rattle.rounding_laws.proofs.Fuse.{wide_finite}
use Rattle.rounding_laws.proofs.Rounded.{fused_nearest, narrowed_nearest}

pub narrow_nearest : (x r : Float) → r ≡ narrowed x → T (finite x) → Nearest binary32 (exactly x) r
narrow_nearest x r e h = subst (Nearest binary32 (exactly x)) (sym e) (narrowed_nearest x h)

pub fused32_nearest : (a b c r : Float) → r ≡ fused binary32 a b c → T (finite a) → T (finite b) → T (finite c) → Nearest binary32 (exact_fused a b c) r
fused32_nearest a b c r e h k l = subst (Nearest binary32 (exact_fused a b c)) (sym e) (fused_nearest binary32 a b c h k l)

pub fused64_nearest : (n : ℕ) (p t r : Float) → n ≤ 1024 → r ≡ fused binary64 (wide n) p t → T (finite p) → T (finite t) → Nearest binary64 (exact_fused (wide n) p t) r
fused64_nearest n p t r m e h k = subst (Nearest binary64 (exact_fused (wide n) p t)) (sym e) (fused_nearest binary64 (wide n) p t (subst T (sym (wide_finite n (le_trans m (lit≤ tt)))) tt) h k)
