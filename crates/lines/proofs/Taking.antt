-- From line to line: what was taken lies in the buffer, and less is left. Assumes nothing.
use mathlib.Core.Path.{◌≡◌, sym, subst}
use mathlib.Core.List.{List}
use Rattle.std.specs.Prelude.{Option, None, Some}
use Prim.Native.Nat.{ℕ, ◌-◌, ◌≤◌, ◌<◌}
use native.Mathlib.Omega.{arith}
use lib.Arith.{lt_of_le-ne}
use lib.ListN.{length}
use Rattle.lines.specs.declared.Lines.{Lines}
use Rattle.lines.specs.declared.Line.{Line}
use Rattle.lines.specs.declared.Taken.{Taken}
use Rattle.lines.specs.Lines.{Within, LineIn, next_of, left_of, moved_of}
use Rattle.lines.proofs.Cases.{next_in, left_in}

-- ---- the line that was taken

pub line_in : (buf : List ℕ) {line : Option Line} {from to : ℕ} → line ≡ Some (Line.At from to) → LineIn buf line → (from ≤ to) × (to ≤ length buf)
line_in buf e h = subst (LineIn buf) e h

-- ---- the lines that are left

module _ (buf : List ℕ) (l : Lines) (w : Within buf l) {t : Taken} (e : t ≡ next_of buf l) where
  pub taken_in : LineIn buf t.line
  taken_in = subst (λ (x : Taken). LineIn buf x.line) (sym e) (next_in buf l w).0

  pub rest_in : Within buf t.lines
  rest_in = subst (λ (x : Taken). Within buf x.lines) (sym e) (next_in buf l w).1

  same_end : t.lines.to ≡ l.to
  same_end = subst (λ (x : Taken). x.lines.to ≡ l.to) (sym e) (next_in buf l w).3

  no_sooner : l.from ≤ t.lines.from
  no_sooner = subst (λ (x : Taken). l.from ≤ x.lines.from) (sym e) (next_in buf l w).2

  pub fewer_left : (t.lines.from ≡ l.from → ⊥) → t.lines.to - t.lines.from < l.to - l.from
  fewer_left more = omega (arith, lt_of_le-ne no_sooner (λ q. more (sym q)), same_end, rest_in.ordered)

  -- nothing was taken
  pub none_taken : t.lines.from ≡ l.from → (next_of buf l).line ≡ None
  none_taken q = (next_in buf l w).4 (subst (λ (x : Taken). x.lines.from ≡ l.from) e q)

-- what is left of the buffer, once there is room behind it
pub left-within : (buf : List ℕ) (l : Lines) {buf' : List ℕ} {r : Lines} → (r ≡ left_of buf l) × (buf' ≡ moved_of buf l) → Within buf l → Within buf' r
left-within buf l {buf'} {r} e w =
    subst (λ (x : List ℕ). Within x r) (sym e.1) (subst (λ (x : Lines). Within (moved_of buf l) x) (sym e.0) (left_in buf l w))
