-- `rounding::total` meets its contract: the two shifts to the left lose nothing, and what `added` may cut is far off (`rounding_laws`' Sum). Assumes nothing.
use mathlib.Core.Path.{◌≡◌, refl}
use mathlib.Core.Bool.{Bool, true, false, beq}
use Prim.Native.Nat.{ℕ, ◌+◌, ◌-◌, ◌*◌, ◌%◌, ◌^◌, ◌≤◌, ◌<◌}
use native.Mathlib.Nat.{mod-eq_of_lt, le_of_lt, lt_of_lt_of_le}
use native.Mathlib.Omega.{arith}
use lib.Dec.{lit≤}
use lib.Count.{count_leading_zeros}
use Rattle.rounding_laws.specs.Stuck.{Added, extra}
use Rattle.rounding_laws.proofs.Lead.{lead_shift, lead_kept}
use Rattle.rounding_laws.proofs.Sum.{sums_n, sums_m}
use Rattle.rounding.proofs.total.Goals as goal
use Rattle.rounding.proofs.total.Goals.{Start}

abbrev z : Start → ℕ
z c = count_leading_zeros 64 c.args.a.m - 1

abbrev x : Start → ℕ
x c = c.args.a.m * 2 ^ z c

abbrev y : Start → ℕ
y c = c.args.b.m * 2 ^ c.args.h

at : (c : Start) → (1 ≤ count_leading_zeros 64 c.args.a.m) × (z c ≤ 62) × (2 ^ 62 ≤ x c) × (x c < 2 ^ 63)
at c = lead_shift 62 1 c.args.a.m refl c.requires.0 c.requires.1

-- nothing is shifted out
x_kept : (c : Start) → x c % 2 ^ 64 ≡ x c
x_kept c = lead_kept 62 1 c.args.a.m refl c.requires.0 c.requires.1

y_kept : (c : Start) → y c % 2 ^ 64 ≡ y c
y_kept c = mod-eq_of_lt (lt_of_lt_of_le c.requires.2 (lit≤ tt))

top : (like : Bool) (u e : ℕ) → u ≡ e + extra like → e < 4000 → u < 4096
top true u e h k = omega arith
top false u e h k = omega arith

pub overflow_sub-z : goal.overflow_sub-z
overflow_sub-z c = (at (goal.at.overflow_sub-z c).Start).0

pub overflow_cast-x : goal.overflow_cast-x
overflow_cast-x c = omega (arith, (at (goal.at.overflow_cast-x c).Start).1)

pub added-requires : goal.added-requires
added-requires c = let a = (goal.at.added-requires c).Start in rw (x_kept a, y_kept a) ((at a).3, c.requires.2, c.if-y-x.true, omega arith)

pub added-requires-else-y-x : goal.added-requires-else-y-x
added-requires-else-y-x c = let a = (goal.at.added-requires-else-y-x c).Start in rw (x_kept a, y_kept a) (c.requires.2, (at a).3, le_of_lt c.if-y-x.false, omega arith)

pub returns-then-y-x : goal.returns-then-y-x
returns-then-y-x c =
    let k = (goal.at.returns-then-y-x c).Start in
    let a = c.args.a in
    let b = c.args.b in
    let h = c.args.h in
    let r = c.added.result in
    let A : Added a.neg (x k) (a.j + 64 - z k) b.neg (y k) (b.j + 64 - h) r.neg r.m r.j = rw (x_kept k, y_kept k) at c.added.ensures in (
      top (beq a.neg b.neg) r.j (a.j + 64 - z k) A.unit (omega arith),
      λ f D p l o. sums_n f D a.m b.m (z k) a.j b.j h p (at k).2 (at k).3 c.requires.2 (at k).1 a.neg b.neg r.neg r.m r.j l c.if-y-x.true A,
    )

pub returns-else-y-x : goal.returns-else-y-x
returns-else-y-x c =
    let k = (goal.at.returns-else-y-x c).Start in
    let a = c.args.a in
    let b = c.args.b in
    let h = c.args.h in
    let r = c.added-else-y-x.result in
    let A : Added b.neg (y k) (b.j + 64 - h) a.neg (x k) (a.j + 64 - z k) r.neg r.m r.j = rw (x_kept k, y_kept k) at c.added-else-y-x.ensures in (
      top (beq b.neg a.neg) r.j (b.j + 64 - h) A.unit (omega arith),
      λ f D p l o. sums_m f D a.m b.m (z k) a.j b.j h p (at k).2 (at k).3 c.requires.2 (at k).1 a.neg b.neg r.neg r.m r.j l c.if-y-x.false o A,
    )
