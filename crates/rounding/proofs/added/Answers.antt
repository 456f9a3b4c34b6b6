-- `rounding::added` meets its contract: each way is a case of `rounding_laws`' Adding. Assumes nothing.
use mathlib.Core.Path.{◌≡◌, sym, ap, ◌∙◌}
use mathlib.Core.Bool.{Bool, true, false, cond}
use Prim.Native.Nat.{ℕ, ◌+◌, ◌≤◌}
use native.Mathlib.Omega.{arith}
use lib.Dec.{eqb}
use borrow.Author.Tests.{eq-eqb, ne_eqb}
use Rattle.rounding_laws.specs.Stuck.{Added}
use Rattle.rounding_laws.proofs.Adding.{added_like, added_below, added_above}
use Rattle.rounding.proofs.added.Goals as goal
use Rattle.rounding.proofs.added.Goals.{After-sticky-m, Joined-w, then-w, else-w}

-- the whole part, or the next number where there is a fraction
ceiling : (k : Joined-w) → k.if-w.c ≡ cond k.cut-w-2.result.rest (k.cut-w-2.result.q + 1) k.cut-w-2.result.q
ceiling k =
    let q = k.cut-w-2.result.q in
    elim k.if-w.branch [
      | then-w h ↦ h.c-is ∙ sym (ap (λ (i : Bool). cond i (q + 1) q) h.if-w.true)
      | else-w h ↦ h.c-is ∙ sym (ap (λ (i : Bool). cond i (q + 1) q) h.if-w.false)
    ]

at_most : (b : Bool) (c q : ℕ) → c ≡ cond b (q + 1) q → c ≤ q + 1
at_most true c q h = omega arith
at_most false c q h = omega arith

-- of two numbers that are not below each other's ceiling
above : (k : After-sticky-m) (n : Bool) → n ≡ cond (eqb k.sticky-m.result 0) false k.args.a.neg
    → Added k.args.a.neg k.args.a.m k.args.a.j k.args.b.neg k.args.b.m k.args.b.j n k.sticky-m.result k.args.a.j
above k n h =
    let w = k.cut-w-2 in
    let a = k.args.a in
    let b = k.args.b in
    added_above a.neg b.neg a.m a.j b.m b.j w.result.q w.result.rest k.if-a-b.false w.ensures.0 w.ensures.1 k.if-w.c k.sticky-m.result n (ceiling k.before.before.before) k.if-v-c.false k.sticky-m.ensures h

pub returns-then-a-b : goal.returns-then-a-b
returns-then-a-b c =
    let w = c.cut-w in
    let a = c.args.a in
    let b = c.args.b in
    added_like a.neg b.neg a.m a.j b.m b.j w.result.q c.sticky.result w.result.rest c.if-a-b.true w.ensures.0 w.ensures.1 c.sticky.ensures

pub overflow_sub-w : goal.overflow_sub-w
overflow_sub-w c = let k = c.before in omega (arith, at_most c.cut-w-2.result.rest c.if-w.c c.cut-w-2.result.q (ceiling k))

pub returns-then-v-c : goal.returns-then-v-c
returns-then-v-c c =
    let k = c.before.before in
    let w = c.cut-w-2 in
    let a = c.args.a in
    let b = c.args.b in
    added_below a.neg b.neg a.m a.j b.m b.j w.result.q w.result.rest c.if-a-b.false w.ensures.0 w.ensures.1 c.if-w.c c.sticky-then-v-c.result (ceiling k) c.if-v-c.true c.sticky-then-v-c.ensures

pub returns-then-m-eq0 : goal.returns-then-m-eq0
returns-then-m-eq0 c = above c.before false (sym (ap (λ (i : Bool). cond i false c.args.a.neg) (eq-eqb c.sticky-m.result 0 c.if-m-eq0.true)))

pub returns-else-m-eq0 : goal.returns-else-m-eq0
returns-else-m-eq0 c = let s = c.args.a.neg in above c.before s (sym (ap (λ (i : Bool). cond i false s) (ne_eqb c.sticky-m.result 0 c.if-m-eq0.false)))
