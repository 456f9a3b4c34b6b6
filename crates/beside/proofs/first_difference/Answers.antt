-- `beside::first_difference` meets its contract. The invariant of its loop: the place is that of what is left, and what is passed is the same. Assumes nothing.
use mathlib.Core.Path.{◌≡◌, refl, sym, subst, ◌∙◌}
use Prim.Native.Nat.{ℕ, ◌≤◌, ◌<◌}
use native.Mathlib.Nat.{le_refl}
use native.Mathlib.Omega.{arith}
use lib.ListN.{length, drop}
use Rattle.beside.specs.Beside.{differs_from, first_difference}
use Rattle.beside.proofs.Places.{one_more, goes_on, differs_here, first_ends, second_ends, both_end, all_shared, a_place, no_place}
use Rattle.beside.proofs.first_difference.Goals as goal

pub loop-i-init : goal.loop-i-init
loop-i-init c = (omega arith, refl, refl)

pub returns-then-ys-i : goal.returns-then-ys-i
returns-then-ys-i c = a_place (c.loop-i.invariant.1 ∙ second_ends _ _ _ (omega arith) c.if-ys-i.true)

pub returns-then-not-same_value : goal.returns-then-not-same_value
returns-then-not-same_value c =
    let s = c.same_value.ensures in
    a_place (c.loop-i.invariant.1 ∙ differs_here _ _ _ _ (omega arith) c.if-ys-i.false (sym s.is ∙ c.if-not-same_value.true))

pub loop-i-preserved : goal.loop-i-preserved
loop-i-preserved c =
    let s = c.same_value.ensures in
    let l = c.loop-i in
    let hx : l.i < length c.args.xs.now = omega arith in
    let hy = c.if-ys-i.false in
    (omega arith, l.invariant.1 ∙ goes_on _ _ _ _ hx hy (sym s.is ∙ c.if-not-same_value.false), one_more _ _ _ _ hx hy l.invariant.2 (s.one c.if-not-same_value.false))

pub returns-then-xs-ys : goal.returns-then-xs-ys
returns-then-xs-ys c =
    let l = c.loop-i in
    let xs = c.args.xs.now in
    let ys = c.args.ys.now in
    let end : l.i ≡ length xs = omega arith in
    a_place (subst (λ (i : ℕ). first_difference xs ys ≡ differs_from i (drop i xs) (drop i ys)) end l.invariant.1 ∙ first_ends (length xs) xs ys (le_refl (length xs)) c.if-xs-ys.true)

pub returns-else-xs-ys : goal.returns-else-xs-ys
returns-else-xs-ys c =
    let l = c.loop-i in
    let past : length c.args.xs.now ≤ l.i = omega arith in
    let behind : length c.args.ys.now ≤ l.i = omega (arith, c.if-xs-ys.false) in
    no_place (l.invariant.1 ∙ both_end _ _ _ past behind) (all_shared _ _ _ past behind l.invariant.2)
