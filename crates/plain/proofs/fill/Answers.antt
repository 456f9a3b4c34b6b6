-- `fill` meets its contract: the place is one of those filled now, or not. Assumes nothing.
use mathlib.Core.Path.{◌≡◌, sym, ap, ◌∙◌}
use Prim.Native.Nat.{◌-◌, ◌≤◌}
use native.Mathlib.Omega.{arith}
use lib.Dec.{leb, ltb}
use lib.ListN.{length}
use borrow.Author.Tests.{ltb-true, leb-true}
use Rattle.rules.specs.Numbers.{time_at}
use Rattle.laws.proofs.Tests.{both}
use Rattle.plain.specs.declared.Look.{Look}
use Rattle.plain.specs.Seen.{filled_of, seen, sample_of, time_after}
use Rattle.plain.proofs.Sees.{fill_passed, fill_other, fill-found, sample_is}
use Rattle.plain.proofs.fill.Goals as goal

pub returns-then-to-look : goal.returns-then-to-look
unfolding seen
returns-then-to-look c = λ f n w e.
    let a = c.args in
    let few : a.to ≤ f.count = omega (arith, c.requires.0, ap (λ (l : Look). l.infos.count) e) in
    let k : a.look.filled ≡ filled_of f.rate f.count (length w.values) = ap (λ (l : Look). l.filled) e in
    e ∙ sym (fill_passed f a.to (sample_of a.event a.numbers.now f w) w n few (omega (arith, c.if-to-look.true)))

pub sample_time-time-requires : goal.sample_time-time-requires
sample_time-time-requires c = omega (arith, c.if-to-look.false, c.requires.0, c.requires.1)

pub returns-then-look-to : goal.returns-then-look-to
unfolding seen
returns-then-look-to c = λ f n w e.
    let a = c.args in
    let sample = sample_of a.event a.numbers.now f w in
    let few : a.to ≤ f.count = omega (arith, c.requires.0, ap (λ (l : Look). l.infos.count) e) in
    let place : a.look.place ≡ n = ap (λ (l : Look). l.place) e in
    let k : a.look.filled ≡ filled_of f.rate f.count (length w.values) = ap (λ (l : Look). l.filled) e in
    let among = both (leb a.look.filled a.look.place) (ltb a.look.place a.to) c.if-look-to.true in
    let time = c.sample_time-time.ensures ∙ ap (λ (l : Look). time_after l.infos.dt (l.place - l.filled) (time_at l.infos l.filled)) e in
    let found = c.value_at.ensures ∙ sample_is f n w e a.event a.numbers.now c.sample_time-time.result ∙ ap sample time in
    let is = fill-found f a.to sample w n few (omega (arith, c.if-to-look.false)) (omega (arith, leb-true a.look.filled a.look.place among.0)) (omega (arith, ltb-true a.look.place a.to among.1)) in
    rw (e, found) (sym is)

pub returns-else-look-to : goal.returns-else-look-to
unfolding seen
returns-else-look-to c = λ f n w e.
    let a = c.args in
    let few : a.to ≤ f.count = omega (arith, c.requires.0, ap (λ (l : Look). l.infos.count) e) in
    let place : a.look.place ≡ n = ap (λ (l : Look). l.place) e in
    let k : a.look.filled ≡ filled_of f.rate f.count (length w.values) = ap (λ (l : Look). l.filled) e in
    let is = fill_other f a.to (sample_of a.event a.numbers.now f w) w n few (omega (arith, c.if-to-look.false)) (rw (place, k) at c.if-look-to.false) in
    rw e (sym is)
