-- `runs::shown_at` meets its contract. Assumes nothing.
use Rattle.std.proofs.Common.{◌≡◌, ℕ, ◌+◌, ◌-◌, ◌*◌, ◌/◌, ◌%◌, ◌^◌, ◌≤◌, ◌≢◌, length, sym, refl, ◌∙◌, true≢false, arith}
use lib.Ieee.{Float}
use borrow.Rule.Slice.PartMut.{mid_of, mid_len}
use Rattle.runs.specs.After.{after}
use Rattle.runs.proofs.Eaching.{none_each, some_each}
use Rattle.runs.proofs.Places.{after_on, on, mapped}
use Rattle.runs.proofs.shown_at.Goals.{then-not-shown_of, else-not-shown_of}
use Rattle.runs.proofs.shown_at.Goals as goal

pub loop-turn-init : goal.loop-turn-init
unfolding after
loop-turn-init g c = record { next = refl; told = λ t. none_each _ _ }

pub loop-turn-preserved : goal.loop-turn-preserved
loop-turn-preserved g c =
    let l = c.loop-turn in
    let a = c.args in
    let p = c.phases_from-t in
    let r = c.shown_of in
    let i = l.turn * 16 in
    let R : Float → ℕ → Type 0 = λ x b. g.F.Fn.post a.f (x, tt) b × (b % 2 ^ 18 ≢ 0) in
    let e : (l.turn + 1) * 16 ≡ i + 16 = omega arith in
    let s : i + 16 - i ≡ 16 = omega arith in
    let room : i + 16 ≤ length l.bs = omega (arith, l.auto.bs, c.loop-turn-test.true) in
    record {
      next = rw e (p.ensures.1 ∙ after_on a.times.period a.times.first i 16 l.t l.invariant.next);
      told = elim c.if-not-shown_of.branch [
        | then-not-shown_of w ↦ λ t. absurd (true≢false (sym t ∙ w.all-is))
        | else-not-shown_of w ↦ λ t.
            rw (e, s)
            (some_each _ (l.invariant.told (sym w.all-is ∙ t)) 16 room r.new.bs
            (mapped R a.start_time a.duration a.times.period a.times.first i l.t l.invariant.next 16 p.new.xs r.new.bs p.ensures.0
            (record { as_many = r.ensures.as_many; at = λ k x b h. let m = r.ensures.at k x b h in (m.0, m.1 w.if-not-shown_of.false) }))
            (r.ensures.as_many ∙ p.array_long))
      ];
    }

pub returns-then-shown_rest : goal.returns-then-shown_rest
returns-then-shown_rest g c = λ t.
    let l = c.loop-turn in
    let a = c.args in
    let r = c.shown_rest in
    let n = length l.bs in
    let i = n / 16 * 16 in
    let R : Float → ℕ → Type 0 = λ x b. g.F.Fn.post a.f (x, tt) b × (b % 2 ^ 18 ≢ 0) in
    let e : l.turn * 16 ≡ i = omega (arith, l.auto, c.loop-turn-test.false) in
    let whole : i + (n - i) ≡ length a.bs.now = omega (arith, l.auto.bs) in
    let long : length (mid_of i (n - i) l.bs) ≡ n - i = mid_len i n l.bs (omega arith) in
    let before = rw e at (l.invariant.told t) in
    rw (← whole)
    (some_each _ before (n - i) (omega arith) r.new.bs
    (on R a.start_time a.duration a.times.period a.times.first i l.t (l.invariant.next ∙ rw e) (n - i) r.new.bs
    (record { at = λ k b h. let m = r.ensures.at k b (omega (arith, long)) in (m.0, m.1 c.if-shown_rest.true) }))
    (r.auto.bs ∙ long))
