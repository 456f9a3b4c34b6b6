-- `runs::shown_rest` meets its contract. Assumes nothing.
use Rattle.std.proofs.Common.{◌<◌, ◌∙◌, length, sym, ap, subst, add-one, true≢false, arith}
use lib.Ieee.{Float, binary64, add}
use Rattle.rules.specs.Samples.{phase_of}
use Rattle.runs.specs.After.{after}
use Rattle.runs.proofs.Eaching.{one_each}
use Rattle.runs.proofs.shown_rest.Goals.{then-b-eq0, else-b-eq0}
use Rattle.runs.proofs.shown_rest.Goals as goal

pub loop-place-preserved : goal.loop-place-preserved
unfolding after phase_of
loop-place-preserved g c =
    let l = c.loop-place in
    let some : l.place-index < length l.bs = omega (arith, l.auto.bs, c.loop-place-test.true) in
    record {
      next = rw (add-one l.place-index) (ap (λ (u : Float). add binary64 u c.args.times.period) l.invariant.next);
      each = one_each _ l.invariant.each some c.f-b.result (subst (λ (t : Float). g.F.Fn.post c.args.f (phase_of c.args.start_time c.args.duration t, tt) c.f-b.result) l.invariant.next c.f-b.ensures);
      told = elim c.if-b-eq0.branch [
        | then-b-eq0 w ↦ λ t. absurd (true≢false (sym t ∙ w.all-is))
        | else-b-eq0 w ↦ λ t. one_each _ (l.invariant.told (sym w.all-is ∙ t)) some c.f-b.result w.if-b-eq0.false
      ];
    }
