-- `runs::growths_by` meets its contract. Assumes nothing.
use Rattle.std.proofs.Common.{◌<◌, ◌∙◌, length, sym, true≢false, arith, rules}
use Rattle.runs.specs.Placed.{InGrown, Grows}
use Rattle.runs.proofs.Eaching.{one_each, any_other}
use Rattle.runs.proofs.growths_by.Goals.{then-b-eq0, else-b-eq0}
use Rattle.runs.proofs.growths_by.Goals as goal

pub loop-i-preserved : goal.loop-i-preserved
loop-i-preserved c =
    let l = c.loop-i in
    let bs = c.args.bs.now in
    let some : l.i < length l.ns = omega (arith, l.auto.ns, c.requires.as_many, c.loop-i-test.true) in
    record {
      each = one_each (λ k n. InGrown n) l.invariant.each some c.grown_of.result (c.grown_of.ensures.0, c.grown_of.ensures.1);
      told = elim c.if-b-eq0.branch [
        | then-b-eq0 w ↦ λ t. absurd (true≢false (sym t ∙ w.all-is))
        | else-b-eq0 w ↦ λ t. one_each _ (l.invariant.told (sym w.all-is ∙ t)) some c.grown_of.result (λ b. any_other (λ b. Grows b c.grown_of.result) bs l.i 0 b c.loop-i-test.true (w.if-b-eq0.false, c.grown_of.ensures.2 w.if-b-eq0.false))
      ];
    }

pub returns : goal.returns
returns c =
    let l = c.loop-i in
    record {
      as_many = search rules;
      at = λ k b n h.
          let m : k < l.i = omega (arith, l.auto, c.loop-i-test.false) in
          (l.invariant.each.at k n m, λ t. (l.invariant.told t).at k n m b);
    }
