-- `all_finite` meets its contract. Assumes nothing.
use Rattle.std.proofs.lemmas.Iterator.{cases_from_all, YieldsList-from_slice}
use Rattle.std.proofs.Common.{◌≡◌, true, false, rules, tests}
use Rattle.rules.specs.Numbers.{is_finite}
use Rattle.refusals.proofs.Rows.{all_finite_is}
use Rattle.refusals.proofs.all_finite.Goals as goal

pub returns : goal.returns
returns c =
    all_finite_is _ _
    (cases_from_all _ _ _ (λ x. is_finite x ≡ true) (λ x. is_finite x ≡ false) c.all.ensures.ran (YieldsList-from_slice c.args.values.now cc) (λ x q k. search (rules, tests)) (λ x q k. search (rules, tests)))
