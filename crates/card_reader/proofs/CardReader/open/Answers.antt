-- `CardReader::open` meets its contract: nothing is made, and the numbers are zeros. Assumes nothing.
use Rattle.std.proofs.Common.{None, Ok}
use mathlib.Core.Path.{◌≡◌, refl, ap, ap₂, ◌∙◌}
use mathlib.Core.Bool.{Bool, true, false, not}
use mathlib.Core.List.{List, [], ◌∷◌}
use Prim.Native.Nat.{ℕ}
use native.Mathlib.Nat.{sub-zero}
use native.Mathlib.Omega.{arith}
use lib.ListN.{length, replicate, length-replicate}
use lib.Ieee.{Float}
use Rattle.rules.specs.declared.Bounds.{Bounds}
use Rattle.rules.specs.declared.AutomationRate.{AutomationRate}
use Rattle.rules.specs.declared.Refusal.TheVariants as Refusal
use Rattle.rules.specs.Numbers.{plus_zero, store_length}
use Rattle.rules.specs.Refusals.{row, lowest, making_rows, is_edition, are_bounds}
use Rattle.rules.specs.Block.{Param, made, made_as, edition_of}
use Rattle.param.specs.Param.{param_of, nothing_made}
use Rattle.param.proofs.Calls.{struct_back}
use Rattle.card.specs.Card.{Reader}
use Rattle.card_reader.proofs.CardReader.open.Goals as goal

-- of an edition that there is not
nothing : (b : Bounds) (rate : AutomationRate) → made b rate 0 ≡ nothing_made
unfolding made made_as making_rows lowest is_edition
nothing b rate = go (not (are_bounds b))
  where
    go : (x : Bool) → made_as (lowest (row Refusal.Bounds x ∷ row Refusal.UnknownEdition (not (is_edition 0)) ∷ [])) b rate (edition_of 0) ≡ nothing_made
    go true = refl
    go false = refl

-- before the first part, with this parameter and these numbers
first : AutomationRate → ℕ → Param → List Float → Reader
first rate n p numbers =
    record {
      rate = rate;
      edition = n;
      ranged = false;
      param = p;
      store = numbers;
      before = None;
      offset = 0;
      verdict = (Ok tt);
    }

pub returns : goal.returns
unfolding first
returns c =
    let m = c.with_edition.ensures in
    let z = c.zero_behind in
    let zeros : z.new.part ≡ replicate store_length plus_zero = z.ensures ∙ ap (λ (n : ℕ). replicate n plus_zero) (sub-zero (length c.args.numbers.now) ∙ c.requires) in
    record {
      reader = ap₂ (first c.args.rate c.args.edition) (ap param_of m.param ∙ struct_back _ ∙ nothing _ _) zeros;
      held = refl;
      sound = record { param = m.sound; long = ap length zeros ∙ length-replicate store_length plus_zero; counted = omega arith };
    }
