-- `first_of` meets its contract. Assumes nothing.
use mathlib.Core.Path.{◌≡◌, refl, ◌∙◌}
use mathlib.Core.List.{List, [], ◌∷◌}
use lib.Ieee.{Float, of_bits}
use Rattle.std.proofs.Common.{rules}
use Rattle.std.specs.List.{slice_get}
use Rattle.std.specs.Option.{unwrap_or}
use Rattle.rules.specs.Numbers.{plus_zero}
use Rattle.rules.specs.Mix.{first_of}
use Rattle.block.proofs.first_of.Goals as goal

first_got : (xs : List Float) → unwrap_or (slice_get xs 0) plus_zero ≡ first_of xs
unfolding first_of
first_got [] = refl
first_got (x ∷ xs) = refl

pub returns : goal.returns
unfolding of_bits
returns c =
    let e : c.unwrap_or.result ≡ unwrap_or (slice_get c.args.input.now 0) plus_zero = search rules in
    e ∙ first_got c.args.input.now
