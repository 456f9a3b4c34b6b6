-- `decimal::read::value_in` meets its contract: its bits, or a number narrowed. Assumes nothing.
use Rattle.std.proofs.Common.{sym, ap, ◌∙◌}
use Rattle.std.specs.Prelude.{Option, Some}
use lib.Ieee.{Float, binary32}
use Rattle.decimal.specs.Decimals.{held}
use Rattle.std.proofs.lemmas.Iterator.Adapters.{option_map_id}
use Rattle.decimal.proofs.Reading.{plain_none, plain_bits, plain_number}
use Rattle.decimal.proofs.read.value_in.Goals as goal

pub returns-then-word-eq0 : goal.returns-then-word-eq0
returns-then-word-eq0 c = sym (plain_none binary32 _ c.if-word-eq0.true)

pub returns-then-word-eq120 : goal.returns-then-word-eq120
returns-then-word-eq120 c = sym (option_map_id _) ∙ c.real_in.ensures ∙ plain_bits binary32 _ c.if-word-eq0.false c.if-word-eq120.true

pub returns-in_err-x : goal.returns-in_err-x
unfolding held
returns-in_err-x c =
    c.from_residual.ensures ∙ ap (λ (o : Option Float). held binary32 o) c.in_err-x.ensures
    ∙ plain_number binary32 _ c.if-word-eq0.false c.if-word-eq120.false

pub returns : goal.returns
unfolding held
returns c =
    ap Some c.narrow.ensures
    ∙ ap (λ (o : Option Float). held binary32 o) c.in_ok-x.ensures
    ∙ plain_number binary32 _ c.if-word-eq0.false c.if-word-eq120.false
