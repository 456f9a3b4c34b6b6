-- `mix_value` meets its contract, with one input for all places and with one for each. Assumes nothing.
use mathlib.Core.Path.{refl, sym, ◌∙◌}
use Rattle.block.proofs.Mixes.{inputs-each, each_room, one_sample, one_value}
use Rattle.block.proofs.mix_value.Goals as goal

pub mix_one-requires : goal.mix_one-requires
mix_one-requires c =
    let a = c.args in
    each_room a.bounds a.infos _ _ c.requires (inputs-each a.infos.rate a.infos.count _ (sym (c.says_one.ensures _ refl) ∙ c.if-says_one.false)).1

pub returns-then-says_one : goal.returns-then-says_one
returns-then-says_one c =
    let a = c.args in
    one_sample a.bounds a.infos _ _ c.requires a.value (sym (c.says_one.ensures _ refl) ∙ c.if-says_one.true) c.first_of.ensures c.mixed_value-sample.ensures c.put_sample.ensures

pub returns-else-says_one : goal.returns-else-says_one
returns-else-says_one c =
    let a = c.args in
    one_value a.bounds a.infos _ _ c.requires a.value (sym (c.says_one.ensures _ refl) ∙ c.if-says_one.false) c.mix_one.ensures
