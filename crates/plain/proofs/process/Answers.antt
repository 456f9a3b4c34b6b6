-- `process` meets its contract: refused; or each place by a look, and the rest by one. Assumes nothing.
use mathlib.Core.Path.{◌≡◌, refl, sym, ◌∙◌}
use Rattle.rules.specs.Block.{infos_of, verdict_of}
use Rattle.block.specs.Asked.{asked}
use Rattle.param.specs.Param.{param_of}
use Rattle.param.specs.Processed.{Playable}
use Rattle.param.proofs.Plays.{refuses, few, playable}
use Rattle.plain.proofs.Blocks.{lookable}
use Rattle.plain.proofs.process.Goals as goal
use Rattle.plain.proofs.process.Goals.{After-infos_of-infos, After-verdict-verdict}

-- the verdict is the rules'
verdict : (c : After-verdict-verdict)
    → let a = c.args in
    c.verdict-verdict.result ≡ verdict_of (param_of a.param) a.store.now (asked a.block_time a.period a.count a.input.now a.output.now)
unfolding verdict_of
verdict c =
    simp (← c.edition.ensures, ← c.ceiling_of.ensures, ← c.last_block_time.ensures) (c.verdict-verdict.ensures _ _ _ refl refl refl)

infos : (c : After-infos_of-infos)
    → let a = c.args in
    c.infos_of-infos.result ≡ infos_of (param_of a.param).rate (asked a.block_time a.period a.count a.input.now a.output.now)
infos c = rw (← c.automation_rate.ensures) (c.infos_of-infos.ensures _ _)

-- what an answered block leans on
fits : (c : After-infos_of-infos)
    → let a = c.args in
    c.verdict-verdict.result ≡ verdict_of (param_of a.param) a.store.now (asked a.block_time a.period a.count a.input.now a.output.now)
    → Playable a.param c.infos_of-infos.result a.input.now a.output.now a.store.now
fits c told =
    let a = c.args in
    playable a.param a.store.now (asked a.block_time a.period a.count a.input.now a.output.now) c.requires told c.in-Ok.is (infos c)

pub returns-in_default : goal.returns-in_default
returns-in_default c = let a = c.args in
    refuses a.param a.store.now (asked a.block_time a.period a.count a.input.now a.output.now) c.requires (verdict (goal.at.returns-in_default c).After-verdict-verdict) c.in_default.is c.refused_block.ensures

pub infos_of-infos-requires : goal.infos_of-infos-requires
infos_of-infos-requires c = let a = c.args in
    few a.param a.store.now (asked a.block_time a.period a.count a.input.now a.output.now) c.requires (verdict (goal.at.infos_of-infos-requires c).After-verdict-verdict) c.in-Ok.is

pub render-requires : goal.render-requires
render-requires c = fits (goal.at.render-requires c).After-infos_of-infos (verdict (goal.at.render-requires c).After-verdict-verdict)

pub carry_on-requires : goal.carry_on-requires
carry_on-requires c = lookable (fits (goal.at.carry_on-requires c).After-infos_of-infos (verdict (goal.at.carry_on-requires c).After-verdict-verdict))

pub returns : goal.returns
returns c = let a = c.args in
    c.carry_on.ensures (asked a.block_time a.period a.count a.input.now a.output.now) (infos (goal.at.returns c).After-infos_of-infos) (sym (verdict (goal.at.returns c).After-verdict-verdict) ∙ c.in-Ok.is) refl _ c.render.ensures
