-- `look_at` meets its contract: of one value, or walked. Assumes nothing.
use mathlib.Core.Path.{◌≡◌, sym, ap, ◌∙◌}
use native.Mathlib.Omega.{arith}
use lib.Ieee as Ieee
use Rattle.rules.specs.Block.{rests_for, walk_from, values_before}
use Rattle.param.specs.Param.{param_of}
use Rattle.plain.specs.declared.Look.{Look}
use Rattle.plain.specs.Seen.{seen, place_for}
use Rattle.plain.proofs.Sees.{infos_is, place_is}
use Rattle.plain.proofs.Blocks.{place_inside, begun_a, begun_k, not_walked, rests, walks}
use Rattle.plain.proofs.look_at.Goals as goal
use Rattle.plain.proofs.look_at.Goals.{Joined-rate, in-A, in_default}

-- before the first head
begun : (j : Joined-rate)
    → let a = j.args in
    j.match-rate.look ≡ seen a.infos (place_for a.infos.rate a.place) (walk_from (param_of a.param).intrinsic (param_of a.param).last (values_before a.infos.rate (param_of a.param).intrinsic) 0)
unfolding Ieee.of_bits
begun j =
    let a = j.args in
    rw (← j.last_event-last.ensures, ← j.intrinsic_value-intrinsic.ensures)
    (elim j.match-rate.branch [
      | in-A came ↦ came.look-is ∙ begun_a a.infos a.place _ _ came.in-A.is
      | in_default came ↦ came.look-is ∙ begun_k a.infos a.place _ _ came.in_default.is
    ])

first_steps : (j : Joined-rate) → j.match-rate.look.steps ≡ 0
unfolding seen
first_steps j = ap (λ (l : Look). l.steps) (begun j)

pub event_at-requires : goal.event_at-requires
event_at-requires c = c.requires.0.param

pub counted-requires : goal.counted-requires
counted-requires c = rw (first_steps (goal.at.counted-requires c).Joined-rate) (omega arith)

pub returns-then-rests_for : goal.returns-then-rests_for
returns-then-rests_for c = let a = c.args in
    rw (c.ended.ensures, c.counted.ensures)
    (rests a.param a.infos a.store.now a.place (begun (goal.at.returns-then-rests_for c).Joined-rate) (sym (c.rests_for.ensures ∙ ap (rests_for a.infos) c.event_at.ensures) ∙ c.if-rests_for.true) c.requires.1)

pub walk-requires : goal.walk-requires
walk-requires c = let a = c.args in
    let e = begun (goal.at.walk-requires c).Joined-rate in
    let infos = infos_is a.infos (place_for a.infos.rate a.place) _ e in
    let place : c.match-rate.look.place ≡ place_for a.infos.rate a.place = place_is a.infos (place_for a.infos.rate a.place) _ e in (
      rw infos c.requires.0,
      rw (place, infos) (place_inside a.infos a.place c.requires.1),
      not_walked a.infos (place_for a.infos.rate a.place) (param_of a.param).intrinsic (param_of a.param).last e,
    )

pub returns : goal.returns
returns c = let a = c.args in
    walks a.param a.infos a.store.now a.place (begun (goal.at.returns c).Joined-rate) (sym (c.rests_for.ensures ∙ ap (rests_for a.infos) c.event_at.ensures) ∙ c.if-rests_for.false) c.walk.ensures
