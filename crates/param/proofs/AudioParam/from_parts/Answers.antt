-- `from_parts` meets its contract. Assumes nothing.
use mathlib.Core.Path.{refl}
use native.Mathlib.Omega.{arith}
use Rattle.param.specs.declared.AudioParam.{AudioParam}
use Rattle.param.specs.Param.{parts_of}
use Rattle.param.proofs.Parts.{too_many, restores_not, restores_all, restores_none, restores_bad}
use Rattle.param.proofs.AudioParam.from_parts.Goals as goal
use Rattle.param.proofs.AudioParam.from_parts.Goals.{Start}

abbrev parts : Start → AudioParam
parts c = let a = c.args in parts_of a.bounds a.rate a.edition a.intrinsic a.timeline a.block a.end a.last

pub returns-then-timeline-gt-EVENTS : goal.returns-then-timeline-gt-EVENTS
returns-then-timeline-gt-EVENTS c = restores_not (too_many (parts (goal.at.returns-then-timeline-gt-EVENTS c).Start) c.if-timeline-gt-EVENTS.true) c.refused.ensures

pub returns-in_default : goal.returns-in_default
returns-in_default c =
    restores_none (parts (goal.at.returns-in_default c).Start) (omega arith) c.take.ensures c.has_played.ensures c.in_default.is c.refused-in_default.ensures

pub returns-then-not-are_bounds-clear : goal.returns-then-not-are_bounds-clear
returns-then-not-are_bounds-clear c =
    restores_bad
    (parts (goal.at.returns-then-not-are_bounds-clear c).Start)
    (omega arith)
    c.take.ensures
    c.has_played.ensures
    c.are_bounds.ensures
    c.is_last_clear.ensures
    c.are_block_times.ensures
    c.if-not-are_bounds-clear.true
    c.refused-then-not-are_bounds-clear.ensures

pub returns : goal.returns
returns c =
    restores_all
    (parts (goal.at.returns c).Start)
    (omega arith)
    c.take.ensures
    c.has_played.ensures
    c.are_bounds.ensures
    c.is_last_clear.ensures
    c.are_block_times.ensures
    c.in-Some.is
    c.if-not-are_bounds-clear.false
    refl
