-- `target_end` meets its contract, case by case. Assumes nothing.
use Rattle.std.proofs.Common.{Option, Some, None}
use Rattle.std.specs.Float.{Float}
use mathlib.Core.Path.{◌≡◌, refl, sym, ◌∙◌}
use mathlib.Core.Bool.{true, false}
use lib.Ieee as Ieee
use Rattle.rules.specs.declared.BlockInfos.{BlockInfos}
use Rattle.rules.specs.Queue.{hold_or}
use Rattle.rules.specs.Walk.{end_by_hold, end_by_next}
use Rattle.laws.proofs.Tests.{clash}
use Rattle.laws.proofs.Order.{lt_le, lt_not_le}
use Rattle.plain.proofs.target_end.Goals as goal
use Rattle.plain.proofs.target_end.Goals.{Else-hold_or-infos}

-- a hold time below the next block time is the end; no other counts
hold_below : (f : BlockInfos) (h e : Option Float) → Ieee.lt (hold_or h f.next) f.next ≡ true → h ≡ end_by_hold f h e
unfolding end_by_hold hold_or
hold_below f None e b = clash (lt_le f.next f.next b) (lt_not_le f.next f.next b)
hold_below f (Some c) e b = rw b

hold_behind : (f : BlockInfos) (h e : Option Float) → Ieee.lt (hold_or h f.next) f.next ≡ false → end_by_hold f h e ≡ e
unfolding end_by_hold hold_or
hold_behind f None e b = refl
hold_behind f (Some c) e b = rw b

unheld : (k : Else-hold_or-infos) (e : Option Float) → let a = k.args in end_by_hold a.infos a.hold e ≡ e
unheld k e = let a = k.args in hold_behind a.infos a.hold e (rw k.hold_or.ensures at k.if-hold_or-infos.false)

pub returns-then-hold_or-infos : goal.returns-then-hold_or-infos
returns-then-hold_or-infos c = hold_below c.args.infos c.args.hold _ (rw c.hold_or.ensures at c.if-hold_or-infos.true)

pub returns-in_default : goal.returns-in_default
unfolding end_by_next
returns-in_default c = sym (unheld (goal.at.returns-in_default c).Else-hold_or-infos _ ∙ rw c.in_default.is)

pub returns-then-is_ramp : goal.returns-then-is_ramp
unfolding end_by_next
returns-then-is_ramp c = sym (unheld (goal.at.returns-then-is_ramp c).Else-hold_or-infos _ ∙ rw (c.in-Some.is, ← c.is_ramp.ensures, c.if-is_ramp.true, c.later_of.ensures))

pub returns-then-filed_under-infos : goal.returns-then-filed_under-infos
unfolding end_by_next
returns-then-filed_under-infos c = sym (unheld (goal.at.returns-then-filed_under-infos c).Else-hold_or-infos _ ∙ rw (c.in-Some.is, ← c.is_ramp.ensures, c.if-is_ramp.false, ← c.filed_under.ensures, c.if-filed_under-infos.true, c.filed_under.ensures, c.filed_under-then-filed_under-infos.ensures))

pub returns : goal.returns
unfolding end_by_next
returns c = sym (unheld (goal.at.returns c).Else-hold_or-infos _ ∙ rw (c.in-Some.is, ← c.is_ramp.ensures, c.if-is_ramp.false, ← c.filed_under.ensures, c.if-filed_under-infos.false))
