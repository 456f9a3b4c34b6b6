-- `field::has_no_constant` meets its contract. Assumes nothing.
use mathlib.Core.Path.{sym, ap, ◌∙◌}
use native.Mathlib.Omega.{arith}
use borrow.Author.Tests.{ne_eqb}
use Rattle.rules.specs.Numbers.{is_zero}
use Rattle.card.specs.Card.{tag_of}
use Rattle.card.proofs.Fields.{room, target_room}
use Rattle.card_reader.proofs.Events.{constant_in, no_constant_in}
use Rattle.card_reader.proofs.field.has_no_constant.Goals as goal

pub bounds-bytes-0 : goal.bounds-bytes-0
bounds-bytes-0 c = omega (arith, room c.args.bytes.now c.requires.0.whole c.requires.0.right)

pub real_at-requires : goal.real_at-requires
unfolding tag_of
real_at-requires c = target_room c.args.bytes.now c.requires.0.whole c.requires.0.right c.if-bytes-eq4.true

pub returns-then-bytes-eq4 : goal.returns-then-bytes-eq4
unfolding tag_of
returns-then-bytes-eq4 c =
    c.is_zero.ensures ∙ ap is_zero c.real_at.ensures ∙ sym (constant_in c.args.bytes.now c.if-bytes-eq4.true)

pub returns-else-bytes-eq4 : goal.returns-else-bytes-eq4
unfolding tag_of
returns-else-bytes-eq4 c = ne_eqb _ 4 c.if-bytes-eq4.false ∙ sym (no_constant_in c.args.bytes.now c.requires.0.tag c.requires.1 c.if-bytes-eq4.false)
