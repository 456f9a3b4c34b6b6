-- `CardReader::end` meets its contract. Assumes nothing.
use mathlib.Core.Path.{◌≡◌, sym, ap}
use mathlib.Core.Bool.{true}
use mathlib.Core.List.{[]}
use Prim.Native.Nat.{ℕ}
use native.Mathlib.Omega.{arith}
use lib.ListN.{length, take}
use lib.Seq.{length-take-le}
use Rattle.refusals.proofs.Rows.{found}
use Rattle.card.specs.Card.{is_accepted}
use Rattle.card_reader.proofs.Does.{refuses, stays, same_turn}
use Rattle.card_reader.proofs.Ends.{end_over, end_field, end_done, end_unranged}
use Rattle.card_reader.proofs.CardReader.end.Goals as goal
use Rattle.card_reader.proofs.CardReader.end.Goals.{Else-self-gt0, Else-not-is_accepted, Start}

kept : (c : Else-not-is_accepted) → is_accepted c.args.self.verdict ≡ true
kept c = found c.is_accepted.ensures c.if-not-is_accepted.false

-- what is left over stands in the window
left : (s : Start) → length (take s.args.self.held s.args.window.now) ≡ s.args.self.held
left s = length-take-le _ _ (omega (arith, s.requires.1.long, s.requires.1.room))

nothing : (c : Else-self-gt0) → take c.args.self.held c.args.window.now ≡ []
nothing c =
    let none : c.args.self.held ≡ 0 = omega (arith, c.if-self-gt0.false) in
    ap (λ (n : ℕ). take n c.args.window.now) none

pub returns-then-not-is_accepted : goal.returns-then-not-is_accepted
returns-then-not-is_accepted c =
    stays c.requires.0 (end_over _ _ (found c.is_accepted.ensures c.if-not-is_accepted.true))

pub slice_bounds-field_turn-end : goal.slice_bounds-field_turn-end
slice_bounds-field_turn-end c = sym (left (goal.at.slice_bounds-field_turn-end c).Start)

pub field_turn-requires : goal.field_turn-requires
field_turn-requires c = (c.requires.0, omega (arith, left (goal.at.field_turn-requires c).Start, c.if-self-gt0.true))

pub returns-then-self-gt0 : goal.returns-then-self-gt0
returns-then-self-gt0 c =
    let s = (goal.at.returns-then-self-gt0 c).Start in
    same_turn (end_field _ _ (kept (goal.at.returns-then-self-gt0 c).Else-not-is_accepted) (omega (arith, left s, c.if-self-gt0.true))) c.field_turn.ensures

pub returns-then-self : goal.returns-then-self
returns-then-self c = let e = (goal.at.returns-then-self c).Else-self-gt0 in rw (nothing e) (stays c.requires.0 (end_done _ (kept (goal.at.returns-then-self c).Else-not-is_accepted) c.if-self.true))

pub returns-else-self : goal.returns-else-self
returns-else-self c =
    let e = (goal.at.returns-else-self c).Else-self-gt0 in
    rw (nothing e) (refuses c.requires.0 (end_unranged _ (kept (goal.at.returns-else-self c).Else-not-is_accepted) c.if-self.false) c.refused.ensures)
