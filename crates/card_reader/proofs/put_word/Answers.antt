-- `put_word` meets its contract. The invariant of its loop: with the rest of the word written behind, the buffer is what it is to be.
-- Assumes nothing.
use mathlib.Core.Path.{refl, sym, ap, ◌∙◌}
use Prim.Native.Nat.{ℕ}
use native.Mathlib.Nat.{add-zero}
use native.Mathlib.Omega.{arith}
use lib.ListN.{drop_of_length-le}
use borrow.Author.Rules.{rules}
use Rattle.text.specs.Put.{put}
use Rattle.text.proofs.Writing.{put_none, put_next}
use Rattle.card_reader.proofs.put_word.Goals as goal

pub loop-i-init : goal.loop-i-init
loop-i-init c = (search rules, refl, ap (λ (k : ℕ). put c.args.out.now k c.args.word.now) (sym (add-zero c.args.at)))

pub loop-i-preserved : goal.loop-i-preserved
loop-i-preserved c =
    let l = c.loop-i in
    (search rules, search rules, l.invariant.2 ∙ put_next _ _ _ _ 0 c.loop-i-test.true (omega arith))

pub returns : goal.returns
returns c =
    let l = c.loop-i in
    record { bytes = sym (l.invariant.2 ∙ ap (put l.out _) (drop_of_length-le _ c.loop-i-test.false) ∙ put_none _ _); place = search rules }
