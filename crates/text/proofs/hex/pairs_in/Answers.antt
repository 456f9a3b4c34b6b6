-- `text::hex::pairs_in` meets its contract. The invariant of its loop: the word's bytes are those read, and those of the digits left behind them.
-- Assumes nothing.
use mathlib.Core.Path.{◌≡◌, sym, ap, ◌∙◌}
use Prim.Native.Nat.{ℕ, ◌*◌, ◌/◌}
use native.Mathlib.Omega.{arith}
use lib.ListN.{length, take, drop}
use Rattle.text.specs.Hex.{pairs_in, sized, sized_at}
use Rattle.text.proofs.Reading.{bits_below}
use Rattle.text.proofs.Pairs.{behind, at_first, next_is, next_not, all_read, one_left}
use Rattle.text.proofs.hex.pairs_in.Goals as goal

pub loop-i-init : goal.loop-i-init
loop-i-init c = at_first _

pub returns-in_err-value : goal.returns-in_err-value
unfolding sized sized_at
returns-in_err-value c =
    let l = c.loop-i in
    ap (sized_at l.bytes) c.from_residual.ensures
    ∙ sym (ap sized (l.invariant ∙ next_not _ l.bytes l.i (omega (arith, c.loop-i-test.true)) (sym c.in_err-value.ensures)))

pub overflow_cast-bytes : goal.overflow_cast-bytes
overflow_cast-bytes c = record { fits = bits_below 2 _ (sym c.in_ok-value.ensures) }

pub loop-i-preserved : goal.loop-i-preserved
loop-i-preserved c =
    let l = c.loop-i in
    let more = c.loop-i-test.true in
    l.invariant ∙ next_is _ l.bytes l.i (omega (arith, more)) (omega (arith, more, l.auto.bytes, c.requires)) (sym c.in_ok-value.ensures)

pub returns-then-word-n : goal.returns-then-word-n
unfolding sized sized_at
returns-then-word-n c =
    let l = c.loop-i in
    let all : l.i ≡ length c.args.word.now / 2 = omega (arith, l.auto.i-end, c.loop-i-test.false) in
    sym (ap sized (l.invariant ∙ one_left _ l.bytes l.i (omega (arith, all, c.if-word-n.true))))

pub returns : goal.returns
unfolding sized sized_at
returns c =
    let l = c.loop-i in
    let n = length c.args.word.now / 2 in
    let all : l.i ≡ n = omega (arith, l.auto.i-end, c.loop-i-test.false) in
    sym (ap sized (l.invariant ∙ ap (λ (k : ℕ). behind (take k l.bytes) (pairs_in (drop (2 * k) c.args.word.now))) all) ∙ all_read _ l.bytes n (omega (arith, l.auto.bytes, c.requires)) c.if-word-n.false)
