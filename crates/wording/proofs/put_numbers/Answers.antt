-- `wording::put_numbers` meets its contract: how many words, then they. Assumes nothing.
use mathlib.Core.Path.{ap}
use Prim.Native.Nat.{ℕ}
use native.Mathlib.Omega.{arith}
use Rattle.text.specs.Digits.{decimal_of}
use Rattle.text.proofs.Writing.{put_then, length_decimal}
use Rattle.wording.specs.declared.Kind.TheVariants as Kind
use Rattle.wording.specs.Plain.{words_at, in_front, spaced, fields, numbers}
use Rattle.wording.proofs.Steps.{ran-same, ran-after, passed_inside}
use borrow.Author.Rules.{rules}
use Rattle.wording.proofs.put_numbers.Goals as goal

pub put_fields-requires : goal.put_fields-requires
put_fields-requires c = (search rules, omega (arith, c.put_byte-to.ensures.place, c.put_count-to.ensures.place, length_decimal c.count_words-n.result))

pub returns : goal.returns
unfolding numbers spaced
returns c =
    let ws = words_at c.args.line.now c.args.from in (
      ran-same _ _ _ _ _ (ap (λ (n : ℕ). in_front (spaced (decimal_of n)) (fields Kind.Value n ws)) c.count_words-n.ensures)
          (ran-after _ _ _ _ (put_then c.put_byte-to.ensures c.put_count-to.ensures (omega (arith, c.put_byte-to.ensures.place))) (omega (arith, c.put_byte-to.ensures.place, c.put_count-to.ensures.place, length_decimal c.count_words-n.result))
          c.put_fields.ensures.0),
      passed_inside _ _ _ _ _ (omega (arith, c.put_byte-to.ensures.place, c.put_count-to.ensures.place, length_decimal c.count_words-n.result)) c.put_fields.ensures.1,
    )
