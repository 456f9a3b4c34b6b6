-- `decimal::read::named_in` meets its contract: the three words, then a decimal. Assumes nothing.
use Rattle.std.proofs.Common.{◌≡◌, ℕ, true, false, List, [], ◌∷◌, sym, ◌∙◌}
use lib.Ieee.{div, of_bits, nan_bits}
use Rattle.text.specs.Words.{same_word}
use Rattle.decimal.specs.Decimals.{named_in}
use Rattle.decimal.proofs.read.named_in.Goals as goal

-- the words
abbrev nan_word : List ℕ
nan_word = 78 ∷ 97 ∷ 78 ∷ []

abbrev inf_word : List ℕ
inf_word = 105 ∷ 110 ∷ 102 ∷ []

abbrev minus_inf_word : List ℕ
minus_inf_word = 45 ∷ inf_word

pub returns-then-same : goal.returns-then-same
unfolding named_in div of_bits
returns-then-same c =
    let e : same_word c.args.word.now nan_word ≡ true = sym c.same.ensures ∙ c.if-same.true in
    rw e

pub float_from_bits-result : goal.float_from_bits-result
unfolding nan_bits
float_from_bits-result c = tt

pub returns-then-same-2 : goal.returns-then-same-2
unfolding named_in of_bits
returns-then-same-2 c =
    let d : same_word c.args.word.now nan_word ≡ false = sym c.same.ensures ∙ c.if-same.false in
    let e : same_word c.args.word.now inf_word ≡ true = sym c.same-2.ensures ∙ c.if-same-2.true in
    rw (d, e)

pub float_from_bits-result-then-same-3 : goal.float_from_bits-result-then-same-3
unfolding nan_bits
float_from_bits-result-then-same-3 c = tt

pub returns-then-same-3 : goal.returns-then-same-3
unfolding named_in of_bits
returns-then-same-3 c =
    let b : same_word c.args.word.now nan_word ≡ false = sym c.same.ensures ∙ c.if-same.false in
    let d : same_word c.args.word.now inf_word ≡ false = sym c.same-2.ensures ∙ c.if-same-2.false in
    let e : same_word c.args.word.now minus_inf_word ≡ true = sym c.same-3.ensures ∙ c.if-same-3.true in
    rw (b, d, e)

pub returns : goal.returns
unfolding named_in
returns c =
    let b : same_word c.args.word.now nan_word ≡ false = sym c.same.ensures ∙ c.if-same.false in
    let d : same_word c.args.word.now inf_word ≡ false = sym c.same-2.ensures ∙ c.if-same-2.false in
    let e : same_word c.args.word.now minus_inf_word ≡ false = sym c.same-3.ensures ∙ c.if-same-3.false in
    rw (b, d, e) c.decimal_in.ensures
