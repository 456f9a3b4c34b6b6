-- What a refusal means, by its line and its number. Assumes nothing.
use mathlib.Core.Path.{◌≡◌, sym, ap, ◌∙◌}
use mathlib.Core.Bool.{true, false}
use mathlib.Core.List.{List, [], ◌∷◌}
use Rattle.std.specs.Prelude.{Option, None, Some}
use Prim.Native.Nat.{ℕ, ◌+◌}
use native.Mathlib.Nat.{sub-zero}
use native.Mathlib.Omega.{arith}
use lib.ListN.{take}
use Rattle.text.specs.Words.{Word, same_word, words_of, words_from, end_of, taken, count_in}
use Rattle.text.proofs.Splitting.{from_start, split}
use Rattle.decimal.specs.Codes.{codes}
use Rattle.replies.specs.Plain.{table, meaning_in, meaning_of, reason}

module _ (s : List ℕ) (end : ℕ) (e : end ≡ end_of s 0) where
  first_word : words_of s ≡ take end s ∷ words_from s (end + 1)
  first_word = sym (from_start s) ∙ split s 0 (omega arith) ∙ rw (← e, sub-zero end)

  pub no_refusal : same_word (take end s) (codes "refused") ≡ false → reason (words_of s) ≡ []
  unfolding reason
  no_refusal h = ap reason first_word ∙ rw h

  module _ (h : same_word (take end s) (codes "refused") ≡ true) where
    refusal : (o : Option (ℕ × List Word)) → o ≡ taken (count_in 99) (words_from s (end + 1)) → reason (words_of s) ≡ meaning_of o
    unfolding reason
    refusal o said = ap reason first_word ∙ rw h (ap meaning_of (sym said))

    pub no_number : None ≡ taken (count_in 99) (words_from s (end + 1)) → reason (words_of s) ≡ []
    unfolding meaning_of
    no_number g = refusal None g

    pub a_number : {n : ℕ} {rest : List Word} → Some (n, rest) ≡ taken (count_in 99) (words_from s (end + 1)) → reason (words_of s) ≡ meaning_in table n
    unfolding meaning_of
    a_number g = refusal (Some _) g
