-- `answers::put_verdict` meets its contract: `ok`, or the number of the refusal. Assumes nothing.
use mathlib.Core.Path.{sym, ap, ◌∙◌}
use native.Mathlib.Omega.{arith}
use mathlib.Core.List.{[], ◌∷◌, ◌++◌}
use Prim.Native.Nat.{ℕ}
use Rattle.text.specs.Digits.{decimal_of}
use Rattle.text.proofs.Writing.{put_same, put_then}
use Rattle.answers.specs.Answers.{verdict_text}
use Rattle.answers.proofs.put_verdict.Goals as goal

pub returns-in-Ok : goal.returns-in-Ok
unfolding verdict_text
returns-in-Ok c = record {
  put = put_same (ap verdict_text (sym c.in-Ok.is)) c.put_word.ensures;
  upper_bound = omega arith;
}

pub returns-in-Err : goal.returns-in-Err
unfolding verdict_text
returns-in-Err c = record {
  put = put_same (ap (λ (n : ℕ). (114 ∷ 101 ∷ 102 ∷ 117 ∷ 115 ∷ 101 ∷ 100 ∷ []) ++ (32 ∷ decimal_of n)) c.number_of.ensures ∙ ap verdict_text (sym c.in-Err.is))
      (put_then c.put_word-next.ensures c.put_count_behind.ensures.put (omega arith));
  upper_bound = omega arith;
}
