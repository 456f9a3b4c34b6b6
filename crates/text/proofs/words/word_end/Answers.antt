-- `text::words::word_end` meets its contract: the part searched is the rest of the line. Assumes nothing.
use mathlib.Core.Path.{◌≡◌, sym, ap, ◌∙◌, subst}
use mathlib.Core.List.{List}
use Prim.Native.Nat.{ℕ, ◌+◌, ◌≤◌}
use lib.ListN.{drop}
use lib.Seq.{take-length}
use Rattle.scan.specs.Bytes.{index_of, slice}
use Rattle.text.specs.Words.{end_of}
use Rattle.text.proofs.Splitting.{end_of_lem}
use Rattle.text.proofs.words.word_end.Goals as goal

pub returns : goal.returns
unfolding end_of slice
returns c =
    let a = c.args in
    let e : c.find.result ≡ end_of a.line.now a.at = c.find.ensures.0 ∙ ap (λ (s : List ℕ). a.at + index_of 32 (drop a.at s)) (take-length a.line.now) in
    (e, subst (λ (k : ℕ). a.at ≤ k) (sym e) (end_of_lem a.line.now a.at c.requires).0, c.find.ensures.1)
