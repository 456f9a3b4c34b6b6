-- A row's two blocks, by what each call ensures. Assumes nothing.
use mathlib.Core.Path.{◌≡◌, ap, ap₂, ◌∙◌}
use mathlib.Core.List.{List, []}
use lib.Ieee.{Float}
use Rattle.rules.specs.Block.{Param, Answer, Call, answered}
use Rattle.block.specs.Asked.{asked}
use Rattle.param.specs.declared.AudioParam.{AudioParam}
use Rattle.param.specs.declared.Outcome.{Outcome}
use Rattle.param.specs.declared.Processed.{Processed}
use Rattle.param.specs.Param.{param_of, struct_of}
use Rattle.param.specs.Processed.{Processes}
use Rattle.param.proofs.Calls.{struct_back}
use Rattle.sheet.specs.declared.Row.{Row}
use Rattle.sheet.specs.Rows.{n0, n4}
use Rattle.sheet.specs.Played.{n1, input_of, set_up, first_block, second_block, Applies, SetsUp, Says, PlaysRow}
use Rattle.sheet.proofs.Asks.{after-calls}

-- a block behind calls, by what these leave
module _ {p : AudioParam} {q : Param} {s t output after : List Float} {c : Call} {r : Processed} (b : Processes p s c r output after) (here : param_of p ≡ q) (there : s ≡ t) where
  same : answered (param_of p) s c ≡ answered q t c
  same = ap₂ (λ (x : Param) (y : List Float). answered x y c) here there

  says : Says (answered q t c) r output
  says =
      record {
        verdict = b.verdict ∙ ap (λ (a : Answer). a.verdict) same;
        param = b.param ∙ ap (λ (a : Answer). struct_of a.param) same;
        steps = b.steps ∙ ap (λ (a : Answer). a.steps) same;
        current = b.current ∙ ap (λ (a : Answer). a.current) same;
        one = b.one ∙ ap (λ (a : Answer). a.one_valued) same;
        written = b.written ∙ ap (λ (a : Answer). a.output) same;
        sound = b.sound;
      }

  leaves : after ≡ (answered q t c).store
  leaves = b.left ∙ ap (λ (a : Answer). a.store) same

  carries : param_of r.param ≡ (answered q t c).param
  carries = ap param_of says.param ∙ struct_back _

module _ {row : Row} {s s₁ s₂ s₃ s₄ output output' later later' : List Float} {p : AudioParam} {r₁ r₂ : Processed} {m : Outcome} where
  pub plays_row : SetsUp row s p s₁ → Processes p s₁ (asked n0 n1 row.count (input_of row.noisy) output) r₁ output' s₂ → Applies r₁.param s₂ row.between m s₃
      → Processes m.param s₃ (asked n4 n1 row.again [] later) r₂ later' s₄ → PlaysRow row s output later (record { first = r₁; second = r₂ }) output' later' s₄
  unfolding first_block second_block
  plays_row a b₁ c b₂ =
      let made : param_of p ≡ (set_up row s).param = ap param_of a.param ∙ struct_back _ in
      let called = after-calls c (carries b₁ made a.left) (leaves b₁ made a.left) in
      record { first = says b₁ made a.left; second = says b₂ called.0 called.1; left = leaves b₂ called.0 called.1 }
