-- `desk::files::put_written` meets its contract: the file where it is answered, else the refusal. Assumes nothing.
use Rattle.std.proofs.Common.{Result}
use Rattle.card.specs.declared.Fault.{Fault}
use mathlib.Core.Path.{sym, ap, ◌∙◌}
use Prim.Native.Nat.{ℕ}
use native.Mathlib.Omega.{arith}
use lib.ListN.{take}
use lib.Seq.{length-take-le}
use Rattle.text.proofs.Writing.{put_same}
use Rattle.answers.specs.Answers.{fault_text}
use Rattle.desk.specs.Desk.{file_line}
use Rattle.desk.proofs.files.put_written.Goals as goal

pub slice_bounds-put_saved-end : goal.slice_bounds-put_saved-end
slice_bounds-put_saved-end c =
    sym (length-take-le c.args.said.at c.args.file.now (c.requires.0 c.in-Ok.is).0)

pub put_saved-requires : goal.put_saved-requires
put_saved-requires c =
    let h = c.requires.0 c.in-Ok.is in
    omega (arith, h.1, length-take-le c.args.said.at c.args.file.now h.0, c.requires.1)

pub returns-in-Ok : goal.returns-in-Ok
unfolding file_line
returns-in-Ok c =
    let h = c.requires.0 c.in-Ok.is in
    record {
      put = put_same (ap (λ (v : Result Unit Fault). file_line v c.args.said.at (take c.args.said.at c.args.file.now)) (sym c.in-Ok.is)) c.put_saved.ensures.put;
      upper_bound = omega (arith, h.1, length-take-le c.args.said.at c.args.file.now h.0, c.put_saved.ensures.upper_bound);
    }

pub returns-in-Err : goal.returns-in-Err
unfolding file_line
returns-in-Err c = record {
  put = put_same
      (ap (λ (n : ℕ). fault_text n c.args.said.at) c.number_of.ensures
      ∙ ap (λ (v : Result Unit Fault). file_line v c.args.said.at (take c.args.said.at c.args.file.now)) (sym c.in-Err.is))
      c.put_fault.ensures.put;
  upper_bound = omega (arith, c.put_fault.ensures.upper_bound);
}
