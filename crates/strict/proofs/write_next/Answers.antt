-- `strict::write_next` meets its contract: by the kind of line. Assumes nothing.
use mathlib.Core.Path.{ap, ◌∙◌}
use native.Mathlib.Omega.{arith}
use Rattle.std.specs.Prelude.{Some}
use Rattle.wording.proofs.Steps.{part_length}
use Rattle.lines.proofs.Taking.{line_in}
use Rattle.strict.proofs.write_next.Goals as goal

pub write_line-requires : goal.write_line-requires
write_line-requires c =
    let here = c.in-Some-At in
    let within = line_in _ (here.is ∙ ap Some (rw here.is at here.field-0-is)) c.requires.0 in
    omega (arith, part_length c.args.input.now here.from here.to within.1, within.1, c.requires.1, c.requires.2)
