-- `scan::find` meets its contract: what `position` gives of the part. Assumes nothing.
use Rattle.std.proofs.Common.{◌≡◌, ℕ, ◌+◌, ◌-◌, ◌≤◌, List, length, take, drop, sym, ap, ◌∙◌, arith, length-take, length-drop}
use Rattle.scan.specs.Bytes.{index_of}
use Rattle.scan.proofs.Search.{found, missing, part_is}
use Rattle.scan.proofs.find.Goals as goal

long : (from to : ℕ) (line : List ℕ) → from ≤ to → to ≤ length line → from + length (take (to - from) (drop from line)) ≡ to
long from to line ordered inside = simp (length-take, length-drop) (omega arith)

pub returns-in-Some : goal.returns-in-Some
returns-in-Some c =
    let a = c.args in
    let f = found a.byte _ c.in-Some.ensures in
    (ap (λ (k : ℕ). a.from + k) (f.0 ∙ ap (index_of a.byte) (part_is a.from a.to a.line.now)), omega (arith, f.1, long a.from a.to a.line.now c.requires.0 c.requires.1))

pub returns-in-None : goal.returns-in-None
returns-in-None c =
    let a = c.args in
    (sym (long a.from a.to a.line.now c.requires.0 c.requires.1) ∙ ap (λ (k : ℕ). a.from + k) (missing a.byte _ c.in-None.ensures ∙ ap (index_of a.byte) (part_is a.from a.to a.line.now)), omega arith)
