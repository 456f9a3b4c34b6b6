-- `beside::same_param` meets its contract: each state gives its parameter back. Assumes nothing.
use Rattle.std.proofs.lemmas.Slice.Eq.{slice_eq-Decides}
use Rattle.std.proofs.lemmas.Bool.Decides.{Decides-eqb}
use Rattle.beside.proofs.Same.{by_states}
use Rattle.beside.proofs.same_param.Goals as goal

pub returns : goal.returns
returns c =
    let d = slice_eq-Decides Decides-eqb _ _ _ c.eq.ensures in
    by_states c.requires.0 c.requires.1 c.encode.ensures c.encode-2.ensures (record { so = d.0; always = d.1 })
