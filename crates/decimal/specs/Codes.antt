-- A text as the codes of its characters, so that a definition can quote it.
use Rattle.std.specs.Prelude.{ℕ, List}
use Prim.Native.String.{String, [], ◌∷◌}
use Prim.Native.Char.{code}

abbrev pub codes : String → List ℕ
codes [] = List.[]
codes (c ∷ s) = List.◌∷◌ (code c) (codes s)
