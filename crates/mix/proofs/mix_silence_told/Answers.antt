-- `mix_silence_told` meets its contract. Assumes nothing.
use mathlib.Core.Path.{refl}
use mathlib.Core.Bool.{false≢true}
use Rattle.mix.proofs.mix_silence_told.Goals as goal

pub mix_silence_direct-requires : goal.mix_silence_direct-requires
mix_silence_direct-requires c = (c.is_direct.ensures c.if-is_direct.true, c.requires)

pub returns : goal.returns
returns c = record { rest = refl; written = λ e. absurd (false≢true e) }
