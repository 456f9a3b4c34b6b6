-- What the comparison asks of the answers of a row's blocks.
use Rattle.param.specs.Param.{SoundParam}
use Rattle.sheet.specs.declared.Blocks.{Blocks}

pub record SoundBlocks (r : Blocks) : Type 0 where
  pub first : SoundParam r.first.param
  pub second : SoundParam r.second.param
