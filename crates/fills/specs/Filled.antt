-- What a run of samples leaves of a block's places.
use Rattle.std.specs.Prelude.{◌≡◌, Bool, true, List, ℕ, ◌≤◌, leb, length, take, Float}
use Rattle.rules.specs.declared.AutomationRate.{AutomationRate}
use Rattle.rules.specs.declared.AutomationRate.TheVariants as Rate
use Rattle.rules.specs.declared.BlockInfos.{BlockInfos}
use Rattle.rules.specs.Numbers.{filled}
use Rattle.rules.specs.Walk.{flushed_for}

-- The places filled, k, and those to fill, up to n, are in the buffer. Its length is what a place's time is worked out for.
pub record Room (k n : ℕ) (b : List Float) : Type 0 where
  pub filled : k ≤ length b
  pub upto : n ≤ length b
  pub most : length b ≤ 1024

-- Of the buffer b the first k places were filled. In the buffer c the first r are: those, and the samples up to place n.
pub record Filled (f : BlockInfos) (n : ℕ) (sample : Float → Float) (k : ℕ) (b : List Float) (r : ℕ) (c : List Float) : Type 0 where
  pub small : r ≤ length c
  pub whole : length c ≡ length b
  pub values : take r c ≡ filled f n sample (take k b)

-- The first k places, flushed where the target is 0.
pub record Flushed (target : Float) (k : ℕ) (b c : List Float) : Type 0 where
  pub whole : length c ≡ length b
  pub values : take k c ≡ flushed_for target (take k b)

-- whether a run from place k up to place n writes nothing
unfoldable pub writes_none : AutomationRate → ℕ → ℕ → Bool
writes_none Rate.A k n = leb n k
writes_none Rate.K k n = true
