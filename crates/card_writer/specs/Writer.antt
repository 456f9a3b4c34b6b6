-- What the functions of the writer ensure, by the rules of `card`.
use Rattle.std.specs.Prelude.{◌≡◌, List, ℕ, Float}
use Rattle.rules.specs.Queue.{Waiting, attached}
use Rattle.rules.specs.Block.{Param}
use Rattle.param.specs.declared.AudioParam.{AudioParam}
use Rattle.param.specs.Param.{param_of}
use Rattle.card.specs.declared.Judged.{Judged}
use Rattle.card.specs.Card.{saved}
use Rattle.card.specs.Back.{FitBounds, FitWaiting}

-- the waiting events, with their numbers
abbrev pub schedule_of : AudioParam → List Float → List Waiting
schedule_of p store = attached (param_of p).queue store

-- the floats that a file has of a parameter are of their formats, so that their bits give them back
pub record Printable (p : Param) (store : List Float) : Type 0 where
  pub bounds : FitBounds p.bounds
  pub events : FitWaiting (attached p.queue store)

-- the parameter p, its store, and what the slice held, to what is said and what the slice holds
pub record Saves (p : AudioParam) (store : List Float) (out : List ℕ) (r : Judged) (after : List ℕ) : Type 0 where
  pub saved : record { says = r; out = after } ≡ saved (param_of p) store out
  pub printable : Printable (param_of p) store
