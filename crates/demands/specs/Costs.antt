-- A session of the code (02, C-20): calls in any order, each lent any store, and what each gives, meeting its contract; its totals as they are seen.
use Rattle.std.specs.Prelude.{List, [], ◌∷◌, Float}
use Rattle.rules.specs.Block.{Call, Command}
use Rattle.param.specs.declared.AudioParam.{AudioParam}
use Rattle.param.specs.declared.Processed.{Processed}
use Rattle.param.specs.Param.{param_of}
use Rattle.param.specs.Processed.{Processes}
use Rattle.costs.specs.declared.Totals.{Totals}
use Rattle.costs.specs.Costs.{Asked, command, block, waiting_in, nothing, plus}
use Rattle.costs.specs.Seen.{command_seen, block_seen}
use Rattle.demands.specs.Run.{Done, MeetsCall}

-- what `process` gives, and the output and store after it
pub record Rendered : Type 0 where
  pub result : Processed
  pub output : List Float
  pub store : List Float

pub data Given : Type 0 where
  done : Done → Given
  rendered : Rendered → Given

-- the contract of each call
pub data Meets (p : AudioParam) : Asked → Given → Type 0 where
  called : {store : List Float} {c : Command} {r : Done} → MeetsCall (record { param = p; store = store }) c r → Meets p (command store c) (done r)
  played : {store : List Float} {c : Call} {r : Rendered} → Processes p store c r.result r.output r.store → Meets p (block store c) (rendered r)

unfoldable pub left_by_given : Given → AudioParam
left_by_given (done r) = r.outcome.param
left_by_given (rendered r) = r.result.param

-- what is seen of a call on the parameter p
unfoldable pub seen_of : AudioParam → Given → Totals
seen_of p (done r) = command_seen (waiting_in (param_of p)) (waiting_in (param_of r.outcome.param))
seen_of p (rendered r) =
    block_seen r.result.verdict r.result.steps (waiting_in (param_of p)) (waiting_in (param_of r.result.param))

unfoldable pub seen_totals : AudioParam → List Given → Totals
seen_totals p [] = nothing
seen_totals p (g ∷ gs) = plus (seen_of p g) (seen_totals (left_by_given g) gs)
