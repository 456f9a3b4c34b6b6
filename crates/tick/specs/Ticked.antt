-- What a tick says, beside the parameter that it left.
use Rattle.param.specs.declared.AudioParam.{AudioParam}
use Rattle.param.specs.declared.Processed.{Processed}
use Rattle.tick.specs.declared.Ticked.{Ticked}

abbrev pub with_param : Ticked → AudioParam → Processed
with_param t p = record { verdict = t.verdict; param = p; steps = t.steps; current = t.current; one = t.one }

-- and without it
abbrev pub without_param : Processed → Ticked
without_param r = record { verdict = r.verdict; steps = r.steps; current = r.current; one = r.one }
