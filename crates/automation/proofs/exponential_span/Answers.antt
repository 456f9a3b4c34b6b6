-- `exponential_span` meets its contract: a span. Assumes nothing.
use Rattle.std.proofs.Common.{rules, of_calls}
use mathlib.Core.Path.{◌≡◌, ◌∙◌}
use mathlib.Core.List.{[]}
use lib.IntN.{ℤ}
use lib.Ieee as Ieee
use lib.Ieee.{Float, binary64}
use mir.Syntax.{w64}
use mir.Val.{to_z, of_z}
use mir.Facts.{to_z-of_z}
use Rattle.rules.specs.declared.Event.{Event}
use Rattle.rules.specs.Queue.{alone}
use Rattle.rules.specs.Samples.{ratio_log, ramp_sample}
use Rattle.rules.specs.Walk.{span_turn}
use Rattle.samples.specs.At.{exponential_at}
use Rattle.automation.specs.Walks.{walk_as}
use Rattle.automation.proofs.Bodies.{ready_room, filled_at, Spanned, span_few, span_answers}
use Rattle.automation.proofs.exponential_span.Goals as goal
use Rattle.automation.proofs.exponential_span.Goals.{After-with_filled-w}

-- ---- behind the fill, at k

module _ (k : After-with_filled-w) where
  -- L as it is handed on: a signed number is read back from its bits
  log_is : to_z w64 (of_z w64 k.ratio_log-log.result) ≡ ratio_log k.args.ratio
  log_is = to_z-of_z {w = w64} (record { sfits = k.ratio_log-log.type_inv }) ∙ k.ratio_log-log.ensures

  -- the ramp's sample, by its L
  abbrev sample : ℤ → Float → Float
  sample l =
      let duration = Ieee.sub binary64 k.args.time k.args.from.time in
      ramp_sample k.args.value duration (exponential_at k.args.from.time duration k.args.from.value l)

  abbrev event : Event
  event = Event.Exponential k.args.value k.args.time k.args.hold

  spans : Spanned
      k.args.infos
      k.args.buffer.now
      []
      event
      (span_turn
      k.args.infos
      (walk_as k.args.walk k.args.buffer.now)
      (alone event)
      k.args.time
      k.args.value
      k.args.hold
      (sample (ratio_log k.args.ratio)))
      k.args.value
      k.args.hold
      (sample (to_z w64 (of_z w64 k.ratio_log-log.result)))
      k.hold_or-end_time.result
      k.with_filled-w.result
      k.fill_exponential_ramp-filled.new.buffer
  spans =
      record {
        before = k.args.walk;
        time = k.args.time;
        n = k.fill_exponential_ramp-filled.result;
        turn_is = rw (← log_is);
        end_is = k.hold_or-end_time.ensures;
        filled = filled_at k.end_place_of-end_index.ensures k.fill_exponential_ramp-filled.ensures;
        walk_is = k.with_filled-w.ensures;
        few = k.requires.finished;
      }

pub fill_exponential_ramp-filled-requires : goal.fill_exponential_ramp-filled-requires
fill_exponential_ramp-filled-requires c = ready_room c.requires c.hold_or-end_time.result c.end_place_of-end_index.ensures

pub ramp_end-requires : goal.ramp_end-requires
ramp_end-requires c = (search (rules, of_calls), span_few (spans (goal.at.ramp_end-requires c).After-with_filled-w))

pub returns : goal.returns
returns c =
    let k = (goal.at.returns c).After-with_filled-w in
    span_answers (spans k) (c.ramp_end.ensures (sample k (to_z w64 (of_z w64 k.ratio_log-log.result))) (λ t v p. search rules))
