-- `compute_linear_ramp_automation` meets its contract: a span. Assumes nothing.
use Rattle.std.proofs.Common.{rules, of_calls}
use mathlib.Core.Path.{ap, ◌∙◌}
use mathlib.Core.List.{[]}
use lib.Ieee as Ieee
use lib.Ieee.{binary64}
use Rattle.rules.specs.declared.Event.{Event}
use Rattle.rules.specs.declared.Finished.{Finished}
use Rattle.rules.specs.Queue.{alone}
use Rattle.rules.specs.Samples.{linear_sample}
use Rattle.rules.specs.Walk.{linear_turn}
use Rattle.automation.specs.Walks.{walk_as, with_filled, with_last}
use Rattle.automation.proofs.Bodies.{ready_room, filled_at, Spanned, span_few, span_answers, linear_is}
use Rattle.automation.proofs.compute_linear_ramp_automation.Goals as goal
use Rattle.automation.proofs.compute_linear_ramp_automation.Goals.{After-with_filled-w}

-- ---- behind the fill, at k

module _ (k : After-with_filled-w) where
  abbrev from : Finished
  from = k.start_of-last_event.result

  abbrev event : Event
  event = Event.Linear k.args.value k.args.time k.args.hold

  spans : Spanned
      k.args.infos
      k.args.buffer.now
      []
      event
      (linear_turn k.args.infos (walk_as k.args.walk k.args.buffer.now) (alone event) k.args.value k.args.time k.args.hold)
      k.args.value
      k.args.hold
      (linear_sample from k.args.value (Ieee.sub binary64 k.args.time from.time))
      k.hold_or-end_time.result
      k.with_filled-w.result
      k.fill_linear_ramp-filled.new.buffer
  spans =
      record {
        before = with_last from k.args.walk;
        time = k.args.time;
        n = k.fill_linear_ramp-filled.result;
        turn_is = linear_is k.args.infos k.args.walk k.args.buffer.now k.start_of-last_event.ensures _ _ _ _;
        end_is = k.hold_or-end_time.ensures;
        filled = filled_at k.end_place_of-end_index.ensures k.fill_linear_ramp-filled.ensures;
        walk_is = k.with_filled-w.ensures ∙ ap (with_filled k.fill_linear_ramp-filled.result) k.with_last.ensures;
        few = k.requires.finished;
      }

pub fill_linear_ramp-filled-requires : goal.fill_linear_ramp-filled-requires
fill_linear_ramp-filled-requires c = ready_room c.requires c.hold_or-end_time.result c.end_place_of-end_index.ensures

pub ramp_end-requires : goal.ramp_end-requires
ramp_end-requires c = (search (rules, of_calls), span_few (spans (goal.at.ramp_end-requires c).After-with_filled-w))

pub returns : goal.returns
returns c =
    let k = (goal.at.returns c).After-with_filled-w in
    span_answers (spans k) (c.ramp_end.ensures (linear_sample (from k) k.args.value (Ieee.sub binary64 k.args.time (from k).time)) (λ t v p. search rules))
