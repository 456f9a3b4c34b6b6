-- `curve_span` meets its contract: a span. Assumes nothing.
use Rattle.std.proofs.Common.{rules, of_calls}
use mathlib.Core.Path.{refl}
use lib.Ieee as Ieee
use lib.Ieee.{Float, binary64}
use Rattle.rules.specs.Samples.{last_number, curve_sample}
use Rattle.rules.specs.Walk.{from_start, span_turn}
use Rattle.timeline.specs.Heads.{waiting_as}
use Rattle.automation.specs.Walks.{walk_as}
use Rattle.automation.proofs.Bodies.{ready_room, filled_at, last_read, Spanned, span_few, span_answers}
use Rattle.automation.proofs.curve_span.Goals as goal
use Rattle.automation.proofs.curve_span.Goals.{After-with_filled-w}

-- ---- behind the fill, at k

module _ (k : After-with_filled-w) where
  abbrev end : Float
  end = Ieee.add binary64 k.args.start k.args.duration

  abbrev sample : Float → Float
  sample = from_start k.args.start k.args.walk.intrinsic (curve_sample k.args.values.now k.args.start k.args.duration)

  spans : Spanned
      k.args.infos
      k.args.buffer.now
      k.args.values.now
      k.args.head
      (span_turn
      k.args.infos
      (walk_as k.args.walk k.args.buffer.now)
      (waiting_as k.args.head k.args.values.now)
      end
      (last_number k.args.values.now)
      k.args.hold
      sample)
      (last_number k.args.values.now)
      k.args.hold
      sample
      k.hold_or-end_time.result
      k.with_filled-w.result
      k.fill_curve-filled.new.buffer
  spans =
      record {
        before = k.args.walk;
        time = end;
        n = k.fill_curve-filled.result;
        turn_is = refl;
        end_is = k.hold_or-end_time.ensures;
        filled = filled_at k.end_place_of-end_index.ensures k.fill_curve-filled.ensures;
        walk_is = k.with_filled-w.ensures;
        few = k.requires.0.finished;
      }

pub fill_curve-filled-requires : goal.fill_curve-filled-requires
fill_curve-filled-requires c =
    (ready_room c.requires.0 c.hold_or-end_time.result c.end_place_of-end_index.ensures, c.requires.1, c.requires.2)

pub ramp_end-requires : goal.ramp_end-requires
ramp_end-requires c = (search (rules, of_calls), span_few (spans (goal.at.ramp_end-requires c).After-with_filled-w))

pub returns : goal.returns
returns c =
    let k = (goal.at.returns c).After-with_filled-w in
    span_answers (spans k) (rw (last_read k.args.values.now k.requires.1) at (c.ramp_end.ensures (sample k) (λ t v p. search rules)))
