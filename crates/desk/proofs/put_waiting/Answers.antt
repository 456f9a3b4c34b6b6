-- `desk::put_waiting` meets its contract: the event, and its part of the store. Assumes nothing.
use mathlib.Core.Path.{sym, ◌∙◌}
use native.Mathlib.Omega.{arith}
use Prim.Native.Nat.{◌+◌, ◌-◌}
use lib.ListN.{take, drop}
use Rattle.answers.proofs.Lists.{list_length}
use Rattle.param.specs.Param.{param_of}
use Rattle.text.proofs.Writing.{put-nothing, put_same, put_then}
use Rattle.desk.specs.Desk.{waiting_at, width_at}
use Rattle.desk.proofs.Queues.{first_none, width, within, part_length, waiting_text_lem}
use Rattle.desk.proofs.put_waiting.Goals as goal

pub returns-in_default : goal.returns-in_default
unfolding waiting_at width_at
returns-in_default c = record {
  put = put_same (sym (first_none (drop c.args.i (param_of c.args.p).queue) _ (sym c.in_default.is ∙ c.event_at.ensures))) (put-nothing _ _);
  upper_bound = omega arith;
}

pub put_event-next-requires : goal.put_event-next-requires
unfolding width_at
put_event-next-requires c = omega (arith, c.requires.2)

pub overflow_add-to : goal.overflow_add-to
overflow_add-to c = omega (arith, within (param_of c.args.p).queue c.args.i c.args.store.now c.in-Some.e c.offset_of-from.result c.length_of.result (sym c.in-Some.is ∙ c.event_at.ensures) c.offset_of-from.ensures c.length_of.ensures c.requires.0.sound.waiting.room)

pub offset_bounds-store-from : goal.offset_bounds-store-from
offset_bounds-store-from c = omega (arith, within (param_of c.args.p).queue c.args.i c.args.store.now c.in-Some.e c.offset_of-from.result c.length_of.result (sym c.in-Some.is ∙ c.event_at.ensures) c.offset_of-from.ensures c.length_of.ensures c.requires.0.sound.waiting.room)

pub slice_bounds-put_list-end : goal.slice_bounds-put_list-end
slice_bounds-put_list-end c = omega (arith, within (param_of c.args.p).queue c.args.i c.args.store.now c.in-Some.e c.offset_of-from.result c.length_of.result (sym c.in-Some.is ∙ c.event_at.ensures) c.offset_of-from.ensures c.length_of.ensures c.requires.0.sound.waiting.room, c.requires.1)

pub put_list-requires : goal.put_list-requires
put_list-requires c =
    omega (arith, part_length (param_of c.args.p).queue c.args.i c.args.store.now c.in-Some.e c.offset_of-from.result c.length_of.result (sym c.in-Some.is ∙ c.event_at.ensures) c.offset_of-from.ensures c.length_of.ensures c.requires.1 c.requires.0.sound.waiting.room, width (param_of c.args.p).queue c.args.i c.args.store.now c.in-Some.e c.offset_of-from.result c.length_of.result (sym c.in-Some.is ∙ c.event_at.ensures) c.offset_of-from.ensures c.length_of.ensures, c.requires.2, c.put_event-next.ensures.upper_bound, c.put_event-next.auto.out)

pub returns : goal.returns
unfolding width_at
returns c = record {
  put = put_same (waiting_text_lem (param_of c.args.p).queue c.args.i c.args.store.now c.in-Some.e c.offset_of-from.result c.length_of.result (sym c.in-Some.is ∙ c.event_at.ensures) c.offset_of-from.ensures c.length_of.ensures) (put_then c.put_event-next.ensures.put c.put_list.ensures (omega (arith, c.requires.2, c.put_event-next.ensures.upper_bound)));
  upper_bound = omega (arith, part_length (param_of c.args.p).queue c.args.i c.args.store.now c.in-Some.e c.offset_of-from.result c.length_of.result (sym c.in-Some.is ∙ c.event_at.ensures) c.offset_of-from.ensures c.length_of.ensures c.requires.1 c.requires.0.sound.waiting.room, width (param_of c.args.p).queue c.args.i c.args.store.now c.in-Some.e c.offset_of-from.result c.length_of.result (sym c.in-Some.is ∙ c.event_at.ensures) c.offset_of-from.ensures c.length_of.ensures, c.put_event-next.ensures.upper_bound, c.put_list.ensures.place, list_length 58 44 (take (c.offset_of-from.result + c.length_of.result - c.offset_of-from.result) (drop c.offset_of-from.result c.args.store.now)));
}
