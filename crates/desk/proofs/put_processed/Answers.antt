-- `desk::put_processed` meets its contract: the parts of a block's answer, one behind the other. Assumes nothing.
use mathlib.Core.Path.{sym}
use native.Mathlib.Omega.{arith}
use lib.Seq.{length-take-le}
use Rattle.text.proofs.Writing.{put_same, put_then}
use Rattle.desk.proofs.Blocks.{answered_line, refused_line, samples_room}
use Rattle.desk.proofs.put_processed.Goals as goal

pub slice_bounds-put_list-end : goal.slice_bounds-put_list-end
slice_bounds-put_list-end c = sym (length-take-le c.args.count c.args.output.now (c.requires.0 c.in-Ok.is).1)

pub put_list-next-requires : goal.put_list-next-requires
put_list-next-requires c = omega (arith, (samples_room c.args.count c.args.output.now (c.requires.0 c.in-Ok.is)).0, c.put_block-next.ensures.upper_bound, c.put_block-next.auto.out, c.requires.1)

pub put_rest-requires : goal.put_rest-requires
put_rest-requires c = omega (arith, (samples_room c.args.count c.args.output.now (c.requires.0 c.in-Ok.is)).1, c.put_block-next.ensures.upper_bound, c.put_block-next.auto.out, c.put_list-next.ensures.place, c.put_list-next.auto.out, c.requires.1)

pub returns-in-Ok : goal.returns-in-Ok
returns-in-Ok c =
    let room = (samples_room c.args.count c.args.output.now (c.requires.0 c.in-Ok.is)).1 in
    record {
      put = put_same (answered_line c.args.count c.args.r.steps c.args.r.current c.args.r.one c.args.output.now c.in-Ok.is c.is_clean.ensures)
          (put_then c.put_block-next.ensures.put (put_then c.put_list-next.ensures c.put_rest.ensures.put (omega (arith, room, c.put_block-next.ensures.upper_bound, c.put_block-next.auto.out, c.put_list-next.ensures.place, c.requires.1))) (omega (arith, c.put_block-next.ensures.upper_bound, c.requires.1)));
      upper_bound = omega (arith, room, c.put_block-next.ensures.upper_bound, c.put_list-next.ensures.place, c.put_rest.ensures.upper_bound);
    }

pub returns-in-Err : goal.returns-in-Err
returns-in-Err c = record {
  put = put_same (refused_line c.args.count c.args.r.steps c.args.r.current c.args.r.one c.args.output.now c.in-Err.is c.is_clean-in-Err.ensures)
      (put_then c.put_verdict-next.ensures.put c.put_rest-in-Err.ensures.put (omega (arith, c.put_verdict-next.ensures.upper_bound, c.requires.1)));
  upper_bound = omega (arith, c.put_verdict-next.ensures.upper_bound, c.put_rest-in-Err.ensures.upper_bound);
}
