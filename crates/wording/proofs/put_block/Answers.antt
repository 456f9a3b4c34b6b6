-- `wording::put_block` meets its contract: its count, the output's length, and its numbers. Assumes nothing.
use Rattle.std.proofs.Common.{sym, arith, rules, le_of_eq, le_trans, take, drop, ◌-◌}
use Rattle.wording.specs.Plain.{spaced}
use Rattle.wording.proofs.Steps.{a_next, no_next, places, part_length, length_for_lem, room_left, room_for, block_with, block_alone, block_none, ran-same, ran-after, ran_none, inside_same, inside_none}
use Rattle.wording.proofs.put_block.Goals as goal

pub returns-in_err-count : goal.returns-in_err-count
returns-in_err-count c =
    let g = c.from_residual.ensures in
    (ran_none _ _ _ _ _ g (block_none (no_next _ _ c.in_err-count.ensures.0)), inside_none _ _ g)

pub slice_bounds-word-count : goal.slice_bounds-word-count
slice_bounds-word-count c = let p = places _ _ _ c.in_ok-count.ensures.1 in search rules

pub slice_bounds-word-start : goal.slice_bounds-word-start
slice_bounds-word-start c = let p = places _ _ _ c.in_ok-count.ensures.1 in search rules

pub slice_bounds-word-end : goal.slice_bounds-word-end
slice_bounds-word-end c = let p = places _ _ _ c.in_ok-count.ensures.1 in search rules

pub put_spaced-to-requires : goal.put_spaced-to-requires
put_spaced-to-requires c =
    let w = c.in_ok-count.count in
    let p = places _ _ _ c.in_ok-count.ensures.1 in
    let long = part_length c.args.line.now w.from w.to p.2 in
    omega arith

pub next_word-requires-2 : goal.next_word-requires-2
next_word-requires-2 c = (places _ _ _ c.in_ok-count.ensures.1).2

pub slice_bounds-put_spaced-count : goal.slice_bounds-put_spaced-count
slice_bounds-put_spaced-count c = let q = places _ _ _ c.in-Some.ensures.1 in search rules

pub slice_bounds-put_spaced-start : goal.slice_bounds-put_spaced-start
slice_bounds-put_spaced-start c = let q = places _ _ _ c.in-Some.ensures.1 in search rules

pub slice_bounds-put_spaced-end : goal.slice_bounds-put_spaced-end
slice_bounds-put_spaced-end c = let q = places _ _ _ c.in-Some.ensures.1 in search rules

pub put_spaced-to-requires-in-Some : goal.put_spaced-to-requires-in-Some
unfolding spaced
put_spaced-to-requires-in-Some c =
    let w = c.in_ok-count.count in
    let v = c.in-Some.output in
    let p = places _ _ _ c.in_ok-count.ensures.1 in
    let q = places _ _ _ c.in-Some.ensures.1 in
    let long = part_length c.args.line.now w.from w.to p.2 in
    let more = part_length c.args.line.now v.from v.to q.2 in
    omega (arith, c.put_spaced-to.ensures.place)

pub put_numbers-requires : goal.put_numbers-requires
unfolding spaced
put_numbers-requires c =
    let w = c.in_ok-count.count in
    let v = c.in-Some.output in
    let p = places _ _ _ c.in_ok-count.ensures.1 in
    let q = places _ _ _ c.in-Some.ensures.1 in
    let long = part_length c.args.line.now w.from w.to p.2 in
    let more = part_length c.args.line.now v.from v.to q.2 in
    (q.2, le_trans (room_left _ _ _ _ _ _ _ _ _ _ _ _ p q long more c.put_spaced-to.ensures.place c.put_spaced-to-in-Some.ensures.place c.requires.1).0 (le_of_eq (search rules)))

pub put_length-to-requires : goal.put_length-to-requires
unfolding spaced
put_length-to-requires c =
    let w = c.in_ok-count.count in
    let p = places _ _ _ c.in_ok-count.ensures.1 in
    let long = part_length c.args.line.now w.from w.to p.2 in
    (omega (arith, c.put_spaced-to.ensures.place), omega (arith, c.put_spaced-to.ensures.place))

pub put_numbers-requires-in-None : goal.put_numbers-requires-in-None
unfolding spaced
put_numbers-requires-in-None c =
    let w = c.in_ok-count.count in
    let p = places _ _ _ c.in_ok-count.ensures.1 in
    let long = part_length c.args.line.now w.from w.to p.2 in
    (p.2, omega (arith, c.put_spaced-to.ensures.place, c.put_length-to.ensures.place, length_for_lem (take (w.to - w.from) (drop w.from c.args.line.now))))

pub returns-in-Some : goal.returns-in-Some
unfolding spaced
returns-in-Some c =
    let w = c.in_ok-count.count in
    let v = c.in-Some.output in
    let p = places _ _ _ c.in_ok-count.ensures.1 in
    let q = places _ _ _ c.in-Some.ensures.1 in
    let long = part_length c.args.line.now w.from w.to p.2 in
    let more = part_length c.args.line.now v.from v.to q.2 in (
      ran-same _ _ _ _ _ (sym (block_with _ (a_next _ _ _ c.in_ok-count.ensures.0) _ (a_next _ _ _ c.in-Some.ensures.0)))
          (ran-after _ _ _ _ c.put_spaced-to.ensures (room_for _ _ _ _ _ _ _ _ p long c.put_spaced-to.ensures.place c.requires.1)
          (ran-after _ _ _ _ c.put_spaced-to-in-Some.ensures (le_trans (room_left _ _ _ _ _ _ _ _ _ _ _ _ p q long more c.put_spaced-to.ensures.place c.put_spaced-to-in-Some.ensures.place c.requires.1).1 (le_of_eq (search rules))) c.put_numbers.ensures.0)),
      inside_same _ c.put_spaced-to-in-Some.new.out c.args.out.now _ (search rules) c.put_numbers.ensures.1,
    )

pub returns-in-None : goal.returns-in-None
unfolding spaced
returns-in-None c =
    let w = c.in_ok-count.count in
    let p = places _ _ _ c.in_ok-count.ensures.1 in
    let long = part_length c.args.line.now w.from w.to p.2 in (
      ran-same _ _ _ _ _ (sym (block_alone _ (a_next _ _ _ c.in_ok-count.ensures.0) (no_next _ _ c.in-None.ensures.0)))
          (ran-after _ _ _ _ c.put_spaced-to.ensures (omega (arith, c.put_spaced-to.ensures.place))
          (ran-after _ _ _ _ c.put_length-to.ensures (omega (arith, c.put_spaced-to.ensures.place, c.put_length-to.ensures.place, length_for_lem (take (w.to - w.from) (drop w.from c.args.line.now)))) c.put_numbers-in-None.ensures.0)),
      inside_same _ c.put_length-to.new.out c.args.out.now _ (search rules) c.put_numbers-in-None.ensures.1,
    )
