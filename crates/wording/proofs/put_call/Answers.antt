-- `wording::put_call` meets its contract: the name, its form, and that no word is left. Assumes nothing.
use Rattle.std.proofs.Common.{ap, arith, rules}
use Rattle.text.proofs.Writing.{put_then, put-nothing}
use Rattle.wording.specs.Plain.{translated}
use Rattle.wording.specs.Walked.{Wrote, Room}
use Rattle.wording.proofs.Steps.{a_next, no_next, places, part_length, ran_to, ran-unread, inside_to, no_form, no_call, no_end, a_call, wrote_none}
use Rattle.wording.proofs.put_call.Goals as goal

pub returns-in_default : goal.returns-in_default
unfolding Wrote Room translated
returns-in_default c = ((_, ap translated (no_next _ _ c.in_default.ensures.0), put-nothing _ _), omega arith)

pub slice_bounds-word-count : goal.slice_bounds-word-count
slice_bounds-word-count c = let p = places _ _ _ c.in-Some.ensures.1 in search rules

pub slice_bounds-word-start : goal.slice_bounds-word-start
slice_bounds-word-start c = let p = places _ _ _ c.in-Some.ensures.1 in search rules

pub slice_bounds-word-end : goal.slice_bounds-word-end
slice_bounds-word-end c = let p = places _ _ _ c.in-Some.ensures.1 in search rules

pub put_word-put-requires : goal.put_word-put-requires
put_word-put-requires c =
    let w = c.in-Some.name in
    let p = places _ _ _ c.in-Some.ensures.1 in
    let long = part_length c.args.line.now w.from w.to p.2 in
    omega arith

pub returns-in_err-form : goal.returns-in_err-form
returns-in_err-form c = wrote_none _ _ _ c.from_residual.ensures (no_form _ (a_next _ _ _ c.in-Some.ensures.0) c.in_err-form.ensures)

pub put_form-requires : goal.put_form-requires
put_form-requires c =
    let w = c.in-Some.name in
    let p = places _ _ _ c.in-Some.ensures.1 in
    let long = part_length c.args.line.now w.from w.to p.2 in
    (p.2, omega (arith, c.put_word-put.ensures.place))

pub returns-in_err-told : goal.returns-in_err-told
returns-in_err-told c =
    wrote_none _ _ _ c.from_residual-in_err-told.ensures
    (no_call _ (a_next _ _ _ c.in-Some.ensures.0) c.in_ok-form.ensures (ran-unread _ _ _ _ _ c.in_err-told.ensures.0))

pub next_word-requires-2 : goal.next_word-requires-2
next_word-requires-2 c = (inside_to _ _ _ c.in_ok-told.ensures.1).0

pub returns-in-Some-next_word : goal.returns-in-Some-next_word
unfolding Wrote Room
returns-in-Some-next_word c =
    let v = ran_to _ _ c.in_ok-told.ensures.0 in
    (no_end _ (a_next _ _ _ c.in-Some.ensures.0) c.in_ok-form.ensures v.1 _ _ (a_next _ _ _ c.in-Some-next_word.ensures.0), tt)

pub returns-in-None : goal.returns-in-None
unfolding Wrote Room
returns-in-None c =
    let i = inside_to _ _ _ c.in_ok-told.ensures.1 in
    let w = c.in-Some.name in
    let p = places _ _ _ c.in-Some.ensures.1 in
    let long = part_length c.args.line.now w.from w.to p.2 in
    let v = ran_to _ _ c.in_ok-told.ensures.0 in (
      (
        _,
        a_call _ (a_next _ _ _ c.in-Some.ensures.0) c.in_ok-form.ensures v.1 (no_next _ _ c.in-None.ensures.0),
        put_then c.put_word-put.ensures v.2 (omega (arith, c.put_word-put.ensures.place)),
      ),
      omega arith,
    )
