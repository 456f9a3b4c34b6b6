-- `replies::put_fields` meets its contract. The invariant of its loop: what is written, in front of the fields left, are all of them. Assumes nothing.
use Rattle.std.proofs.Common.{List, ℕ, ◌++◌, ◌+◌, refl, sym, ap, ◌∙◌, arith, rules, drop, length-take, length-drop}
use borrow.Author.Rules.{part_to_end}
use Rattle.text.proofs.Writing.{put_same, put_then, put-nothing}
use Rattle.replies.specs.Plain.{parts, plain_fields}
use Rattle.replies.proofs.Fields.{mark_in, last_field, next_field, one_more}
use Rattle.replies.proofs.put_fields.Goals as goal

pub loop-len-init : goal.loop-len-init
loop-len-init c = (refl, omega arith, (_, refl, put-nothing _ _))

pub put_field-to-requires : goal.put_field-to-requires
put_field-to-requires c =
    let e = sym c.first_mark.ensures ∙ c.in-Some.is in
    omega (arith, mark_in _ e, length-take c.in-Some.len c.loop-len.rest.now)

pub put_byte-to-requires : goal.put_byte-to-requires
put_byte-to-requires c =
    let e = sym c.first_mark.ensures ∙ c.in-Some.is in
    omega (arith, mark_in _ e, length-take c.in-Some.len c.loop-len.rest.now, c.put_field-to.ensures.upper_bound)

pub loop-len-smaller : goal.loop-len-smaller
loop-len-smaller c =
    let s = c.loop-len.rest.now in
    let k = c.in-Some.len in
    let e = sym c.first_mark.ensures ∙ c.in-Some.is in
    rw (part_to_end s (k + 1)) (omega (arith, mark_in _ e, length-drop (k + 1) s))

pub loop-len-preserved : goal.loop-len-preserved
loop-len-preserved c =
    let l = c.loop-len in
    let s = l.rest.now in
    let k = c.in-Some.len in
    let e = sym c.first_mark.ensures ∙ c.in-Some.is in
    let f = c.put_field-to.ensures in
    let b = c.put_byte-to.ensures in
    let near = mark_in _ e in (
      search rules,
      rw (part_to_end s (k + 1)) (omega (arith, near, f.upper_bound, b.place, length-take k s, length-drop (k + 1) s)),
      (
        _,
        rw (part_to_end s (k + 1))
            (l.invariant.2.1 ∙ ap (λ (u : List ℕ). l.invariant.2.0 ++ u) (next_field _ e) ∙ one_more l.invariant.2.0 _ _ (plain_fields (parts (drop (k + 1) s)))),
        put_then (put_then l.invariant.2.2 f.put (omega (arith, near))) b (omega (arith, near, f.upper_bound, length-take k s)),
      ),
    )

pub returns-clause-put : goal.returns-clause-put
returns-clause-put c =
    let l = c.loop-len in
    let e = sym c.first_mark.ensures ∙ c.in_default.is in
    put_same (sym (l.invariant.2.1 ∙ ap (λ (u : List ℕ). l.invariant.2.0 ++ u) (last_field _ e))) (put_then l.invariant.2.2 c.put_field.ensures.put (omega arith))
