-- `decimal::write::put_places` meets its contract. The invariant of its loop: the places left without zeros at their end are the text. Assumes nothing.
use Rattle.std.proofs.Common.{refl, ap, ℕ, ◌/◌, ◌-◌, sym, ◌∙◌, arith}
use Rattle.text.proofs.Writing.{put_same, put_then}
use Rattle.decimal.specs.Shown.{places_text}
use Rattle.decimal.proofs.Written.{put-nothing, put_from, no_places, fewer_places, all_places}
use Rattle.decimal.proofs.write.put_places.Goals as goal

pub loop-i-init : goal.loop-i-init
loop-i-init c = (refl, refl)

pub returns-then-n-ne0 : goal.returns-then-n-ne0
returns-then-n-ne0 c =
    let l = c.loop-i in
    put_same (sym (l.invariant.1 ∙ all_places (6 - l.i) l.n (omega arith) c.if-n-ne0.true))
    (put_from l.invariant.0 (put_then c.put_byte-next.ensures c.put_digits.ensures (omega (arith, c.put_byte-next.ensures.place))))

pub loop-i-preserved : goal.loop-i-preserved
loop-i-preserved c =
    let l = c.loop-i in
    (l.invariant.0, l.invariant.1 ∙ fewer_places (6 - l.i) l.n (omega arith) (omega arith) ∙ ap (λ (k : ℕ). places_text k (l.n / 10)) (omega arith))

pub returns : goal.returns
returns c =
    let l = c.loop-i in
    put_same (sym (l.invariant.1 ∙ no_places (6 - l.i) l.n (omega arith))) (put_from l.invariant.0 (put-nothing _ _))
