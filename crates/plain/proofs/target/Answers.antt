-- `target` meets its contract: it waits, ends in the block, or does not. Assumes nothing.
use mathlib.Core.Path.{◌≡◌, sym, ap, ◌∙◌}
use mathlib.Core.Bool.{Bool, true, false}
use Prim.Native.Nat.{ℕ}
use native.Mathlib.Omega.{arith}
use lib.Ieee as Ieee
use Rattle.rules.specs.declared.BlockInfos.{BlockInfos}
use Rattle.rules.specs.Numbers.{end_place, is_zero, is_subnormal}
use Rattle.rules.specs.Walk.{Walk, fill, with_values, flushed_for, snap_width, snaps}
use Rattle.laws.proofs.Walks.{end_most}
use Rattle.timeline.specs.Heads.{waiting_as}
use Rattle.plain.specs.declared.Look.{Look}
use Rattle.plain.specs.Seen.{seen, seen_turn, sample_of}
use Rattle.plain.proofs.Sees.{infos_is, sample_is, found_zero, flush_found, flush_none, flush_other, target_waits, target_ends, target_stays, target_snaps}
use Rattle.plain.proofs.target.Goals as goal
use Rattle.plain.proofs.target.Goals.{After-magnitude, else-value-via-then-value+else-is_subnormal, else-value-via-else-value}

-- whether it snaps is what was tested
tested : (m : After-magnitude) (f : BlockInfos) (n : ℕ) (w : Walk)
    → let a = m.args in
    a.look ≡ seen f n w → (b : Bool) → Ieee.lt m.magnitude.result snap_width ≡ b → snaps a.value (sample_of a.event a.numbers.now f w f.next) ≡ b
unfolding snaps
tested m f n w e b h =
    let a = m.args in
    let next =
    m.value_at-at_next.ensures ∙ sample_is f n w e a.event a.numbers.now a.look.infos.next
    ∙ ap (λ (g : BlockInfos). sample_of a.event a.numbers.now f w g.next) (infos_is f n w e) in
    rw (← next, ← m.magnitude.ensures) h

pub returns-then-filed_under-next : goal.returns-then-filed_under-next
returns-then-filed_under-next c = λ f n w e.
    let a = c.args in
    target_waits f n w (waiting_as a.event a.numbers.now) a.value (sample_of a.event a.numbers.now f w) a.end (rw (c.filed_under.ensures, infos_is f n w e) at c.if-filed_under-next.true) e

pub returns-in-Some : goal.returns-in-Some
returns-in-Some c = λ f n w e.
    let a = c.args in
    let early = rw (c.filed_under.ensures, infos_is f n w e) at c.if-filed_under-next.false in
    rw (c.value_at-at_end.ensures ∙ sample_is f n w e a.event a.numbers.now _) at (c.run.ensures f n w e)
    ∙ ap (seen_turn f n) (target_ends f n w (waiting_as a.event a.numbers.now) a.value (sample_of a.event a.numbers.now f w) early c.in-Some.is)

pub returns-then-not-magnitude : goal.returns-then-not-magnitude
unfolding Ieee.of_bits
returns-then-not-magnitude c = λ f n w e.
    let a = c.args in
    let infos = infos_is f n w e in
    rw infos at (c.run-then-not-magnitude.ensures f n w e)
    ∙ ap (seen_turn f n) (target_stays f n w (waiting_as a.event a.numbers.now) a.value (sample_of a.event a.numbers.now f w) (rw (c.filed_under.ensures, infos) at c.if-filed_under-next.false) c.in_default.is (tested (goal.at.returns-then-not-magnitude c).After-magnitude f n w e false c.if-not-magnitude.true) _)

pub fill-filled-requires : goal.fill-filled-requires
fill-filled-requires c = (omega (arith, end_most c.args.look.infos c.args.look.infos.next, c.end_place_of.ensures), c.requires.0, c.requires.1)

pub returns-then-is_subnormal : goal.returns-then-is_subnormal
unfolding seen is_zero Ieee.of_bits
returns-then-is_subnormal c = λ f n w e.
    let a = c.args in
    let infos = infos_is f n w e in
    let filled = fill f (end_place f f.next) (sample_of a.event a.numbers.now f w) w in
    let is : c.fill-filled.result ≡ seen f n filled = rw (c.end_place_of.ensures, infos) at (c.fill-filled.ensures f n w e) in
    let small = ap (λ (l : Look). is_subnormal l.found) (sym is) ∙ sym c.is_subnormal.ensures ∙ c.if-is_subnormal.true in
    let flushed : found_zero c.fill-filled.result ≡ seen f n (with_values (flushed_for a.value filled.values) filled) = rw is (sym (flush_found f a.value filled n c.if-value.true small)) in
    rw infos (target_snaps f n w (waiting_as a.event a.numbers.now) a.value (sample_of a.event a.numbers.now f w) (rw (c.filed_under.ensures, infos) at c.if-filed_under-next.false) c.in_default.is (tested (goal.at.returns-then-is_subnormal c).After-magnitude f n w e true c.if-not-magnitude.false) flushed)

pub returns-else-value : goal.returns-else-value
unfolding seen is_zero Ieee.of_bits
returns-else-value c = λ f n w e.
    let a = c.args in
    let infos = infos_is f n w e in
    let filled = fill f (end_place f f.next) (sample_of a.event a.numbers.now f w) w in
    let is : c.fill-filled.result ≡ seen f n filled = rw (c.end_place_of.ensures, infos) at (c.fill-filled.ensures f n w e) in
    let same : seen f n (with_values (flushed_for a.value filled.values) filled) ≡ seen f n filled =
    elim c.else-value.branch [
      | else-value-via-then-value+else-is_subnormal came ↦ flush_other f a.value filled n came.if-value.true (ap (λ (l : Look). is_subnormal l.found) (sym is) ∙ sym came.is_subnormal.ensures ∙ came.if-is_subnormal.false)
      | else-value-via-else-value came ↦ flush_none f a.value filled n came.if-value.false
    ] in
    rw infos (target_snaps f n w (waiting_as a.event a.numbers.now) a.value (sample_of a.event a.numbers.now f w) (rw (c.filed_under.ensures, infos) at c.if-filed_under-next.false) c.in_default.is (tested (goal.at.returns-else-value c).After-magnitude f n w e true c.if-not-magnitude.false) (is ∙ sym same))
