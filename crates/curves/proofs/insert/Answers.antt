-- `insert` meets its contract. Assumes nothing.
use mathlib.Core.Path.{◌≡◌, ap, ◌∙◌}
use mathlib.Core.List.{List}
use Prim.Native.Nat.{ℕ, ◌≤◌}
use native.Mathlib.Omega.{arith}
use lib.ListN.{length, take}
use lib.Seq.{paste}
use lib.Ieee.{Float}
use Rattle.rules.specs.Queue.{lengths_of, put_at}
use Rattle.timeline.specs.Timeline.{made, waiting}
use Rattle.timeline.proofs.Laws.{count, offset_most}
use Rattle.timeline.proofs.Steps.{place_within}
use Rattle.curves.specs.Curves.{curve_of}
use Rattle.curves.proofs.Calls.{inserted-part, inserted_events}
use Rattle.curves.proofs.insert.Goals as goal
use Rattle.curves.proofs.insert.Goals.{After-offset_of-at}

-- the offset is no more than the whole length
within : (d : After-offset_of-at) → d.offset_of-at.result ≤ d.lengths-used.result
within d = omega (arith, offset_most (waiting d.args.q) d.place_behind-place.result)

pub overflow_add-at : goal.overflow_add-at
overflow_add-at c = record { fits = omega (arith, within (goal.at.overflow_add-at c).After-offset_of-at, c.well_formed) }

pub overflow_sub-used : goal.overflow_sub-used
overflow_sub-used c = within (goal.at.overflow_sub-used c).After-offset_of-at

pub move_up-requires : goal.move_up-requires
move_up-requires c = (omega arith, omega (arith, within (goal.at.move_up-requires c).After-offset_of-at))

pub write-requires : goal.write-requires
write-requires c =
    omega (arith, within (goal.at.write-requires c).After-offset_of-at, c.move_up.auto.part)

pub put_at-requires : goal.put_at-requires
put_at-requires c =
    let q = c.args.q in
    let n : length (waiting q) ≡ q.len = count q c.requires.0 in
    (c.requires.0, c.requires.1, omega (arith, place_within c.args.start (waiting q), c.place_behind-place.ensures))

pub returns : goal.returns
returns c =
    let a = c.args in
    let q = waiting a.q in
    let o = a.part.now in
    let xs = a.values.now in
    let p = c.place_behind-place.ensures in
    let u = c.lengths-used.result in
    let at = c.offset_of-at.result in
    record {
      queue =
          c.put_at.ensures
          ∙ ap (λ (k : ℕ). made (put_at k (curve_of a.start a.duration xs).event q)) p
          ∙ ap made (inserted_events a.start a.duration xs q o);
      part =
          c.zero_behind.ensures
          ∙ inserted-part a.start a.duration xs q o c.requires.2 u at c.lengths-used.ensures
          (c.offset_of-at.ensures ∙ ap (λ (k : ℕ). lengths_of (take k q)) p) c.write.new.part
          (c.write.ensures ∙ ap (λ (s : List Float). paste s at xs (length xs)) c.move_up.ensures);
    }
