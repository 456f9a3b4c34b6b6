-- `push` meets its contract: the place that is found is within the queue. Assumes nothing.
use mathlib.Core.Path.{◌≡◌, ap, ◌∙◌}
use Prim.Native.Nat.{ℕ}
use native.Mathlib.Omega.{arith}
use lib.ListN.{length}
use lib.Ieee.{Float}
use Rattle.rules.specs.Queue.{filed_under, place_behind, put_at, arrived}
use Rattle.timeline.specs.Timeline.{made, waiting}
use Rattle.timeline.proofs.Laws.{count}
use Rattle.timeline.proofs.Steps.{place_within}
use Rattle.timeline.proofs.AudioParamEventTimeline.push.Goals as goal

pub put_at-requires : goal.put_at-requires
put_at-requires c =
    let q = c.args.self in
    let n : length (waiting q) ≡ q.len = count q c.requires.0 in
    (c.requires.0, c.requires.1, omega (arith, place_within c.filed_under.result (waiting q), c.place_behind-place.ensures))

pub returns : goal.returns
unfolding arrived
returns c =
    let w = waiting c.args.self in
    let p : c.place_behind-place.result ≡ place_behind (filed_under c.args.e) w =
    c.place_behind-place.ensures ∙ ap (λ (t : Float). place_behind t w) c.filed_under.ensures in
    c.put_at.ensures ∙ ap (λ (k : ℕ). made (put_at k c.args.e w)) p
