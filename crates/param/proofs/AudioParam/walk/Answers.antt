-- `walk` meets its contract: the values that it leaves in the output are mixed there. Assumes nothing.
use mathlib.Core.Path.{◌≡◌, refl, sym, ◌∙◌}
use native.Mathlib.Omega.{arith}
use lib.ListN.{length, take}
use lib.Seq.{length-take-le}
use Rattle.laws.proofs.Rows.{ceiling_most}
use Rattle.param.proofs.Plays.{walk_given, values_stand, behind-same, walks}
use Rattle.param.proofs.AudioParam.walk.Goals as goal
use Rattle.param.proofs.AudioParam.walk.Goals.{Start}

-- the block's own places of the output
long : (start : Start) → let f = start.args.infos in length (take f.count start.args.output.now) ≡ f.count
long start = length-take-le start.args.infos.count start.args.output.now start.requires.fits.room

pub slice_bounds-values-end-2 : goal.slice_bounds-values-end-2
slice_bounds-values-end-2 c = sym (long (goal.at.slice_bounds-values-end-2 c).Start)

pub compute_buffer-done-requires : goal.compute_buffer-done-requires
compute_buffer-done-requires c =
    let start = (goal.at.compute_buffer-done-requires c).Start in
    let p = c.requires in
    record {
      neat = p.param.neat;
      sound = p.param.sound.waiting;
      lent = p.room;
      some = omega (arith, long start, p.fits.some);
      room = omega (arith, long start);
      most = omega (arith, long start, p.few, ceiling_most c.args.self.edition);
    }

pub returns : goal.returns
returns c =
    let walked = c.compute_buffer-done in
    let start = (goal.at.returns c).Start in
    let f = c.args.infos in
    let output = c.args.output.now in
    let values = walked.new.buffer in
    let filled = walked.ensures.filled in
    let mixed = c.mix_values.ensures _ (walk_given c.args.self f _ walked.ensures) (values_stand _ values _ filled) in
    walks c.args.self f _ output _ walked.ensures (mixed ∙ behind-same c.args.self.bounds f _ _ values output (walked.ensures.whole ∙ long start)) (c.says_one.ensures _ refl)
