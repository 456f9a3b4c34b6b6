-- `text::write::put_word` meets its contract: the word is copied over what stood there. Assumes nothing.
use mathlib.Core.Path.{refl}
use native.Mathlib.Nat.{add-sub_cancel_left}
use lib.ListN.{length}
use lib.Seq.{drop-drop}
use Rattle.text.specs.Put.{put}
use Rattle.text.proofs.write.put_word.Goals as goal

pub returns : goal.returns
unfolding put
returns c = record { bytes = rw (c.copy_from_slice.ensures.after, add-sub_cancel_left c.args.at (length c.args.word.now), drop-drop); place = refl }
