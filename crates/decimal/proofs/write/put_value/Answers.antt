-- `decimal::write::put_value` meets its contract: a value is shown as the double that it is. Assumes nothing.
use Rattle.std.proofs.Common.{ap, ◌∙◌}
use lib.Ieee.{binary32}
use Rattle.text.proofs.Writing.{put_same}
use Rattle.decimal.specs.Shown.{shown, text_of, plain_text}
use Rattle.decimal.proofs.write.put_value.Goals as goal

pub returns : goal.returns
unfolding plain_text
returns c = put_same (ap (text_of binary32 _) (c.shown.ensures ∙ ap shown c.f32_to_f64_with_nan.ensures)) c.put_number.ensures
