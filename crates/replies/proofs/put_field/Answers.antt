-- `replies::put_field` meets its contract: a value, a time, or the word as it is. Assumes nothing.
use mathlib.Core.Path.{sym}
use native.Mathlib.Omega.{arith}
use lib.Ieee.{binary32, binary64}
use Rattle.text.proofs.Writing.{put_same}
use Rattle.decimal.proofs.Written.{length_plain}
use Rattle.replies.proofs.Fields.{float_length, a_value, a_time, as_it_is}
use Rattle.replies.proofs.put_field.Goals as goal

pub put_value-requires : goal.put_value-requires
put_value-requires c =
    omega (arith, float_length binary32 _ (sym c.in-Some.ensures))

pub returns-in-Some : goal.returns-in-Some
returns-in-Some c =
    let v = sym c.in-Some.ensures in
    record {
      put = put_same (sym (a_value _ v)) c.put_value.ensures;
      upper_bound = omega (arith, float_length binary32 _ v, c.put_value.ensures.place, length_plain binary32 c.in-Some.x);
    }

pub put_time-requires : goal.put_time-requires
put_time-requires c =
    omega (arith, float_length binary64 _ (sym c.in-Some-real_in.ensures))

pub returns-in-Some-real_in : goal.returns-in-Some-real_in
returns-in-Some-real_in c =
    let v = sym c.in-Some-real_in.ensures in
    record {
      put = put_same (sym (a_time _ (sym c.in_default.ensures) v)) c.put_time.ensures;
      upper_bound = omega (arith, float_length binary64 _ v, c.put_time.ensures.place, length_plain binary64 c.in-Some-real_in.x);
    }

pub returns : goal.returns
returns c =
    let v = sym c.in_default-real_in.ensures in
    record {
      put = put_same (sym (as_it_is _ (sym c.in_default.ensures) v)) c.put_word.ensures;
      upper_bound = omega (arith, c.put_word.ensures.place);
    }
