-- Document 01's bench sheet: the set-up of each row, B2 to B12.
use Rattle.std.specs.Prelude.{Bool, true, false, cond, ℕ, eqb, pos, negsuc, Float, Option, None, Some}
use Rattle.std.specs.Float.{fin}
use Rattle.rules.specs.declared.Bounds.{Bounds}
use Rattle.rules.specs.declared.AutomationRate.TheVariants as Rate
use Rattle.sheet.specs.declared.Call.{Call}
use Rattle.sheet.specs.declared.Row.{Row}

-- ---- numbers

abbrev pub n0 : Float
n0 = fin false 0 (pos 0)

abbrev n2 : Float
n2 = fin false 1 (pos 1)

abbrev n3 : Float
n3 = fin false 3 (pos 0)

abbrev pub n4 : Float
n4 = fin false 1 (pos 2)

abbrev n5 : Float
n5 = fin false 5 (pos 0)

abbrev n8 : Float
n8 = fin false 1 (pos 3)

abbrev n10 : Float
n10 = fin false 5 (pos 1)

-- ---- rows

-- "A-rate, range −10..10, default 0 unless said"; here the range is −10..max
abbrev within : Float → Bounds
within max = record { min = fin true 5 (pos 1); default = n0; max = max }

-- one block, with silence
abbrev pub once : Float → Option Call → Option Call → Option Call → ℕ → Bool → Row
once max c d e count shows =
    record {
      bounds = within max;
      rate = Rate.A;
      first = c;
      second = d;
      third = e;
      count = count;
      noisy = false;
      shows = shows;
      between = None;
      again = 0;
    }

-- "step 5 at 2"
abbrev pub b2 : Row
b2 = once n10 (Some (Call.Step n5 n2)) None None 4 false

-- "step 5 at 2.5"
abbrev pub b3 : Row
b3 = once n10 (Some (Call.Step n5 (fin false 5 (negsuc 0)))) None None 4 false

-- "step 5 at 4", "intrinsic 5"
abbrev pub b4 : Row
b4 = once n10 (Some (Call.Step n5 n4)) None None 4 true

-- "step 0 at 0, linear 8 at 8"
abbrev pub b5 : Row
b5 = once n10 (Some (Call.Step n0 n0)) (Some (Call.Linear n8 n8)) None 10 false

-- "B5 with hold at 2"
abbrev pub b6 : Row
b6 = once n10 b5.first b5.second (Some (Call.Hold n2)) 4 false

-- "curve 0 4 0 from 0 for 4"
abbrev pub b7 : Row
b7 = once n10 (Some (Call.Curve n0 n4 n0 n0 n4)) None None 6 false

-- "step 0 at 0, exponential 5 at 3"
abbrev pub b8 : Row
b8 = once n10 (Some (Call.Step n0 n0)) (Some (Call.Exponential n5 n3)) None 5 false

-- "range −10..3, step 5 at 2"
abbrev pub b9 : Row
b9 = once n3 (Some (Call.Step n5 n2)) None None 4 false

-- "K-rate, step 5 at 0, 4 and 4"
abbrev pub b10 : Row
b10 =
    record {
      bounds = within n10;
      rate = Rate.K;
      first = Some (Call.Step n5 n0);
      second = None;
      third = None;
      count = 4;
      noisy = false;
      shows = false;
      between = None;
      again = 4;
    }

-- "range −1..1, default 0.5, input NaN 0"
abbrev pub b11 : Row
b11 =
    record {
      bounds = record { min = fin true 1 (pos 0); default = fin false 1 (negsuc 0); max = fin false 1 (pos 0) };
      rate = Rate.A;
      first = None;
      second = None;
      third = None;
      count = 2;
      noisy = true;
      shows = false;
      between = None;
      again = 0;
    }

-- "B5, count 4, cancel at 5, 4"
abbrev pub b12 : Row
b12 =
    record {
      bounds = within n10;
      rate = Rate.A;
      first = b5.first;
      second = b5.second;
      third = None;
      count = 4;
      noisy = false;
      shows = false;
      between = Some (Call.Cancel n5);
      again = 4;
    }

-- the row of a number from 2 to 12; B12 for any other
unfoldable pub row_of : ℕ → Row
row_of n =
    cond (eqb n 2) b2 (cond (eqb n 3) b3 (cond (eqb n 4) b4 (cond (eqb n 5) b5 (cond (eqb n 6) b6 (cond (eqb n 7) b7
    (cond (eqb n 8) b8 (cond (eqb n 9) b9 (cond (eqb n 10) b10 (cond (eqb n 11) b11 b12)))))))))
