-- Document 01's bench sheet, B2 to B13, as one table that the checker computes.
use mathlib.Core.Path.{◌≡◌, refl}
use mathlib.Core.Bool.{true, false}
use mathlib.Core.List.{List, [], ◌∷◌, ◌++◌}
use Prim.Native.Nat.{◌^◌}
use lib.IntN.{negsuc}
use lib.Ieee as Ieee
use lib.Ieee.{Float, nan, fin, binary32}
use Rattle.rules.specs.declared.AutomationRate.TheVariants as Rate
use Rattle.rules.specs.Numbers as Numbers
use Rattle.rules.specs.Kernels as Kernels
use Rattle.rules.specs.Block.{step, linear, exponential, curve, cancel, hold}
use Rattle.rules.proofs.Table.{Act, make, ask, play, intrinsic, ok, heard, value, Case, results, expected, bounds, n0, n1, n2, n3, n4, n5, n6, n7, n8, n10, half, minus1, minus10}

-- "A-rate, range −10..10, default 0 unless said"
abbrev usual : Act
usual = make (bounds minus10 n0 n10) Rate.A

abbrev b5 : List Act
b5 = usual ∷ ask (step n0 n0) ∷ ask (linear n8 n8) ∷ []

unfoldable pub sheet : List Case
sheet =
    -- B2: step 5 at 2
    record {
      acts = usual ∷ ask (step n5 n2) ∷ play n0 4 [] ∷ [];
      said = ok ∷ ok ∷ heard (n0 ∷ n0 ∷ n5 ∷ n5 ∷ []) 2 ∷ [];
    }
    -- B3: step 5 at 2.5
    ∷ record {
      acts = usual ∷ ask (step n5 (fin false 5 (negsuc 0))) ∷ play n0 4 [] ∷ [];
      said = ok ∷ ok ∷ heard (n0 ∷ n0 ∷ n0 ∷ n5 ∷ []) 2 ∷ [];
    }
    -- B4: step 5 at 4
    ∷ record {
      acts = usual ∷ ask (step n5 n4) ∷ play n0 4 [] ∷ intrinsic ∷ [];
      said = ok ∷ ok ∷ heard (n0 ∷ n0 ∷ n0 ∷ n0 ∷ []) 2 ∷ value n5 ∷ [];
    }
    -- B5: step 0 at 0, linear 8 at 8
    ∷ record {
      acts = b5 ++ (play n0 10 [] ∷ []);
      said = ok ∷ ok ∷ ok ∷ heard (n0 ∷ n1 ∷ n2 ∷ n3 ∷ n4 ∷ n5 ∷ n6 ∷ n7 ∷ n8 ∷ n8 ∷ []) 3 ∷ [];
    }
    -- B6: B5 with hold at 2
    ∷ record {
      acts = b5 ++ (ask (hold n2) ∷ play n0 4 [] ∷ []);
      said = ok ∷ ok ∷ ok ∷ ok ∷ heard (n0 ∷ n1 ∷ n2 ∷ n2 ∷ []) 3 ∷ [];
    }
    -- B7: curve 0 4 0 from 0 for 4
    ∷ record {
      acts = usual ∷ ask (curve n0 n4 (n0 ∷ n4 ∷ n0 ∷ [])) ∷ play n0 6 [] ∷ [];
      said = ok ∷ ok ∷ heard (n0 ∷ n2 ∷ n4 ∷ n2 ∷ n0 ∷ n0 ∷ []) 2 ∷ [];
    }
    -- B8: step 0 at 0, exponential 5 at 3
    ∷ record {
      acts = usual ∷ ask (step n0 n0) ∷ ask (exponential n5 n3) ∷ play n0 5 [] ∷ [];
      said = ok ∷ ok ∷ ok ∷ heard (n0 ∷ n0 ∷ n0 ∷ n5 ∷ n5 ∷ []) 4 ∷ [];
    }
    -- B9: range −10..3, step 5 at 2
    ∷ record {
      acts = make (bounds minus10 n0 n3) Rate.A ∷ ask (step n5 n2) ∷ play n0 4 [] ∷ [];
      said = ok ∷ ok ∷ heard (n0 ∷ n0 ∷ n3 ∷ n3 ∷ []) 2 ∷ [];
    }
    -- B10: K-rate, step 5 at 0, two blocks
    ∷ record {
      acts = make (bounds minus10 n0 n10) Rate.K ∷ ask (step n5 n0) ∷ play n0 4 [] ∷ play n4 4 [] ∷ [];
      said = ok ∷ ok ∷ heard (n0 ∷ n0 ∷ n0 ∷ n0 ∷ []) 2 ∷ heard (n5 ∷ n5 ∷ n5 ∷ n5 ∷ []) 1 ∷ [];
    }
    -- B11: range −1..1, default 0.5, input NaN 0
    ∷ record {
      acts = make (bounds minus1 half n1) Rate.A ∷ play n0 2 (nan ∷ n0 ∷ []) ∷ [];
      said = ok ∷ heard (half ∷ half ∷ []) 1 ∷ [];
    }
    -- B12: B5, cancel at 5, a second block
    ∷ record {
      acts = b5 ++ (play n0 4 [] ∷ ask (cancel n5) ∷ play n4 4 [] ∷ []);
      said = ok ∷ ok ∷ ok ∷ heard (n0 ∷ n1 ∷ n2 ∷ n3 ∷ []) 2 ∷ ok ∷ heard (n0 ∷ n0 ∷ n0 ∷ n0 ∷ []) 1 ∷ [];
    }
    ∷ []

-- B13 is the falling power of 0 and of 2^23
pub bench_sheet : (results sheet ≡ expected sheet) × (Kernels.falling 0 ≡ 4294967296) × (Kernels.falling (2 ^ 23) ≡ 3037000499)
unfolding results expected sheet Kernels.falling Kernels.falling_from Kernels.table Kernels.table_from Kernels.root Kernels.root_from
bench_sheet = (refl, refl, refl)

-- (1 + 2^-12)^2 - (1 + 2^-11) is 2^-24; with the product rounded first it would be 0
pub rounded_once : Numbers.fused binary32 (fin false 4097 (negsuc 11)) (fin false 4097 (negsuc 11)) (fin true 2049 (negsuc 10)) ≡ fin false 1 (negsuc 23)
unfolding Numbers.fused Numbers.product Ieee.add
rounded_once = refl
