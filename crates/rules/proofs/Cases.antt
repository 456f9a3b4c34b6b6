-- A second table beside the bench sheet, which has no target, no true exponential, no second hold and no walk at K-rate. What is expected does not come from the
-- definitions: C1 to C26 are from a program written from document 01 alone, C27 to C49 from an interpreter of 01 in exact fractions by the second reader, who had read
-- the definitions, C50 to C52, C54 to C58, C61 to C66, C68 to C74, C78, C79 and what 02 changes of C25 and C65 from a program written from 01 and 02 (cases-02), C53, C59,
-- C60, C67, C75 to C77, C80 and what 02 changes of C39, C42 and C46 by hand; the oracle's reference interpreter gives the same. Under each case's name stand its calls in
-- plain numbers.
use Rattle.std.proofs.Common.{Some, None}
use mathlib.Core.Path.{◌≡◌, refl}
use mathlib.Core.Bool.{true, false}
use mathlib.Core.List.{List, [], ◌∷◌, ◌++◌}
use lib.ListN.{replicate}
use lib.IntN.{pos, negsuc}
use lib.Ieee.{nan, inf, fin}
use Rattle.rules.specs.declared.Event.TheVariants as Event
use Rattle.rules.specs.declared.AutomationRate.TheVariants as Rate
use Rattle.rules.specs.declared.Edition.TheVariants as Edition
use Rattle.rules.specs.Queue.{alone}
use Rattle.rules.specs.Block.{set, step, linear, exponential, target, curve, cancel, hold}
use Rattle.rules.proofs.Table.{make, make_under, ask, block, lend, look, kind, ok, refused, turned, output, state, of, Case, results, expected, bounds, done, n0, n1, n2, n3, n4, n5, n6, n7, n8, n9, n10, half, minus0, minus1, minus10, mark}

unfoldable pub cases : List Case
cases =
    -- C1 the story: a sequence in units of 64. A step behind the end of a block of 64 is not consumed by it; the next block plays it
    -- make -1000 0 1000 a; step 400 0; step 0 70; block 0 1 64; state; block 64 1 64; state
    record {
      acts =
          make (bounds (fin true 125 (pos 3)) n0 (fin false 125 (pos 3))) Rate.A
          ∷ ask (step (fin false 25 (pos 4)) n0)
          ∷ ask (step n0 (fin false 35 (pos 1)))
          ∷ block n0 n1 64 64 []
          ∷ look
          ∷ block (fin false 1 (pos 6)) n1 64 64 []
          ∷ look
          ∷ [];
      said =
          ok
          ∷ ok
          ∷ ok
          ∷ output 2 n0 false (replicate 64 (fin false 25 (pos 4)))
          ∷ state (fin false 25 (pos 4)) (Some n0) (Some (fin false 1 (pos 6))) (done n0 (fin false 25 (pos 4))) (alone (Event.Step n0 (fin false 35 (pos 1))) ∷ []) true
          ∷ output 2 (fin false 25 (pos 4)) false (replicate 6 (fin false 25 (pos 4)) ++ replicate 58 n0)
          ∷ state n0 (Some (fin false 1 (pos 6))) (Some (fin false 1 (pos 7))) (done (fin false 35 (pos 1)) n0) [] true
          ∷ [];
    }
    -- C2 the same with one block of 128, for comparison
    -- make -1000 0 1000 a; step 400 0; step 0 70; block 0 1 128; state
    ∷ record {
      acts =
          make (bounds (fin true 125 (pos 3)) n0 (fin false 125 (pos 3))) Rate.A
          ∷ ask (step (fin false 25 (pos 4)) n0)
          ∷ ask (step n0 (fin false 35 (pos 1)))
          ∷ block n0 n1 128 128 []
          ∷ look
          ∷ [];
      said =
          ok
          ∷ ok
          ∷ ok
          ∷ output 3 n0 false (replicate 70 (fin false 25 (pos 4)) ++ replicate 58 n0)
          ∷ state n0 (Some n0) (Some (fin false 1 (pos 7))) (done (fin false 35 (pos 1)) n0) [] true
          ∷ [];
    }
    -- C3 a target over two blocks, and its snap
    -- make -10 0 10 a; step 1 0; target 0 0 0.5; block 0 1 8; state; block 8 1 8; state; block 16 1 4; state
    ∷ record {
      acts =
          make (bounds minus10 n0 n10) Rate.A
          ∷ ask (step n1 n0)
          ∷ ask (target n0 n0 half)
          ∷ block n0 n1 8 8 []
          ∷ look
          ∷ block n8 n1 8 8 []
          ∷ look
          ∷ block (fin false 1 (pos 4)) n1 4 4 []
          ∷ look
          ∷ [];
      said =
          ok
          ∷ ok
          ∷ ok
          ∷ output 2 n0 false (n1 ∷ (fin false 9082197 (negsuc 25)) ∷ (fin false 4916567 (negsuc 27)) ∷ (fin false 665385 (negsuc 27)) ∷ (fin false 1440801 (negsuc 31)) ∷ (fin false 6239719 (negsuc 36)) ∷ (fin false 6755633 (negsuc 39)) ∷ (fin false 1828551 (negsuc 40)) ∷ [])
          ∷ state (fin false 7918959 (negsuc 45)) (Some n0) (Some n8) (done n0 n1) (alone (Event.Target n0 n0 half None) ∷ []) true
          ∷ output 1 (fin false 7918959 (negsuc 45)) false ((fin false 7918959 (negsuc 45)) ∷ (fin false 8573717 (negsuc 48)) ∷ (fin false 9282611 (negsuc 51)) ∷ (fin false 5025059 (negsuc 53)) ∷ (fin false 10881085 (negsuc 57)) ∷ (fin false 11780757 (negsuc 60)) ∷ (fin false 12754817 (negsuc 63)) ∷ (fin false 6904707 (negsuc 65)) ∷ [])
          ∷ state n0 (Some n8) (Some (fin false 1 (pos 4))) (done n0 n1) (alone (Event.Step n0 (fin false 1 (pos 4))) ∷ []) true
          ∷ output 2 n0 false (n0 ∷ n0 ∷ n0 ∷ n0 ∷ [])
          ∷ state n0 (Some (fin false 1 (pos 4))) (Some (fin false 5 (pos 2))) (done (fin false 1 (pos 4)) n0) [] true
          ∷ [];
    }
    -- C4 a target that ends at the next event
    -- make -10 0 10 a; step 1 0; target 5 1 2; step -3 4.5; block 0 1 8; state
    ∷ record {
      acts =
          make (bounds minus10 n0 n10) Rate.A
          ∷ ask (step n1 n0)
          ∷ ask (target n5 n1 n2)
          ∷ ask (step (fin true 3 (pos 0)) (fin false 9 (negsuc 0)))
          ∷ block n0 n1 8 8 []
          ∷ look
          ∷ [];
      said =
          ok
          ∷ ok
          ∷ ok
          ∷ ok
          ∷ output 4 n0 false (n1 ∷ n1 ∷ (fin false 1349453 (negsuc 18)) ∷ (fin false 14799527 (negsuc 21)) ∷ (fin false 1076751 (negsuc 17)) ∷ (fin true 3 (pos 0)) ∷ (fin true 3 (pos 0)) ∷ (fin true 3 (pos 0)) ∷ [])
          ∷ state (fin true 3 (pos 0)) (Some n0) (Some n8) (done (fin false 9 (negsuc 0)) (fin true 3 (pos 0))) [] true
          ∷ [];
    }
    -- C5 an exponential from 1 to 8
    -- make -10 0 10 a; step 1 0; exponential 8 3; block 0 1 6; state
    ∷ record {
      acts =
          make (bounds minus10 n0 n10) Rate.A
          ∷ ask (step n1 n0)
          ∷ ask (exponential n8 n3)
          ∷ block n0 n1 6 6 []
          ∷ look
          ∷ [];
      said =
          ok
          ∷ ok
          ∷ ok
          ∷ output 3 n0 false (n1 ∷ n2 ∷ n4 ∷ n8 ∷ n8 ∷ n8 ∷ [])
          ∷ state n8 (Some n0) (Some n6) (done n3 n8) [] true
          ∷ [];
    }
    -- C6 an exponential over two blocks, downwards, negative
    -- make -10 0 10 a; step -8 0; exponential -0.5 6; block 0 1 4; block 4 1 4; state
    ∷ record {
      acts =
          make (bounds minus10 n0 n10) Rate.A
          ∷ ask (step (fin true 1 (pos 3)) n0)
          ∷ ask (exponential (fin true 1 (negsuc 0)) n6)
          ∷ block n0 n1 4 4 []
          ∷ block n4 n1 4 4 []
          ∷ look
          ∷ [];
      said =
          ok
          ∷ ok
          ∷ ok
          ∷ output 2 n0 false ((fin true 1 (pos 3)) ∷ (fin true 1321123 (negsuc 17)) ∷ (fin true 13316085 (negsuc 21)) ∷ (fin true 1 (pos 1)) ∷ [])
          ∷ output 2 (fin true 1321123 (negsuc 19)) false ((fin true 1321123 (negsuc 19)) ∷ (fin true 13316085 (negsuc 23)) ∷ (fin true 1 (negsuc 0)) ∷ (fin true 1 (negsuc 0)) ∷ [])
          ∷ state (fin true 1 (negsuc 0)) (Some n4) (Some n8) (done n6 (fin true 1 (negsuc 0))) [] true
          ∷ [];
    }
    -- C7 a held target, and a hold that can only move earlier
    -- make -10 0 10 a; step 8 0; target 0 0 4; hold 5; hold 3; hold 4; state; block 0 1 8; state
    ∷ record {
      acts =
          make (bounds minus10 n0 n10) Rate.A
          ∷ ask (step n8 n0)
          ∷ ask (target n0 n0 n4)
          ∷ ask (hold n5)
          ∷ ask (hold n3)
          ∷ ask (hold n4)
          ∷ look
          ∷ block n0 n1 8 8 []
          ∷ look
          ∷ [];
      said =
          ok
          ∷ ok
          ∷ ok
          ∷ ok
          ∷ ok
          ∷ ok
          ∷ state n0 None None None (alone (Event.Step n8 n0) ∷ alone (Event.Target n0 n0 n4 (Some n3)) ∷ []) true
          ∷ output 3 n0 false (n8 ∷ (fin false 13066109 (negsuc 20)) ∷ (fin false 1271987 (negsuc 17)) ∷ (fin false 1981249 (negsuc 18)) ∷ (fin false 1981249 (negsuc 18)) ∷ (fin false 1981249 (negsuc 18)) ∷ (fin false 1981249 (negsuc 18)) ∷ (fin false 1981249 (negsuc 18)) ∷ [])
          ∷ state (fin false 1981249 (negsuc 18)) (Some n0) (Some n8) (done n3 (fin false 1981249 (negsuc 18))) [] true
          ∷ [];
    }
    -- C8 a held curve
    -- make -10 0 10 a; curve 0 8 0 4 8 4 0; hold 3; state; block 0 1 6; state
    ∷ record {
      acts =
          make (bounds minus10 n0 n10) Rate.A
          ∷ ask (curve n0 n8 (n0 ∷ n4 ∷ n8 ∷ n4 ∷ n0 ∷ []))
          ∷ ask (hold n3)
          ∷ look
          ∷ block n0 n1 6 6 []
          ∷ look
          ∷ [];
      said =
          ok
          ∷ ok
          ∷ ok
          ∷ state n0 None None None (record { event = Event.Curve n0 n8 5 (Some n3); numbers = (n0 ∷ n4 ∷ n8 ∷ n4 ∷ n0 ∷ []) } ∷ []) true
          ∷ output 2 n0 false (n0 ∷ n2 ∷ n4 ∷ n6 ∷ n6 ∷ n6 ∷ [])
          ∷ state n6 (Some n0) (Some n6) (done n3 n6) [] true
          ∷ [];
    }
    -- C9 a held exponential
    -- make -10 0 10 a; step 1 0; exponential 8 6; hold 3; block 0 1 8; state
    ∷ record {
      acts =
          make (bounds minus10 n0 n10) Rate.A
          ∷ ask (step n1 n0)
          ∷ ask (exponential n8 n6)
          ∷ ask (hold n3)
          ∷ block n0 n1 8 8 []
          ∷ look
          ∷ [];
      said =
          ok
          ∷ ok
          ∷ ok
          ∷ ok
          ∷ output 3 n0 false (n1 ∷ (fin false 11863283 (negsuc 22)) ∷ n2 ∷ (fin false 11863283 (negsuc 21)) ∷ (fin false 11863283 (negsuc 21)) ∷ (fin false 11863283 (negsuc 21)) ∷ (fin false 11863283 (negsuc 21)) ∷ (fin false 11863283 (negsuc 21)) ∷ [])
          ∷ state (fin false 11863283 (negsuc 21)) (Some n0) (Some n8) (done n3 (fin false 11863283 (negsuc 21))) [] true
          ∷ [];
    }
    -- C10 a ramp that ends exactly at the next block time goes on waiting
    -- make -10 0 10 a; step 0 0; linear 4 4; block 0 1 4; state; block 4 1 4; state
    ∷ record {
      acts =
          make (bounds minus10 n0 n10) Rate.A
          ∷ ask (step n0 n0)
          ∷ ask (linear n4 n4)
          ∷ block n0 n1 4 4 []
          ∷ look
          ∷ block n4 n1 4 4 []
          ∷ look
          ∷ [];
      said =
          ok
          ∷ ok
          ∷ ok
          ∷ output 2 n0 false (n0 ∷ n1 ∷ n2 ∷ n3 ∷ [])
          ∷ state n4 (Some n0) (Some n4) (done n0 n0) (alone (Event.Linear n4 n4 None) ∷ []) true
          ∷ output 2 n4 false (n4 ∷ n4 ∷ n4 ∷ n4 ∷ [])
          ∷ state n4 (Some n4) (Some n8) (done n4 n4) [] true
          ∷ [];
    }
    -- C11 a target before a ramp, starting inside the block
    -- make -10 0 10 a; step 8 0; target 0 2 4; linear 4 6; block 0 1 8; state
    ∷ record {
      acts =
          make (bounds minus10 n0 n10) Rate.A
          ∷ ask (step n8 n0)
          ∷ ask (target n0 n2 n4)
          ∷ ask (linear n4 n6)
          ∷ block n0 n1 8 8 []
          ∷ look
          ∷ [];
      said =
          ok
          ∷ ok
          ∷ ok
          ∷ ok
          ∷ output 4 n0 false (n8 ∷ n8 ∷ n8 ∷ n7 ∷ n6 ∷ n5 ∷ n4 ∷ n4 ∷ [])
          ∷ state n4 (Some n0) (Some n8) (done n6 n4) [] true
          ∷ [];
    }
    -- C12 a target that has run, before a ramp
    -- make -10 0 10 a; step 8 0; target 0 0 4; block 0 1 4; linear 4 8; block 4 1 8; state
    ∷ record {
      acts =
          make (bounds minus10 n0 n10) Rate.A
          ∷ ask (step n8 n0)
          ∷ ask (target n0 n0 n4)
          ∷ block n0 n1 4 4 []
          ∷ ask (linear n4 n8)
          ∷ block n4 n1 8 8 []
          ∷ look
          ∷ [];
      said =
          ok
          ∷ ok
          ∷ ok
          ∷ output 2 n0 false (n8 ∷ (fin false 13066109 (negsuc 20)) ∷ (fin false 1271987 (negsuc 17)) ∷ (fin false 1981249 (negsuc 18)) ∷ [])
          ∷ ok
          ∷ output 3 (fin false 6171993 (negsuc 20)) false ((fin false 6171993 (negsuc 20)) ∷ (fin false 6726147 (negsuc 20)) ∷ (fin false 14560601 (negsuc 21)) ∷ (fin false 3917227 (negsuc 19)) ∷ n4 ∷ n4 ∷ n4 ∷ n4 ∷ [])
          ∷ state n4 (Some n4) (Some (fin false 3 (pos 2))) (done n8 n4) [] true
          ∷ [];
    }
    -- C13 K-rate: the value before the walk, from 3
    -- make -10 3 10 k; step 5 1; linear 9 5; block 0 1 4; state; block 4 1 4; state
    ∷ record {
      acts =
          make (bounds minus10 n3 n10) Rate.K
          ∷ ask (step n5 n1)
          ∷ ask (linear n9 n5)
          ∷ block n0 n1 4 4 []
          ∷ look
          ∷ block n4 n1 4 4 []
          ∷ look
          ∷ [];
      said =
          ok
          ∷ ok
          ∷ ok
          ∷ output 2 n3 true (n3 ∷ n3 ∷ n3 ∷ n3 ∷ [])
          ∷ state n8 (Some n0) (Some n4) (done n1 n5) (alone (Event.Linear n9 n5 None) ∷ []) true
          ∷ output 2 n8 true (n8 ∷ n8 ∷ n8 ∷ n8 ∷ [])
          ∷ state n9 (Some n4) (Some n8) (done n5 n9) [] true
          ∷ [];
    }
    -- C14 the current value is the one before the walk; one-valued blocks
    -- make -10 2 10 a; step 7 0; block 0 1 4; block 4 1 4; state
    ∷ record {
      acts =
          make (bounds minus10 n2 n10) Rate.A
          ∷ ask (step n7 n0)
          ∷ block n0 n1 4 4 []
          ∷ block n4 n1 4 4 []
          ∷ look
          ∷ [];
      said =
          ok
          ∷ ok
          ∷ output 2 n2 false (n7 ∷ n7 ∷ n7 ∷ n7 ∷ [])
          ∷ output 1 n7 true (n7 ∷ n7 ∷ n7 ∷ n7 ∷ [])
          ∷ state n7 (Some n4) (Some n8) (done n0 n7) [] true
          ∷ [];
    }
    -- C15 zeros: a value of -0 with silence gives +0, with an input of -0 it keeps its sign
    -- make -10 0 10 a; step -0 0; block 0 1 3; block 3 1 2 2 -0 -0
    ∷ record {
      acts =
          make (bounds minus10 n0 n10) Rate.A
          ∷ ask (step minus0 n0)
          ∷ block n0 n1 3 3 []
          ∷ block n3 n1 2 2 (minus0 ∷ minus0 ∷ [])
          ∷ [];
      said =
          ok
          ∷ ok
          ∷ output 2 n0 false (n0 ∷ n0 ∷ n0 ∷ [])
          ∷ output 1 n0 false (minus0 ∷ minus0 ∷ [])
          ∷ [];
    }
    -- C16 clamping, an input, and a NaN in it
    -- make -1 0.5 3 a; step 2 0; block 0 1 5 5 0 1 2 -4 NaN
    ∷ record {
      acts =
          make (bounds minus1 half n3) Rate.A
          ∷ ask (step n2 n0)
          ∷ block n0 n1 5 5 (n0 ∷ n1 ∷ n2 ∷ (fin true 1 (pos 2)) ∷ nan ∷ [])
          ∷ [];
      said =
          ok
          ∷ ok
          ∷ output 2 half false (n2 ∷ n3 ∷ n3 ∷ minus1 ∷ half ∷ [])
          ∷ [];
    }
    -- C17 subnormals: all of the block so far become +0 where a target to 0 snaps (reading 3)
    -- make -10 0 10 a; step 1e-40 0; step 1 2; target 0 2 0.01; block 0 1 6
    ∷ record {
      acts =
          make (bounds minus10 n0 n10) Rate.A
          ∷ ask (step (fin false 35681 (negsuc 147)) n0)
          ∷ ask (step n1 n2)
          ∷ ask (target n0 n2 (fin false 5764607523034235 (negsuc 58)))
          ∷ block n0 n1 6 6 []
          ∷ [];
      said =
          ok
          ∷ ok
          ∷ ok
          ∷ ok
          ∷ output 3 n0 false (n0 ∷ n0 ∷ n1 ∷ n0 ∷ n0 ∷ n0 ∷ [])
          ∷ [];
    }
    -- C18 the same at K-rate
    -- make -10 1e-40 10 k; target 0 0 0.01; block 0 1 6; state
    ∷ record {
      acts =
          make (bounds minus10 (fin false 35681 (negsuc 147)) n10) Rate.K
          ∷ ask (target n0 n0 (fin false 5764607523034235 (negsuc 58)))
          ∷ block n0 n1 6 6 []
          ∷ look
          ∷ [];
      said =
          ok
          ∷ ok
          ∷ output 1 (fin false 35681 (negsuc 147)) true (n0 ∷ n0 ∷ n0 ∷ n0 ∷ n0 ∷ n0 ∷ [])
          ∷ state n0 (Some n0) (Some n6) (done n0 (fin false 35681 (negsuc 147))) (alone (Event.Step n0 n6) ∷ []) true
          ∷ [];
    }
    -- C19 a target that does not end, where times lose the period (reading 1)
    -- make -10 0 10 a; step 1 0; target 5 9007199254740992 4; block 9007199254740992 1 5
    ∷ record {
      acts =
          make (bounds minus10 n0 n10) Rate.A
          ∷ ask (step n1 n0)
          ∷ ask (target n5 (fin false 1 (pos 53)) n4)
          ∷ block (fin false 1 (pos 53)) n1 5 5 []
          ∷ [];
      said =
          ok
          ∷ ok
          ∷ ok
          ∷ output 2 n0 false (n1 ∷ n1 ∷ n1 ∷ n1 ∷ (fin false 14799527 (negsuc 21)) ∷ [])
          ∷ [];
    }
    -- C20 a finished curve's time is where it ends (reading 2)
    -- make -10 0 10 a; curve 0 4 0 4 8; linear 0 8; block 0 1 10; state
    ∷ record {
      acts =
          make (bounds minus10 n0 n10) Rate.A
          ∷ ask (curve n0 n4 (n0 ∷ n4 ∷ n8 ∷ []))
          ∷ ask (linear n0 n8)
          ∷ block n0 n1 10 10 []
          ∷ look
          ∷ [];
      said =
          ok
          ∷ ok
          ∷ ok
          ∷ output 3 n0 false (n0 ∷ n2 ∷ n4 ∷ n6 ∷ n8 ∷ n6 ∷ n4 ∷ n2 ∷ n0 ∷ n0 ∷ [])
          ∷ state n0 (Some n0) (Some n10) (done n8 n0) [] true
          ∷ [];
    }
    -- C21 an infinite next block time (reading 13)
    -- make -10 0 10 a; step 1 0; target 5 0 1e300; block 1.7e308 1e307 2; state; linear 3 1.75e308; block 1.7e308 1e307 2; state
    ∷ record {
      acts =
          make (bounds minus10 n0 n10) Rate.A
          ∷ ask (step n1 n0)
          ∷ ask (target n5 n0 (fin false 1681218273811815 (pos 946)))
          ∷ block (fin false 4258857765019067 (pos 972)) (fin false 8016673440035891 (pos 967)) 2 2 []
          ∷ look
          ∷ ask (linear n3 (fin false 1096029571879907 (pos 974)))
          ∷ block (fin false 4258857765019067 (pos 972)) (fin false 8016673440035891 (pos 967)) 2 2 []
          ∷ look
          ∷ [];
      said =
          ok
          ∷ ok
          ∷ ok
          ∷ output 2 n0 false (n5 ∷ n5 ∷ [])
          ∷ state n5 (Some (fin false 4258857765019067 (pos 972))) (Some (inf false)) (done (fin false 4258857765019067 (pos 972)) n1) (alone (Event.Step n5 (inf false)) ∷ []) true
          ∷ ok
          ∷ output 3 n5 false (n1 ∷ n3 ∷ [])
          ∷ state n5 (Some (fin false 4258857765019067 (pos 972))) (Some (inf false)) (done (inf false) n5) [] true
          ∷ [];
    }
    -- C22 a hold time before the ramp's start (reading 15)
    -- make -10 0 10 a; step 5 6; linear 8 8; block 0 1 7; hold 2; block 7 1 4; state
    ∷ record {
      acts =
          make (bounds minus10 n0 n10) Rate.A
          ∷ ask (step n5 n6)
          ∷ ask (linear n8 n8)
          ∷ block n0 n1 7 7 []
          ∷ ask (hold n2)
          ∷ block n7 n1 4 4 []
          ∷ look
          ∷ [];
      said =
          ok
          ∷ ok
          ∷ ok
          ∷ output 2 n0 false (n0 ∷ n0 ∷ n0 ∷ n0 ∷ n0 ∷ n0 ∷ n5 ∷ [])
          ∷ ok
          ∷ output 2 (fin false 13 (negsuc 0)) false (minus1 ∷ minus1 ∷ minus1 ∷ minus1 ∷ [])
          ∷ state minus1 (Some n7) (Some (fin false 11 (pos 0))) (done n2 minus1) [] true
          ∷ [];
    }
    -- C23 an exponential that is none: from 0, held (reading 5)
    -- make -10 0 10 a; step 0 0; exponential 5 8; hold 2; block 0 1 4; state
    ∷ record {
      acts =
          make (bounds minus10 n0 n10) Rate.A
          ∷ ask (step n0 n0)
          ∷ ask (exponential n5 n8)
          ∷ ask (hold n2)
          ∷ block n0 n1 4 4 []
          ∷ look
          ∷ [];
      said =
          ok
          ∷ ok
          ∷ ok
          ∷ ok
          ∷ output 4 n0 false (n0 ∷ n0 ∷ n5 ∷ n5 ∷ [])
          ∷ state n5 (Some n0) (Some n4) (done n2 n5) [] true
          ∷ [];
    }
    -- C24 NaN from finite numbers: the default is put out
    -- make -3.4e38 1 3.4e38 a; step -3e38 0; linear 3e38 4; block 0 1 5
    ∷ record {
      acts =
          make (bounds (fin true 8381647 (pos 105)) n1 (fin false 8381647 (pos 105))) Rate.A
          ∷ ask (step (fin true 7395571 (pos 105)) n0)
          ∷ ask (linear (fin false 7395571 (pos 105)) n4)
          ∷ block n0 n1 5 5 []
          ∷ [];
      said =
          ok
          ∷ ok
          ∷ ok
          ∷ output 3 n1 false (n1 ∷ (fin false 8381647 (pos 105)) ∷ (fin false 8381647 (pos 105)) ∷ (fin false 8381647 (pos 105)) ∷ (fin false 7395571 (pos 105)) ∷ [])
          ∷ [];
    }
    -- C25 cancel in a ramp; cancel with the store; a curve between curves
    -- make -10 0 10 a; step 0 0; linear 8 8; block 0 1 4; cancel 5; block 4 1 4; curve 20 2 1 2; curve 10 2 4 5 6; curve 15 1 7 8; state; cancel 12; state
    ∷ record {
      acts =
          make (bounds minus10 n0 n10) Rate.A
          ∷ ask (step n0 n0)
          ∷ ask (linear n8 n8)
          ∷ block n0 n1 4 4 []
          ∷ ask (cancel n5)
          ∷ block n4 n1 4 4 []
          ∷ ask (curve (fin false 5 (pos 2)) n2 (n1 ∷ n2 ∷ []))
          ∷ ask (curve n10 n2 (n4 ∷ n5 ∷ n6 ∷ []))
          ∷ ask (curve (fin false 15 (pos 0)) n1 (n7 ∷ n8 ∷ []))
          ∷ look
          ∷ ask (cancel (fin false 3 (pos 2)))
          ∷ look
          ∷ [];
      said =
          ok
          ∷ ok
          ∷ ok
          ∷ output 2 n0 false (n0 ∷ n1 ∷ n2 ∷ n3 ∷ [])
          ∷ ok
          ∷ output 1 n0 true (n0 ∷ n0 ∷ n0 ∷ n0 ∷ [])
          ∷ ok
          ∷ ok
          ∷ ok
          ∷ state n0 (Some n4) (Some n8) (done n0 n0) (record { event = Event.Curve n10 n2 3 None; numbers = (n4 ∷ n5 ∷ n6 ∷ []) } ∷ record { event = Event.Curve (fin false 15 (pos 0)) n1 2 None; numbers = (n7 ∷ n8 ∷ []) } ∷ record { event = Event.Curve (fin false 5 (pos 2)) n2 2 None; numbers = (n1 ∷ n2 ∷ []) } ∷ []) true
          ∷ ok
          ∷ state n0 (Some n4) (Some n8) (done n0 n0) [] true
          ∷ [];
    }
    -- C26 refusals, several at once: the lowest
    -- make 1 0 2 a; make -10 0 10 a; step NaN -1; step 1 -1; exponential 0 -1; exponential -0 1; target 1 1 -1; target 1 1 -0; curve 1 0 5; curve 1 1 5; block NaN 1 4; block 0 0 4; block 0 1 0; block 0 1 129; block 0 1 4 3; block 0 1 4 4 1 1 1; block 5 1 4; block 4 1 4; lend 4095; block 4 1 4; block 5 1 4; curve 9 1 1 2; cancel 3; cancel -0; lend 4096; state
    ∷ record {
      acts =
          make (bounds n1 n0 n2) Rate.A
          ∷ make (bounds minus10 n0 n10) Rate.A
          ∷ ask (step nan minus1)
          ∷ ask (step n1 minus1)
          ∷ ask (exponential n0 minus1)
          ∷ ask (exponential minus0 n1)
          ∷ ask (target n1 n1 minus1)
          ∷ ask (target n1 n1 minus0)
          ∷ ask (curve n1 n0 (n5 ∷ []))
          ∷ ask (curve n1 n1 (n5 ∷ []))
          ∷ block nan n1 4 4 []
          ∷ block n0 n0 4 4 []
          ∷ block n0 n1 0 0 []
          ∷ block n0 n1 129 129 []
          ∷ block n0 n1 4 3 []
          ∷ block n0 n1 4 4 (n1 ∷ n1 ∷ n1 ∷ [])
          ∷ block n5 n1 4 4 []
          ∷ block n4 n1 4 4 []
          ∷ lend 4095
          ∷ block n4 n1 4 4 []
          ∷ block n5 n1 4 4 []
          ∷ ask (curve n9 n1 (n1 ∷ n2 ∷ []))
          ∷ ask (cancel n3)
          ∷ ask (cancel minus0)
          ∷ lend 4096
          ∷ look
          ∷ [];
      said =
          refused 1
          ∷ ok
          ∷ refused 2
          ∷ refused 3
          ∷ refused 3
          ∷ refused 5
          ∷ refused 4
          ∷ ok
          ∷ refused 4
          ∷ refused 6
          ∷ turned 9 0 n0 false (replicate 4 mark)
          ∷ turned 9 0 n0 false (replicate 4 mark)
          ∷ turned 9 0 n0 false (replicate 0 mark)
          ∷ turned 9 0 n0 false (replicate 129 mark)
          ∷ turned 9 0 n0 false (replicate 3 mark)
          ∷ turned 9 0 n0 false (replicate 4 mark)
          ∷ output 2 n0 false (n1 ∷ n1 ∷ n1 ∷ n1 ∷ [])
          ∷ turned 10 0 n0 false (replicate 4 mark)
          ∷ ok
          ∷ turned 10 0 n0 false (replicate 4 mark)
          ∷ turned 14 0 n0 false (replicate 4 mark)
          ∷ refused 14
          ∷ refused 14
          ∷ refused 14
          ∷ ok
          ∷ state n1 (Some n5) (Some n9) (done n1 n1) [] true
          ∷ [];
    }
    -- C27 the snap's edge: a value just 1e-10 (f32) away from the target does not snap
    -- make -10 1e-10 10 a; target 0 0 1e300; block 0 1 2; state
    ∷ record {
      acts =
          make (bounds minus10 (fin false 14411519 (negsuc 56)) n10) Rate.A
          ∷ ask (target n0 n0 (fin false 1681218273811815 (pos 946)))
          ∷ block n0 n1 2 2 []
          ∷ look
          ∷ [];
      said =
          ok
          ∷ ok
          ∷ output 1 (fin false 14411519 (negsuc 56)) false ((fin false 14411519 (negsuc 56)) ∷ (fin false 14411519 (negsuc 56)) ∷ [])
          ∷ state (fin false 14411519 (negsuc 56)) (Some n0) (Some n2) (done n0 (fin false 14411519 (negsuc 56))) (alone (Event.Target n0 n0 (fin false 1681218273811815 (pos 946)) None) ∷ []) true
          ∷ [];
    }
    -- C28 a target whose next event, or whose hold, lies just at the next block time does not end
    -- make -10 1 10 a; target 5 0 2; step 2 4; block 0 1 4; state; block 4 1 2; state; make -10 1 10 a; target 5 0 2; hold 4; block 0 1 4; state; block 4 1 2; state
    ∷ record {
      acts =
          make (bounds minus10 n1 n10) Rate.A
          ∷ ask (target n5 n0 n2)
          ∷ ask (step n2 n4)
          ∷ block n0 n1 4 4 []
          ∷ look
          ∷ block n4 n1 2 2 []
          ∷ look
          ∷ make (bounds minus10 n1 n10) Rate.A
          ∷ ask (target n5 n0 n2)
          ∷ ask (hold n4)
          ∷ block n0 n1 4 4 []
          ∷ look
          ∷ block n4 n1 2 2 []
          ∷ look
          ∷ [];
      said =
          ok
          ∷ ok
          ∷ ok
          ∷ output 1 n1 false (n1 ∷ (fin false 1349453 (negsuc 18)) ∷ (fin false 14799527 (negsuc 21)) ∷ (fin false 1076751 (negsuc 17)) ∷ [])
          ∷ state (fin false 9350485 (negsuc 20)) (Some n0) (Some n4) (done n0 n1) (alone (Event.Target n5 n0 n2 None) ∷ alone (Event.Step n2 n4) ∷ []) true
          ∷ output 3 (fin false 9350485 (negsuc 20)) false (n2 ∷ n2 ∷ [])
          ∷ state n2 (Some n4) (Some n6) (done n4 n2) [] true
          ∷ ok
          ∷ ok
          ∷ ok
          ∷ output 1 n1 false (n1 ∷ (fin false 1349453 (negsuc 18)) ∷ (fin false 14799527 (negsuc 21)) ∷ (fin false 1076751 (negsuc 17)) ∷ [])
          ∷ state (fin false 9350485 (negsuc 20)) (Some n0) (Some n4) (done n0 n1) (alone (Event.Target n5 n0 n2 (Some n4)) ∷ []) true
          ∷ output 2 (fin false 9350485 (negsuc 20)) false ((fin false 9350485 (negsuc 20)) ∷ (fin false 9350485 (negsuc 20)) ∷ [])
          ∷ state (fin false 9350485 (negsuc 20)) (Some n4) (Some n6) (done n4 (fin false 9350485 (negsuc 20))) [] true
          ∷ [];
    }
    -- C29 a target and a curve that start just at the next block time have started; one behind it waits
    -- make -10 1 10 a; step 1 0; target 1 4 2; block 0 1 4; state; make -10 1 10 a; step 1 0; curve 4 2 3 5; block 0 1 4; state; make -10 0 10 a; step 1 0; target 5 4.5 2; block 0 1 4; state; make -10 0 10 a; step 1 0; curve 4.5 2 3 5; block 0 1 4; state
    ∷ record {
      acts =
          make (bounds minus10 n1 n10) Rate.A
          ∷ ask (step n1 n0)
          ∷ ask (target n1 n4 n2)
          ∷ block n0 n1 4 4 []
          ∷ look
          ∷ make (bounds minus10 n1 n10) Rate.A
          ∷ ask (step n1 n0)
          ∷ ask (curve n4 n2 (n3 ∷ n5 ∷ []))
          ∷ block n0 n1 4 4 []
          ∷ look
          ∷ make (bounds minus10 n0 n10) Rate.A
          ∷ ask (step n1 n0)
          ∷ ask (target n5 (fin false 9 (negsuc 0)) n2)
          ∷ block n0 n1 4 4 []
          ∷ look
          ∷ make (bounds minus10 n0 n10) Rate.A
          ∷ ask (step n1 n0)
          ∷ ask (curve (fin false 9 (negsuc 0)) n2 (n3 ∷ n5 ∷ []))
          ∷ block n0 n1 4 4 []
          ∷ look
          ∷ [];
      said =
          ok
          ∷ ok
          ∷ ok
          ∷ output 2 n1 false (n1 ∷ n1 ∷ n1 ∷ n1 ∷ [])
          ∷ state n1 (Some n0) (Some n4) (done n0 n1) (alone (Event.Step n1 n4) ∷ []) true
          ∷ ok
          ∷ ok
          ∷ ok
          ∷ output 2 n1 false (n1 ∷ n1 ∷ n1 ∷ n1 ∷ [])
          ∷ state n3 (Some n0) (Some n4) (done n0 n1) (record { event = Event.Curve n4 n2 2 None; numbers = (n3 ∷ n5 ∷ []) } ∷ []) true
          ∷ ok
          ∷ ok
          ∷ ok
          ∷ output 2 n0 false (n1 ∷ n1 ∷ n1 ∷ n1 ∷ [])
          ∷ state n1 (Some n0) (Some n4) (done n0 n1) (alone (Event.Target n5 (fin false 9 (negsuc 0)) n2 None) ∷ []) true
          ∷ ok
          ∷ ok
          ∷ ok
          ∷ output 2 n0 false (n1 ∷ n1 ∷ n1 ∷ n1 ∷ [])
          ∷ state n1 (Some n0) (Some n4) (done n0 n1) (record { event = Event.Curve (fin false 9 (negsuc 0)) n2 2 None; numbers = (n3 ∷ n5 ∷ []) } ∷ []) true
          ∷ [];
    }
    -- C30 a sample at the very start is the curve's; before it the intrinsic value
    -- make -10 1 10 a; curve 2 2 3 5; block 0 1 6; state
    ∷ record {
      acts =
          make (bounds minus10 n1 n10) Rate.A
          ∷ ask (curve n2 n2 (n3 ∷ n5 ∷ []))
          ∷ block n0 n1 6 6 []
          ∷ look
          ∷ [];
      said =
          ok
          ∷ ok
          ∷ output 2 n1 false (n1 ∷ n1 ∷ n3 ∷ n4 ∷ n5 ∷ n5 ∷ [])
          ∷ state n5 (Some n0) (Some n6) (done n4 n5) [] true
          ∷ [];
    }
    -- C31 ramps with no last event make one, and keep it; so does an exponential that turns and waits on
    -- make -10 1 10 a; linear 8 8; block 0 1 4; state; make -10 1 10 a; exponential 8 6; block 2 1 2; state; make -10 0 10 a; exponential 5 9; block 0 1 4; state; block 4 1 4; block 8 1 4; state
    ∷ record {
      acts =
          make (bounds minus10 n1 n10) Rate.A
          ∷ ask (linear n8 n8)
          ∷ block n0 n1 4 4 []
          ∷ look
          ∷ make (bounds minus10 n1 n10) Rate.A
          ∷ ask (exponential n8 n6)
          ∷ block n2 n1 2 2 []
          ∷ look
          ∷ make (bounds minus10 n0 n10) Rate.A
          ∷ ask (exponential n5 n9)
          ∷ block n0 n1 4 4 []
          ∷ look
          ∷ block n4 n1 4 4 []
          ∷ block n8 n1 4 4 []
          ∷ look
          ∷ [];
      said =
          ok
          ∷ ok
          ∷ output 1 n1 false (n1 ∷ (fin false 15 (negsuc 2)) ∷ (fin false 11 (negsuc 1)) ∷ (fin false 29 (negsuc 2)) ∷ [])
          ∷ state (fin false 9 (negsuc 0)) (Some n0) (Some n4) (done n0 n1) (alone (Event.Linear n8 n8 None) ∷ []) true
          ∷ ok
          ∷ ok
          ∷ output 1 n1 false (n1 ∷ (fin false 14107901 (negsuc 22)) ∷ [])
          ∷ state (fin false 11863283 (negsuc 21)) (Some n2) (Some n4) (done n2 n1) (alone (Event.Exponential n8 n6 None) ∷ []) true
          ∷ ok
          ∷ ok
          ∷ output 2 n0 false (n0 ∷ n0 ∷ n0 ∷ n0 ∷ [])
          ∷ state n0 (Some n0) (Some n4) (done n0 n0) (alone (Event.Step n5 n9) ∷ []) true
          ∷ output 1 n0 true (n0 ∷ n0 ∷ n0 ∷ n0 ∷ [])
          ∷ output 2 n0 false (n0 ∷ n5 ∷ n5 ∷ n5 ∷ [])
          ∷ state n5 (Some n8) (Some (fin false 3 (pos 2))) (done n9 n5) [] true
          ∷ [];
    }
    -- C32 cancel just at an event's time; a ramp at that time is lost, with no last event too
    -- make -10 1 10 a; step 2 0; linear 8 6; block 0 1 4; step 3 9; cancel 6; state; make -10 1 10 a; linear 8 6; cancel 6; state; make -10 1 10 a; step 2 3; linear 8 6; cancel 6; state
    ∷ record {
      acts =
          make (bounds minus10 n1 n10) Rate.A
          ∷ ask (step n2 n0)
          ∷ ask (linear n8 n6)
          ∷ block n0 n1 4 4 []
          ∷ ask (step n3 n9)
          ∷ ask (cancel n6)
          ∷ look
          ∷ make (bounds minus10 n1 n10) Rate.A
          ∷ ask (linear n8 n6)
          ∷ ask (cancel n6)
          ∷ look
          ∷ make (bounds minus10 n1 n10) Rate.A
          ∷ ask (step n2 n3)
          ∷ ask (linear n8 n6)
          ∷ ask (cancel n6)
          ∷ look
          ∷ [];
      said =
          ok
          ∷ ok
          ∷ ok
          ∷ output 2 n1 false (n2 ∷ n3 ∷ n4 ∷ n5 ∷ [])
          ∷ ok
          ∷ ok
          ∷ state n2 (Some n0) (Some n4) (done n0 n2) [] true
          ∷ ok
          ∷ ok
          ∷ ok
          ∷ state n1 None None None [] true
          ∷ ok
          ∷ ok
          ∷ ok
          ∷ ok
          ∷ state n1 None None None (alone (Event.Step n2 n3) ∷ []) true
          ∷ [];
    }
    -- C33 hold just at a curve's end and just at a ramp's time holds nothing
    -- make -10 1 10 a; curve 0 4 1 2 3; hold 4; state; make -10 1 10 a; linear 8 8; hold 8; state
    ∷ record {
      acts =
          make (bounds minus10 n1 n10) Rate.A
          ∷ ask (curve n0 n4 (n1 ∷ n2 ∷ n3 ∷ []))
          ∷ ask (hold n4)
          ∷ look
          ∷ make (bounds minus10 n1 n10) Rate.A
          ∷ ask (linear n8 n8)
          ∷ ask (hold n8)
          ∷ look
          ∷ [];
      said =
          ok
          ∷ ok
          ∷ ok
          ∷ state n1 None None None (record { event = Event.Curve n0 n4 3 None; numbers = (n1 ∷ n2 ∷ n3 ∷ []) } ∷ []) true
          ∷ ok
          ∷ ok
          ∷ ok
          ∷ state n1 None None None (alone (Event.Linear n8 n8 None) ∷ []) true
          ∷ [];
    }
    -- C34 hold: the ramp alone is held; a later step goes and the target is held; a step is never held
    -- make -10 1 10 a; target 5 0 2; linear 8 8; step 3 9; hold 3; state; make -10 1 10 a; target 5 0 2; step 3 9; linear 4 12; hold 3; state; make -10 1 10 a; target 5 0 2; step 3 1; step 3 9; hold 3; state
    ∷ record {
      acts =
          make (bounds minus10 n1 n10) Rate.A
          ∷ ask (target n5 n0 n2)
          ∷ ask (linear n8 n8)
          ∷ ask (step n3 n9)
          ∷ ask (hold n3)
          ∷ look
          ∷ make (bounds minus10 n1 n10) Rate.A
          ∷ ask (target n5 n0 n2)
          ∷ ask (step n3 n9)
          ∷ ask (linear n4 (fin false 3 (pos 2)))
          ∷ ask (hold n3)
          ∷ look
          ∷ make (bounds minus10 n1 n10) Rate.A
          ∷ ask (target n5 n0 n2)
          ∷ ask (step n3 n1)
          ∷ ask (step n3 n9)
          ∷ ask (hold n3)
          ∷ look
          ∷ [];
      said =
          ok
          ∷ ok
          ∷ ok
          ∷ ok
          ∷ ok
          ∷ state n1 None None None (alone (Event.Target n5 n0 n2 None) ∷ alone (Event.Linear n8 n8 (Some n3)) ∷ []) true
          ∷ ok
          ∷ ok
          ∷ ok
          ∷ ok
          ∷ ok
          ∷ state n1 None None None (alone (Event.Target n5 n0 n2 (Some n3)) ∷ []) true
          ∷ ok
          ∷ ok
          ∷ ok
          ∷ ok
          ∷ ok
          ∷ state n1 None None None (alone (Event.Target n5 n0 n2 None) ∷ alone (Event.Step n3 n1) ∷ []) true
          ∷ [];
    }
    -- C35 zeros of times; a target with time constant 0; an immediate set, played at the block time
    -- make -10 1 10 a; step 2 -0; linear 4 -0; target 5 3 0; set 7; hold -0; state; block -0 1 4; state; make -10 1 10 a; block 0 1 2; set 7; linear 9 6; block 2 1 4; state
    ∷ record {
      acts =
          make (bounds minus10 n1 n10) Rate.A
          ∷ ask (step n2 minus0)
          ∷ ask (linear n4 minus0)
          ∷ ask (target n5 n3 n0)
          ∷ ask (set n7)
          ∷ ask (hold minus0)
          ∷ look
          ∷ block minus0 n1 4 4 []
          ∷ look
          ∷ make (bounds minus10 n1 n10) Rate.A
          ∷ block n0 n1 2 2 []
          ∷ ask (set n7)
          ∷ ask (linear n9 n6)
          ∷ block n2 n1 4 4 []
          ∷ look
          ∷ [];
      said =
          ok
          ∷ ok
          ∷ ok
          ∷ ok
          ∷ ok
          ∷ ok
          ∷ state n1 None None None (alone (Event.Step n2 n0) ∷ alone (Event.Linear n4 n0 None) ∷ alone (Event.Step n7 n0) ∷ []) true
          ∷ output 4 n1 false (n7 ∷ n7 ∷ n7 ∷ n7 ∷ [])
          ∷ state n7 (Some n0) (Some n4) (done n0 n7) [] true
          ∷ ok
          ∷ output 1 n1 true (n1 ∷ n1 ∷ [])
          ∷ ok
          ∷ ok
          ∷ output 2 n1 false (n7 ∷ (fin false 15 (negsuc 0)) ∷ n8 ∷ (fin false 17 (negsuc 0)) ∷ [])
          ∷ state n9 (Some n2) (Some n6) (done n2 n7) (alone (Event.Linear n9 n6 None) ∷ []) true
          ∷ [];
    }
    -- C36 the current value is mixed, and is the one before the walk; K-rate repeats the first input
    -- make -1 0 3 k; step 5 0; block 0 1 2 2 0.5 2; block 2 1 3 3 -9 2 2; state
    ∷ record {
      acts =
          make (bounds minus1 n0 n3) Rate.K
          ∷ ask (step n5 n0)
          ∷ block n0 n1 2 2 (half ∷ n2 ∷ [])
          ∷ block n2 n1 3 3 ((fin true 9 (pos 0)) ∷ n2 ∷ n2 ∷ [])
          ∷ look
          ∷ [];
      said =
          ok
          ∷ ok
          ∷ output 2 n0 true (half ∷ half ∷ [])
          ∷ output 1 n3 true (minus1 ∷ minus1 ∷ minus1 ∷ [])
          ∷ state n5 (Some n2) (Some n5) (done n0 n5) [] true
          ∷ [];
    }
    -- C37 one-valued only with silence
    -- make -10 1 10 a; block 0 1 2 2 0 0; block 2 1 2
    ∷ record {
      acts =
          make (bounds minus10 n1 n10) Rate.A
          ∷ block n0 n1 2 2 (n0 ∷ n0 ∷ [])
          ∷ block n2 n1 2 2 []
          ∷ [];
      said =
          ok
          ∷ output 1 n1 false (n1 ∷ n1 ∷ [])
          ∷ output 1 n1 true (n1 ∷ n1 ∷ [])
          ∷ [];
    }
    -- C38 a sample equal to a bound keeps its own zero
    -- make -0 0 5 a; block 0 1 2 2 0 -0; step -0 0; block 2 1 2 2 -0 -0; make -5 -0 -0 a; step 0 0; block 0 1 2 2 0 0
    ∷ record {
      acts =
          make (bounds minus0 n0 n5) Rate.A
          ∷ block n0 n1 2 2 (n0 ∷ minus0 ∷ [])
          ∷ ask (step minus0 n0)
          ∷ block n2 n1 2 2 (minus0 ∷ minus0 ∷ [])
          ∷ make (bounds (fin true 5 (pos 0)) minus0 minus0) Rate.A
          ∷ ask (step n0 n0)
          ∷ block n0 n1 2 2 (n0 ∷ n0 ∷ [])
          ∷ [];
      said =
          ok
          ∷ output 1 n0 false (n0 ∷ n0 ∷ [])
          ∷ ok
          ∷ output 2 n0 false (minus0 ∷ minus0 ∷ [])
          ∷ ok
          ∷ ok
          ∷ output 2 n0 false (n0 ∷ n0 ∷ [])
          ∷ [];
    }
    -- C39 ramps of no length have their end value at the next block time (02, C-18), and it is the current value; a ratio that underflows; negative floors
    -- make -10 2 10 a; step 1 4; exponential 8 4; block 0 1 4; state; block 4 1 2; make -10 2 10 a; step 1 4; linear 8 4; block 0 1 4; state; block 4 1 2; state; make -3.4e38 1 3.4e38 a; step 3e38 0; exponential 1e-44 4; block 0 1 6; state; make -10 1 10 a; step 7 0; exponential 0.3 5; block 0 0.7 8; state
    ∷ record {
      acts =
          make (bounds minus10 n2 n10) Rate.A
          ∷ ask (step n1 n4)
          ∷ ask (exponential n8 n4)
          ∷ block n0 n1 4 4 []
          ∷ look
          ∷ block n4 n1 2 2 []
          ∷ make (bounds minus10 n2 n10) Rate.A
          ∷ ask (step n1 n4)
          ∷ ask (linear n8 n4)
          ∷ block n0 n1 4 4 []
          ∷ look
          ∷ block n4 n1 2 2 []
          ∷ look
          ∷ make (bounds (fin true 8381647 (pos 105)) n1 (fin false 8381647 (pos 105))) Rate.A
          ∷ ask (step (fin false 7395571 (pos 105)) n0)
          ∷ ask (exponential (fin false 7 (negsuc 148)) n4)
          ∷ block n0 n1 6 6 []
          ∷ look
          ∷ make (bounds minus10 n1 n10) Rate.A
          ∷ ask (step n7 n0)
          ∷ ask (exponential (fin false 5033165 (negsuc 23)) n5)
          ∷ block n0 (fin false 3152519739159347 (negsuc 51)) 8 8 []
          ∷ look
          ∷ [];
      said =
          ok
          ∷ ok
          ∷ ok
          ∷ output 2 n2 false (n2 ∷ n2 ∷ n2 ∷ n2 ∷ [])
          ∷ state n8 (Some n0) (Some n4) (done n4 n1) (alone (Event.Exponential n8 n4 None) ∷ []) true
          ∷ output 2 n8 false (n8 ∷ n8 ∷ [])
          ∷ ok
          ∷ ok
          ∷ ok
          ∷ output 2 n2 false (n2 ∷ n2 ∷ n2 ∷ n2 ∷ [])
          ∷ state n8 (Some n0) (Some n4) (done n4 n1) (alone (Event.Linear n8 n4 None) ∷ []) true
          ∷ output 2 n8 false (n8 ∷ n8 ∷ [])
          ∷ state n8 (Some n4) (Some n6) (done n4 n8) [] true
          ∷ ok
          ∷ ok
          ∷ ok
          ∷ output 4 n1 false ((fin false 7395571 (pos 105)) ∷ (fin false 7395571 (pos 105)) ∷ (fin false 7395571 (pos 105)) ∷ (fin false 7395571 (pos 105)) ∷ (fin false 7 (negsuc 148)) ∷ (fin false 7 (negsuc 148)) ∷ [])
          ∷ state (fin false 7 (negsuc 148)) (Some n0) (Some n6) (done n4 (fin false 7 (negsuc 148))) [] true
          ∷ ok
          ∷ ok
          ∷ ok
          ∷ output 3 n1 false (n7 ∷ (fin false 9445201 (negsuc 20)) ∷ (fin false 12154145 (negsuc 21)) ∷ (fin false 7820017 (negsuc 21)) ∷ (fin false 9827 (negsuc 12)) ∷ (fin false 12948939 (negsuc 23)) ∷ (fin false 8331389 (negsuc 23)) ∷ (fin false 5033165 (negsuc 23)) ∷ [])
          ∷ state (fin false 5033165 (negsuc 23)) (Some n0) (Some (fin false 3152519739159347 (negsuc 48))) (done n5 (fin false 5033165 (negsuc 23))) [] true
          ∷ [];
    }
    -- C40 a target at its far end: the factor below f32's normals, and 0 from y = 160 on
    -- make -3.4e38 3e38 3.4e38 a; target 0 0 1; block 0 12 12; state; make -3.4e38 3e38 3.4e38 a; target 1e-44 0 1; block 0 14 9; state
    ∷ record {
      acts =
          make (bounds (fin true 8381647 (pos 105)) (fin false 7395571 (pos 105)) (fin false 8381647 (pos 105))) Rate.A
          ∷ ask (target n0 n0 n1)
          ∷ block n0 (fin false 3 (pos 2)) 12 12 []
          ∷ look
          ∷ make (bounds (fin true 8381647 (pos 105)) (fin false 7395571 (pos 105)) (fin false 8381647 (pos 105))) Rate.A
          ∷ ask (target (fin false 7 (negsuc 148)) n0 n1)
          ∷ block n0 (fin false 7 (pos 1)) 9 9 []
          ∷ look
          ∷ [];
      said =
          ok
          ∷ ok
          ∷ output 1 (fin false 7395571 (pos 105)) false ((fin false 7395571 (pos 105)) ∷ (fin false 11911813 (pos 87)) ∷ (fin false 4796495 (pos 71)) ∷ (fin false 15451127 (pos 52)) ∷ (fin false 12443321 (pos 35)) ∷ (fin false 10021031 (pos 18)) ∷ (fin false 8070279 (pos 1)) ∷ (fin false 12998543 (negsuc 16)) ∷ (fin false 5232511 (negsuc 32)) ∷ n0 ∷ n0 ∷ n0 ∷ [])
          ∷ state n0 (Some n0) (Some (fin false 9 (pos 4))) (done n0 (fin false 7395571 (pos 105))) (alone (Event.Step n0 (fin false 9 (pos 4))) ∷ []) true
          ∷ ok
          ∷ ok
          ∷ output 1 (fin false 7395571 (pos 105)) false ((fin false 7395571 (pos 105)) ∷ (fin false 3224177 (pos 86)) ∷ (fin false 702807 (pos 68)) ∷ (fin false 2451169 (pos 46)) ∷ (fin false 8548903 (pos 24)) ∷ (fin false 14907937 (pos 3)) ∷ (fin false 12998543 (negsuc 16)) ∷ (fin false 2831117 (negsuc 34)) ∷ (fin false 7 (negsuc 148)) ∷ [])
          ∷ state (fin false 7 (negsuc 148)) (Some n0) (Some (fin false 63 (pos 1))) (done n0 (fin false 7395571 (pos 105))) (alone (Event.Step (fin false 7 (negsuc 148)) (fin false 63 (pos 1))) ∷ []) true
          ∷ [];
    }
    -- C41 sample times: the first of a run fused, the next added; positions and phases that are not exact
    -- make -10 0 10 a; curve 0.1 0.7 1 -2 4 3; linear 9 1.3; block 0.1 0.1 14; state; make -1000 0 1000 a; step 0 0; linear 1000 1; block 0 0.1 8; curve 3 0.3 1 -2 4 3 7 9; block 2.9 0.01 48; state; make -10 0 10 a; step 1 0.6; curve 0.6000000000000001 1 5 5; block 0.1 0.1 7; state
    ∷ record {
      acts =
          make (bounds minus10 n0 n10) Rate.A
          ∷ ask (curve (fin false 3602879701896397 (negsuc 54)) (fin false 3152519739159347 (negsuc 51)) (n1 ∷ (fin true 1 (pos 1)) ∷ n4 ∷ n3 ∷ []))
          ∷ ask (linear n9 (fin false 5854679515581645 (negsuc 51)))
          ∷ block (fin false 3602879701896397 (negsuc 54)) (fin false 3602879701896397 (negsuc 54)) 14 14 []
          ∷ look
          ∷ make (bounds (fin true 125 (pos 3)) n0 (fin false 125 (pos 3))) Rate.A
          ∷ ask (step n0 n0)
          ∷ ask (linear (fin false 125 (pos 3)) n1)
          ∷ block n0 (fin false 3602879701896397 (negsuc 54)) 8 8 []
          ∷ ask (curve n3 (fin false 5404319552844595 (negsuc 53)) (n1 ∷ (fin true 1 (pos 1)) ∷ n4 ∷ n3 ∷ n7 ∷ n9 ∷ []))
          ∷ block (fin false 6530219459687219 (negsuc 50)) (fin false 5764607523034235 (negsuc 58)) 48 48 []
          ∷ look
          ∷ make (bounds minus10 n0 n10) Rate.A
          ∷ ask (step n1 (fin false 5404319552844595 (negsuc 52)))
          ∷ ask (curve (fin false 1351079888211149 (negsuc 50)) n1 (n5 ∷ n5 ∷ []))
          ∷ block (fin false 3602879701896397 (negsuc 54)) (fin false 3602879701896397 (negsuc 54)) 7 7 []
          ∷ look
          ∷ [];
      said =
          ok
          ∷ ok
          ∷ ok
          ∷ output 3 n0 false (n1 ∷ (fin true 9586981 (negsuc 24)) ∷ (fin true 6591049 (negsuc 21)) ∷ (fin true 4793489 (negsuc 23)) ∷ (fin false 9586981 (negsuc 21)) ∷ (fin false 8089015 (negsuc 20)) ∷ (fin false 14380471 (negsuc 21)) ∷ n3 ∷ (fin false 4404019 (negsuc 19)) ∷ (fin false 11324621 (negsuc 20)) ∷ (fin false 3460301 (negsuc 18)) ∷ (fin false 8178893 (negsuc 19)) ∷ n9 ∷ n9 ∷ [])
          ∷ state n9 (Some (fin false 3602879701896397 (negsuc 54))) (Some (fin false 3 (negsuc 0))) (done (fin false 5854679515581645 (negsuc 51)) n9) [] true
          ∷ ok
          ∷ ok
          ∷ ok
          ∷ output 2 n0 false (n0 ∷ (fin false 25 (pos 2)) ∷ (fin false 25 (pos 3)) ∷ (fin false 75 (pos 2)) ∷ (fin false 25 (pos 4)) ∷ (fin false 125 (pos 2)) ∷ (fin false 75 (pos 3)) ∷ (fin false 175 (pos 2)) ∷ [])
          ∷ ok
          ∷ output 3 (fin false 25 (pos 5)) false ((fin false 125 (pos 3)) ∷ (fin false 125 (pos 3)) ∷ (fin false 125 (pos 3)) ∷ (fin false 125 (pos 3)) ∷ (fin false 125 (pos 3)) ∷ (fin false 125 (pos 3)) ∷ (fin false 125 (pos 3)) ∷ (fin false 125 (pos 3)) ∷ (fin false 125 (pos 3)) ∷ (fin false 125 (pos 3)) ∷ (fin false 125 (pos 3)) ∷ half ∷ (fin true 1 (negsuc 24)) ∷ (fin true 1 (negsuc 0)) ∷ minus1 ∷ (fin true 3 (negsuc 0)) ∷ (fin true 1 (pos 1)) ∷ minus1 ∷ (fin false 1 (negsuc 23)) ∷ n1 ∷ n2 ∷ n3 ∷ n4 ∷ (fin false 16078165 (negsuc 21)) ∷ (fin false 15379115 (negsuc 21)) ∷ (fin false 7 (negsuc 0)) ∷ (fin false 13981013 (negsuc 21)) ∷ (fin false 13281963 (negsuc 21)) ∷ n3 ∷ (fin false 15379115 (negsuc 21)) ∷ (fin false 9087659 (negsuc 20)) ∷ n5 ∷ (fin false 5941931 (negsuc 19)) ∷ (fin false 6640981 (negsuc 19)) ∷ n7 ∷ (fin false 15379115 (negsuc 20)) ∷ (fin false 16078165 (negsuc 20)) ∷ n8 ∷ (fin false 8738133 (negsuc 19)) ∷ (fin false 9087659 (negsuc 19)) ∷ n9 ∷ n9 ∷ n9 ∷ n9 ∷ n9 ∷ n9 ∷ n9 ∷ n9 ∷ [])
          ∷ state n9 (Some (fin false 6530219459687219 (negsuc 50))) (Some (fin false 3805541685128069 (negsuc 49))) (done (fin false 3715469692580659 (negsuc 49)) n9) [] true
          ∷ ok
          ∷ ok
          ∷ ok
          ∷ output 2 n0 false (n0 ∷ n0 ∷ n0 ∷ n0 ∷ n0 ∷ n5 ∷ n5 ∷ [])
          ∷ state n5 (Some (fin false 3602879701896397 (negsuc 54))) (Some (fin false 3602879701896397 (negsuc 51))) (done (fin false 5404319552844595 (negsuc 52)) n1) (record { event = Event.Curve (fin false 1351079888211149 (negsuc 50)) n1 2 None; numbers = (n5 ∷ n5 ∷ []) } ∷ []) true
          ∷ [];
    }
    -- C42 a next block time that is infinite, with a curve; its end is, too, and a ramp behind its start lies inside
    -- make -10 1 10 a; curve 1.7e308 1e307 3 5; linear 4 1.75e308; block 1.7e308 1e307 2; state
    ∷ record {
      acts =
          make (bounds minus10 n1 n10) Rate.A
          ∷ ask (curve (fin false 4258857765019067 (pos 972)) (fin false 8016673440035891 (pos 967)) (n3 ∷ n5 ∷ []))
          ∷ ask (linear n4 (fin false 1096029571879907 (pos 974)))
          ∷ block (fin false 4258857765019067 (pos 972)) (fin false 8016673440035891 (pos 967)) 2 2 []
          ∷ look
          ∷ [];
      said =
          ok
          ∷ ok
          ∷ refused 11
          ∷ output 1 n1 false (n3 ∷ n5 ∷ [])
          ∷ state n5 (Some (fin false 4258857765019067 (pos 972))) (Some (inf false)) None (record { event = Event.Curve (fin false 4258857765019067 (pos 972)) (fin false 8016673440035891 (pos 967)) 2 None; numbers = (n3 ∷ n5 ∷ []) } ∷ []) true
          ∷ [];
    }
    -- C43 the flush: +0 also of a negative sample, and only below 2^-126
    -- make -10 -1e-40 10 k; target 0 0 0.01; block 0 1 2 2 -0 -0; make -10 1e-38 10 k; target 0 0 0.01; block 0 1 2; make -10 1.17549435e-38 10 k; target 0 0 0.01; block 0 1 2
    ∷ record {
      acts =
          make (bounds minus10 (fin true 35681 (negsuc 147)) n10) Rate.K
          ∷ ask (target n0 n0 (fin false 5764607523034235 (negsuc 58)))
          ∷ block n0 n1 2 2 (minus0 ∷ minus0 ∷ [])
          ∷ make (bounds minus10 (fin false 3568119 (negsuc 147)) n10) Rate.K
          ∷ ask (target n0 n0 (fin false 5764607523034235 (negsuc 58)))
          ∷ block n0 n1 2 2 []
          ∷ make (bounds minus10 (fin false 1 (negsuc 125)) n10) Rate.K
          ∷ ask (target n0 n0 (fin false 5764607523034235 (negsuc 58)))
          ∷ block n0 n1 2 2 []
          ∷ [];
      said =
          ok
          ∷ ok
          ∷ output 1 (fin true 35681 (negsuc 147)) true (n0 ∷ n0 ∷ [])
          ∷ ok
          ∷ ok
          ∷ output 1 (fin false 3568119 (negsuc 147)) true (n0 ∷ n0 ∷ [])
          ∷ ok
          ∷ ok
          ∷ output 1 (fin false 1 (negsuc 125)) true ((fin false 1 (negsuc 125)) ∷ (fin false 1 (negsuc 125)) ∷ [])
          ∷ [];
    }
    -- C44 a ramp held far before its start: factors below 2^-200 and above 2^128
    -- make -3.4e38 0 3.4e38 a; step 2.5e30 9; exponential 8e37 10; block 0 1 10; hold 0; block 10 1 2; state; make -3.4e38 0 3.4e38 a; step 7e-37 9; exponential 7e-43 10; block 0 1 10; hold 0; block 10 1 2; state
    ∷ record {
      acts =
          make (bounds (fin true 8381647 (pos 105)) n0 (fin false 8381647 (pos 105))) Rate.A
          ∷ ask (step (fin false 4135903 (pos 79)) n9)
          ∷ ask (exponential (fin false 7888609 (pos 103)) n10)
          ∷ block n0 n1 10 10 []
          ∷ ask (hold n0)
          ∷ block n10 n1 2 2 []
          ∷ look
          ∷ make (bounds (fin true 8381647 (pos 105)) n0 (fin false 8381647 (pos 105))) Rate.A
          ∷ ask (step (fin false 7805261 (negsuc 142)) n9)
          ∷ ask (exponential (fin false 125 (negsuc 146)) n10)
          ∷ block n0 n1 10 10 []
          ∷ ask (hold n0)
          ∷ block n10 n1 2 2 []
          ∷ look
          ∷ [];
      said =
          ok
          ∷ ok
          ∷ ok
          ∷ output 2 n0 false (n0 ∷ n0 ∷ n0 ∷ n0 ∷ n0 ∷ n0 ∷ n0 ∷ n0 ∷ n0 ∷ (fin false 4135903 (pos 79)) ∷ [])
          ∷ ok
          ∷ output 2 (fin false 7888609 (pos 103)) false ((fin false 6338253 (negsuc 145)) ∷ (fin false 6338253 (negsuc 145)) ∷ [])
          ∷ state (fin false 6338253 (negsuc 145)) (Some n10) (Some (fin false 3 (pos 2))) (done n0 (fin false 6338253 (negsuc 145))) [] true
          ∷ ok
          ∷ ok
          ∷ ok
          ∷ output 2 n0 false (n0 ∷ n0 ∷ n0 ∷ n0 ∷ n0 ∷ n0 ∷ n0 ∷ n0 ∷ n0 ∷ (fin false 7805261 (negsuc 142)) ∷ [])
          ∷ ok
          ∷ output 2 (fin false 125 (negsuc 146)) false ((fin false 10101711 (pos 36)) ∷ (fin false 10101711 (pos 36)) ∷ [])
          ∷ state (fin false 10101711 (pos 36)) (Some n10) (Some (fin false 3 (pos 2))) (done n0 (fin false 10101711 (pos 36))) [] true
          ∷ [];
    }
    -- C45 a curve at its very end: time − start = duration, and a position that rounds up to length − 1
    -- make -10 0 10 a; curve 0 3.8 0 0 1e8 0.1; block 0 3.8 1; state; make -10 0 10 a; curve 0 3.4 1 2 3 4 5 6 -0; block 3.3999999999999995 4e-16 2 2 -0 -0; state
    ∷ record {
      acts =
          make (bounds minus10 n0 n10) Rate.A
          ∷ ask (curve n0 (fin false 4278419646001971 (negsuc 49)) (n0 ∷ n0 ∷ (fin false 390625 (pos 8)) ∷ (fin false 13421773 (negsuc 26)) ∷ []))
          ∷ block n0 (fin false 4278419646001971 (negsuc 49)) 1 1 []
          ∷ look
          ∷ make (bounds minus10 n0 n10) Rate.A
          ∷ ask (curve n0 (fin false 7656119366529843 (negsuc 50)) (n1 ∷ n2 ∷ n3 ∷ n4 ∷ n5 ∷ n6 ∷ minus0 ∷ []))
          ∷ block (fin false 3828059683264921 (negsuc 49)) (fin false 2028240960365167 (negsuc 101)) 2 2 (minus0 ∷ minus0 ∷ [])
          ∷ look
          ∷ [];
      said =
          ok
          ∷ ok
          ∷ output 1 n0 false (n0 ∷ [])
          ∷ state (fin false 13421773 (negsuc 26)) (Some n0) (Some (fin false 4278419646001971 (negsuc 49))) None (record { event = Event.Curve n0 (fin false 4278419646001971 (negsuc 49)) 4 None; numbers = (n0 ∷ n0 ∷ (fin false 390625 (pos 8)) ∷ (fin false 13421773 (negsuc 26)) ∷ []) } ∷ []) true
          ∷ ok
          ∷ ok
          ∷ output 2 n0 false (minus0 ∷ minus0 ∷ [])
          ∷ state minus0 (Some (fin false 3828059683264921 (negsuc 49))) (Some (fin false 1914029841632461 (negsuc 48))) (done (fin false 7656119366529843 (negsuc 50)) minus0) [] true
          ∷ [];
    }
    -- C46 64 events wait: 7, but 6 and 11 come before it and 8 and 14 after it; cancel is answered
    -- make -10 0 10 a; 65 times step 1 1; set 1; curve 1 1 5; curve 1 1 5000 times 1; curve 2 1 5000 times 1; cancel 1; state
    ∷ record {
      acts =
          make (bounds minus10 n0 n10) Rate.A
          ∷ (replicate 65 (ask (step n1 n1)) ++ (ask (set n1)
          ∷ ask (curve n1 n1 (n5 ∷ []))
          ∷ ask (curve n1 n1 (replicate 5000 n1))
          ∷ ask (curve n2 n1 (replicate 5000 n1))
          ∷ ask (cancel n1)
          ∷ look
          ∷ []));
      said =
          (replicate 65 ok ++ (refused 7
          ∷ refused 7
          ∷ refused 6
          ∷ refused 11
          ∷ refused 7
          ∷ ok
          ∷ state n0 None None None [] true
          ∷ []));
    }
    -- C47 the store's ceiling; room is used again
    -- make -10 0 10 a; curve 1 1 4000 times 1; curve 3 1 97 times 2; curve 3 1 96 times 2; curve 0 1 2 3; cancel 3; curve 0 1 2 3; block 0 1 1; state
    ∷ record {
      acts =
          make (bounds minus10 n0 n10) Rate.A
          ∷ ask (curve n1 n1 (replicate 4000 n1))
          ∷ ask (curve n3 n1 (replicate 97 n2))
          ∷ ask (curve n3 n1 (replicate 96 n2))
          ∷ ask (curve n0 n1 (n2 ∷ n3 ∷ []))
          ∷ ask (cancel n3)
          ∷ ask (curve n0 n1 (n2 ∷ n3 ∷ []))
          ∷ block n0 n1 1 1 []
          ∷ look
          ∷ [];
      said =
          ok
          ∷ ok
          ∷ refused 8
          ∷ ok
          ∷ refused 8
          ∷ ok
          ∷ ok
          ∷ output 1 n0 false (n2 ∷ [])
          ∷ state n3 (Some n0) (Some n1) None (record { event = Event.Curve n0 n1 2 None; numbers = (n2 ∷ n3 ∷ []) } ∷ record { event = Event.Curve n1 n1 4000 None; numbers = (replicate 4000 n1) } ∷ []) true
          ∷ [];
    }
    -- C48 64 exponentials that turn: 129 steps
    -- make -10 0 10 a; exponential 5 1; exponential -5 2; ..; exponential -5 64; block 0 1 64; block 64 1 2; state
    ∷ record {
      acts =
          make (bounds minus10 n0 n10) Rate.A
          ∷ ask (exponential n5 n1)
          ∷ ask (exponential (fin true 5 (pos 0)) n2)
          ∷ ask (exponential n5 n3)
          ∷ ask (exponential (fin true 5 (pos 0)) n4)
          ∷ ask (exponential n5 n5)
          ∷ ask (exponential (fin true 5 (pos 0)) n6)
          ∷ ask (exponential n5 n7)
          ∷ ask (exponential (fin true 5 (pos 0)) n8)
          ∷ ask (exponential n5 n9)
          ∷ ask (exponential (fin true 5 (pos 0)) n10)
          ∷ ask (exponential n5 (fin false 11 (pos 0)))
          ∷ ask (exponential (fin true 5 (pos 0)) (fin false 3 (pos 2)))
          ∷ ask (exponential n5 (fin false 13 (pos 0)))
          ∷ ask (exponential (fin true 5 (pos 0)) (fin false 7 (pos 1)))
          ∷ ask (exponential n5 (fin false 15 (pos 0)))
          ∷ ask (exponential (fin true 5 (pos 0)) (fin false 1 (pos 4)))
          ∷ ask (exponential n5 (fin false 17 (pos 0)))
          ∷ ask (exponential (fin true 5 (pos 0)) (fin false 9 (pos 1)))
          ∷ ask (exponential n5 (fin false 19 (pos 0)))
          ∷ ask (exponential (fin true 5 (pos 0)) (fin false 5 (pos 2)))
          ∷ ask (exponential n5 (fin false 21 (pos 0)))
          ∷ ask (exponential (fin true 5 (pos 0)) (fin false 11 (pos 1)))
          ∷ ask (exponential n5 (fin false 23 (pos 0)))
          ∷ ask (exponential (fin true 5 (pos 0)) (fin false 3 (pos 3)))
          ∷ ask (exponential n5 (fin false 25 (pos 0)))
          ∷ ask (exponential (fin true 5 (pos 0)) (fin false 13 (pos 1)))
          ∷ ask (exponential n5 (fin false 27 (pos 0)))
          ∷ ask (exponential (fin true 5 (pos 0)) (fin false 7 (pos 2)))
          ∷ ask (exponential n5 (fin false 29 (pos 0)))
          ∷ ask (exponential (fin true 5 (pos 0)) (fin false 15 (pos 1)))
          ∷ ask (exponential n5 (fin false 31 (pos 0)))
          ∷ ask (exponential (fin true 5 (pos 0)) (fin false 1 (pos 5)))
          ∷ ask (exponential n5 (fin false 33 (pos 0)))
          ∷ ask (exponential (fin true 5 (pos 0)) (fin false 17 (pos 1)))
          ∷ ask (exponential n5 (fin false 35 (pos 0)))
          ∷ ask (exponential (fin true 5 (pos 0)) (fin false 9 (pos 2)))
          ∷ ask (exponential n5 (fin false 37 (pos 0)))
          ∷ ask (exponential (fin true 5 (pos 0)) (fin false 19 (pos 1)))
          ∷ ask (exponential n5 (fin false 39 (pos 0)))
          ∷ ask (exponential (fin true 5 (pos 0)) (fin false 5 (pos 3)))
          ∷ ask (exponential n5 (fin false 41 (pos 0)))
          ∷ ask (exponential (fin true 5 (pos 0)) (fin false 21 (pos 1)))
          ∷ ask (exponential n5 (fin false 43 (pos 0)))
          ∷ ask (exponential (fin true 5 (pos 0)) (fin false 11 (pos 2)))
          ∷ ask (exponential n5 (fin false 45 (pos 0)))
          ∷ ask (exponential (fin true 5 (pos 0)) (fin false 23 (pos 1)))
          ∷ ask (exponential n5 (fin false 47 (pos 0)))
          ∷ ask (exponential (fin true 5 (pos 0)) (fin false 3 (pos 4)))
          ∷ ask (exponential n5 (fin false 49 (pos 0)))
          ∷ ask (exponential (fin true 5 (pos 0)) (fin false 25 (pos 1)))
          ∷ ask (exponential n5 (fin false 51 (pos 0)))
          ∷ ask (exponential (fin true 5 (pos 0)) (fin false 13 (pos 2)))
          ∷ ask (exponential n5 (fin false 53 (pos 0)))
          ∷ ask (exponential (fin true 5 (pos 0)) (fin false 27 (pos 1)))
          ∷ ask (exponential n5 (fin false 55 (pos 0)))
          ∷ ask (exponential (fin true 5 (pos 0)) (fin false 7 (pos 3)))
          ∷ ask (exponential n5 (fin false 57 (pos 0)))
          ∷ ask (exponential (fin true 5 (pos 0)) (fin false 29 (pos 1)))
          ∷ ask (exponential n5 (fin false 59 (pos 0)))
          ∷ ask (exponential (fin true 5 (pos 0)) (fin false 15 (pos 2)))
          ∷ ask (exponential n5 (fin false 61 (pos 0)))
          ∷ ask (exponential (fin true 5 (pos 0)) (fin false 31 (pos 1)))
          ∷ ask (exponential n5 (fin false 63 (pos 0)))
          ∷ ask (exponential (fin true 5 (pos 0)) (fin false 1 (pos 6)))
          ∷ block n0 n1 64 64 []
          ∷ block (fin false 1 (pos 6)) n1 2 2 []
          ∷ look
          ∷ [];
      said =
          (replicate 65 ok ++ (output 129 n0 false (n0 ∷ n5 ∷ (fin true 5 (pos 0)) ∷ n5 ∷ (fin true 5 (pos 0)) ∷ n5 ∷ (fin true 5 (pos 0)) ∷ n5 ∷ (fin true 5 (pos 0)) ∷ n5 ∷ (fin true 5 (pos 0)) ∷ n5 ∷ (fin true 5 (pos 0)) ∷ n5 ∷ (fin true 5 (pos 0)) ∷ n5 ∷ (fin true 5 (pos 0)) ∷ n5 ∷ (fin true 5 (pos 0)) ∷ n5 ∷ (fin true 5 (pos 0)) ∷ n5 ∷ (fin true 5 (pos 0)) ∷ n5 ∷ (fin true 5 (pos 0)) ∷ n5 ∷ (fin true 5 (pos 0)) ∷ n5 ∷ (fin true 5 (pos 0)) ∷ n5 ∷ (fin true 5 (pos 0)) ∷ n5 ∷ (fin true 5 (pos 0)) ∷ n5 ∷ (fin true 5 (pos 0)) ∷ n5 ∷ (fin true 5 (pos 0)) ∷ n5 ∷ (fin true 5 (pos 0)) ∷ n5 ∷ (fin true 5 (pos 0)) ∷ n5 ∷ (fin true 5 (pos 0)) ∷ n5 ∷ (fin true 5 (pos 0)) ∷ n5 ∷ (fin true 5 (pos 0)) ∷ n5 ∷ (fin true 5 (pos 0)) ∷ n5 ∷ (fin true 5 (pos 0)) ∷ n5 ∷ (fin true 5 (pos 0)) ∷ n5 ∷ (fin true 5 (pos 0)) ∷ n5 ∷ (fin true 5 (pos 0)) ∷ n5 ∷ (fin true 5 (pos 0)) ∷ n5 ∷ (fin true 5 (pos 0)) ∷ n5 ∷ (fin true 5 (pos 0)) ∷ n5 ∷ [])
          ∷ output 1 (fin true 5 (pos 0)) true ((fin true 5 (pos 0)) ∷ (fin true 5 (pos 0)) ∷ [])
          ∷ state (fin true 5 (pos 0)) (Some (fin false 1 (pos 6))) (Some (fin false 33 (pos 1))) (done (fin false 1 (pos 6)) (fin true 5 (pos 0))) [] true
          ∷ []));
    }
    -- C49 refusal 1 returns an empty A-rate parameter with all numbers 0
    -- make -1 1 2 k; step 1 1; make 2 1 3 k; state; block 0 1 2 2 5 5
    ∷ record {
      acts =
          make (bounds minus1 n1 n2) Rate.K
          ∷ ask (step n1 n1)
          ∷ make (bounds n2 n1 n3) Rate.K
          ∷ look
          ∷ block n0 n1 2 2 (n5 ∷ n5 ∷ [])
          ∷ [];
      said =
          ok
          ∷ ok
          ∷ refused 1
          ∷ state n0 None None None [] true
          ∷ output 1 n0 false (n0 ∷ n0 ∷ [])
          ∷ [];
    }
    -- ---- 02, C-18: both ramp samples give the end value where the duration is 0 or below (C50 to C52 are cases-02's)
    -- C50 a held ramp whose time is before the last event's: its end value, not the line drawn on backwards
    -- make -10 0 10 a; step 5 4; block 0 1 6; linear 8 2; hold 1; block 6 1 2; state
    ∷ record {
      acts =
          make (bounds minus10 n0 n10) Rate.A
          ∷ ask (step n5 n4)
          ∷ block n0 n1 6 6 []
          ∷ ask (linear n8 n2)
          ∷ ask (hold n1)
          ∷ block n6 n1 2 2 []
          ∷ look
          ∷ [];
      said =
          ok
          ∷ ok
          ∷ output 2 n0 false (n0 ∷ n0 ∷ n0 ∷ n0 ∷ n5 ∷ n5 ∷ [])
          ∷ ok
          ∷ ok
          ∷ output 2 n5 false (n8 ∷ n8 ∷ [])
          ∷ state n8 (Some n6) (Some n8) (done n1 n8) [] true
          ∷ [];
    }
    -- C51 02's example, at K-rate and A-rate: step and ramp at 4, a block's end
    -- make -10 1 10 k; step 5 4; linear 7 4; block 0 1 4; state; block 4 1 2; make -10 1 10 a; step 5 4; exponential 7 4; block 0 1 4; state; block 4 1 2
    ∷ record {
      acts =
          make (bounds minus10 n1 n10) Rate.K
          ∷ ask (step n5 n4)
          ∷ ask (linear n7 n4)
          ∷ block n0 n1 4 4 []
          ∷ look
          ∷ block n4 n1 2 2 []
          ∷ make (bounds minus10 n1 n10) Rate.A
          ∷ ask (step n5 n4)
          ∷ ask (exponential n7 n4)
          ∷ block n0 n1 4 4 []
          ∷ look
          ∷ block n4 n1 2 2 []
          ∷ [];
      said =
          ok
          ∷ ok
          ∷ ok
          ∷ output 2 n1 true (n1 ∷ n1 ∷ n1 ∷ n1 ∷ [])
          ∷ state n7 (Some n0) (Some n4) (done n4 n5) (alone (Event.Linear n7 n4 None) ∷ []) true
          ∷ output 2 n7 true (n7 ∷ n7 ∷ [])
          ∷ ok
          ∷ ok
          ∷ ok
          ∷ output 2 n1 false (n1 ∷ n1 ∷ n1 ∷ n1 ∷ [])
          ∷ state n7 (Some n0) (Some n4) (done n4 n5) (alone (Event.Exponential n7 n4 None) ∷ []) true
          ∷ output 2 n7 false (n7 ∷ n7 ∷ [])
          ∷ [];
    }
    -- C52 the exponential's replacement by a step is decided before: start 0 and no length
    -- make -10 0 10 a; step 0 4; exponential 7 4; block 0 1 5
    ∷ record {
      acts =
          make (bounds minus10 n0 n10) Rate.A
          ∷ ask (step n0 n4)
          ∷ ask (exponential n7 n4)
          ∷ block n0 n1 5 5 []
          ∷ [];
      said =
          ok
          ∷ ok
          ∷ ok
          ∷ output 4 n0 false (n0 ∷ n0 ∷ n0 ∷ n0 ∷ n7 ∷ [])
          ∷ [];
    }
    -- C53 behind a last event at +infinity a ramp's duration is -infinity, which is below 0 (reading 13, and 24 of 02)
    -- make -10 0 10 a; step 1 0; target 5 0 1e300; block 1.7e308 1e307 2; block 1.7e308 1e307 2; linear 8 1.75e308; block 1.7e308 1e307 2; state
    ∷ record {
      acts =
          make (bounds minus10 n0 n10) Rate.A
          ∷ ask (step n1 n0)
          ∷ ask (target n5 n0 (fin false 1681218273811815 (pos 946)))
          ∷ block (fin false 4258857765019067 (pos 972)) (fin false 8016673440035891 (pos 967)) 2 2 []
          ∷ block (fin false 4258857765019067 (pos 972)) (fin false 8016673440035891 (pos 967)) 2 2 []
          ∷ ask (linear n8 (fin false 1096029571879907 (pos 974)))
          ∷ block (fin false 4258857765019067 (pos 972)) (fin false 8016673440035891 (pos 967)) 2 2 []
          ∷ look
          ∷ [];
      said =
          ok
          ∷ ok
          ∷ ok
          ∷ output 2 n0 false (n5 ∷ n5 ∷ [])
          ∷ output 2 n5 false (n5 ∷ n5 ∷ [])
          ∷ ok
          ∷ output 2 n5 false (n8 ∷ n8 ∷ [])
          ∷ state n8 (Some (fin false 4258857765019067 (pos 972))) (Some (inf false)) (done (fin false 1096029571879907 (pos 974)) n8) [] true
          ∷ [];
    }
    -- ---- 02, C-15: a held ramp is filed under its hold time (C54 to C58 are cases-02's)
    -- C54 a cancel between the hold time and the ramp's own time leaves the ramp, and so does a hold there; an earlier hold moves it
    -- make -10 0 10 a; step 0 0; linear 8 8; hold 2; cancel 5; state; hold 5; state; hold 1; state
    ∷ record {
      acts =
          make (bounds minus10 n0 n10) Rate.A
          ∷ ask (step n0 n0)
          ∷ ask (linear n8 n8)
          ∷ ask (hold n2)
          ∷ ask (cancel n5)
          ∷ look
          ∷ ask (hold n5)
          ∷ look
          ∷ ask (hold n1)
          ∷ look
          ∷ [];
      said =
          ok
          ∷ ok
          ∷ ok
          ∷ ok
          ∷ ok
          ∷ state n0 None None None (alone (Event.Step n0 n0) ∷ alone (Event.Linear n8 n8 (Some n2)) ∷ []) true
          ∷ ok
          ∷ state n0 None None None (alone (Event.Step n0 n0) ∷ alone (Event.Linear n8 n8 (Some n2)) ∷ []) true
          ∷ ok
          ∷ state n0 None None None (alone (Event.Step n0 n0) ∷ alone (Event.Linear n8 n8 (Some n1)) ∷ []) true
          ∷ [];
    }
    -- C55 "equal times as before": the ramp stays behind what already stood at the hold time, and what comes later for that time goes behind the ramp
    -- make -10 0 10 a; step 0 0; step 3 2; linear 8 8; hold 2; step 5 2; state; block 0 1 6
    ∷ record {
      acts =
          make (bounds minus10 n0 n10) Rate.A
          ∷ ask (step n0 n0)
          ∷ ask (step n3 n2)
          ∷ ask (linear n8 n8)
          ∷ ask (hold n2)
          ∷ ask (step n5 n2)
          ∷ look
          ∷ block n0 n1 6 6 []
          ∷ [];
      said =
          ok
          ∷ ok
          ∷ ok
          ∷ ok
          ∷ ok
          ∷ ok
          ∷ state n0 None None None (alone (Event.Step n0 n0) ∷ alone (Event.Step n3 n2) ∷ alone (Event.Linear n8 n8 (Some n2)) ∷ alone (Event.Step n5 n2) ∷ []) true
          ∷ output 5 n0 false (n0 ∷ n0 ∷ n5 ∷ n5 ∷ n5 ∷ n5 ∷ [])
          ∷ [];
    }
    -- C56 a set goes behind a ramp held at 0
    -- make -10 0 10 a; linear 8 8; hold 0; set 5; state; block 0 1 2
    ∷ record {
      acts =
          make (bounds minus10 n0 n10) Rate.A
          ∷ ask (linear n8 n8)
          ∷ ask (hold n0)
          ∷ ask (set n5)
          ∷ look
          ∷ block n0 n1 2 2 []
          ∷ [];
      said =
          ok
          ∷ ok
          ∷ ok
          ∷ ok
          ∷ state n0 None None None (alone (Event.Linear n8 n8 (Some n0)) ∷ alone (Event.Step n5 n0) ∷ []) true
          ∷ output 3 n0 false (n5 ∷ n5 ∷ [])
          ∷ [];
    }
    -- C57 an exponential that becomes a step does so at the time that it is filed under, its hold time
    -- make -10 0 10 a; step 0 0; exponential 5 8; hold 2; step 7 4; state; block 0 1 3; state; block 3 1 3
    ∷ record {
      acts =
          make (bounds minus10 n0 n10) Rate.A
          ∷ ask (step n0 n0)
          ∷ ask (exponential n5 n8)
          ∷ ask (hold n2)
          ∷ ask (step n7 n4)
          ∷ look
          ∷ block n0 n1 3 3 []
          ∷ look
          ∷ block n3 n1 3 3 []
          ∷ [];
      said =
          ok
          ∷ ok
          ∷ ok
          ∷ ok
          ∷ ok
          ∷ state n0 None None None (alone (Event.Step n0 n0) ∷ alone (Event.Exponential n5 n8 (Some n2)) ∷ alone (Event.Step n7 n4) ∷ []) true
          ∷ output 4 n0 false (n0 ∷ n0 ∷ n5 ∷ [])
          ∷ state n5 (Some n0) (Some n3) (done n2 n5) (alone (Event.Step n7 n4) ∷ []) true
          ∷ output 2 n5 false (n5 ∷ n7 ∷ n7 ∷ [])
          ∷ [];
    }
    -- C58 02's example: a ramp to 8 held at 2, then a step for 5, which plays behind the held part; the slope still uses 8
    -- make -10 0 10 a; step 0 0; linear 8 8; hold 2; step 7 5; state; block 0 1 8
    ∷ record {
      acts =
          make (bounds minus10 n0 n10) Rate.A
          ∷ ask (step n0 n0)
          ∷ ask (linear n8 n8)
          ∷ ask (hold n2)
          ∷ ask (step n7 n5)
          ∷ look
          ∷ block n0 n1 8 8 []
          ∷ [];
      said =
          ok
          ∷ ok
          ∷ ok
          ∷ ok
          ∷ ok
          ∷ state n0 None None None (alone (Event.Step n0 n0) ∷ alone (Event.Linear n8 n8 (Some n2)) ∷ alone (Event.Step n7 n5) ∷ []) true
          ∷ output 4 n0 false (n0 ∷ n1 ∷ n2 ∷ n2 ∷ n2 ∷ n7 ∷ n7 ∷ n7 ∷ [])
          ∷ [];
    }
    -- C59 a cancel at the hold time takes the ramp, and the value returns; one behind it left both
    -- make -10 0 10 a; step 1 0; linear 9 8; block 0 1 2; hold 4; cancel 5; state; cancel 4; state
    ∷ record {
      acts =
          make (bounds minus10 n0 n10) Rate.A
          ∷ ask (step n1 n0)
          ∷ ask (linear n9 n8)
          ∷ block n0 n1 2 2 []
          ∷ ask (hold n4)
          ∷ ask (cancel n5)
          ∷ look
          ∷ ask (cancel n4)
          ∷ look
          ∷ [];
      said =
          ok
          ∷ ok
          ∷ ok
          ∷ output 2 n0 false (n1 ∷ n2 ∷ [])
          ∷ ok
          ∷ ok
          ∷ state n3 (Some n0) (Some n2) (done n0 n1) (alone (Event.Linear n9 n8 (Some n4)) ∷ []) true
          ∷ ok
          ∷ state n1 (Some n0) (Some n2) (done n0 n1) [] true
          ∷ [];
    }
    -- C60 a ramp that is sent behind a held one starts from its hold; a second hold holds that one, and leaves the first as it is
    -- make -10 0 10 a; step 0 0; linear 8 8; hold 2; linear 4 6; hold 4; state; block 0 1 6
    ∷ record {
      acts =
          make (bounds minus10 n0 n10) Rate.A
          ∷ ask (step n0 n0)
          ∷ ask (linear n8 n8)
          ∷ ask (hold n2)
          ∷ ask (linear n4 n6)
          ∷ ask (hold n4)
          ∷ look
          ∷ block n0 n1 6 6 []
          ∷ [];
      said =
          ok
          ∷ ok
          ∷ ok
          ∷ ok
          ∷ ok
          ∷ ok
          ∷ state n0 None None None (alone (Event.Step n0 n0) ∷ alone (Event.Linear n8 n8 (Some n2)) ∷ alone (Event.Linear n4 n6 (Some n4)) ∷ []) true
          ∷ output 4 n0 false (n0 ∷ n1 ∷ n2 ∷ fin false 5 (negsuc 0) ∷ n3 ∷ n3 ∷ [])
          ∷ [];
    }
    -- ---- 02, C-14: nothing inside a curve (C61 to C66 are cases-02's)
    -- C61 a hold inside a curve with a ramp behind it holds the curve, and the ramp goes; behind the hold time it holds the ramp
    -- make -10 0 10 a; curve 0 4 0 4 8; linear 0 8; hold 1; state; linear 0 8; hold 2; state; block 0 1 10
    ∷ record {
      acts =
          make (bounds minus10 n0 n10) Rate.A
          ∷ ask (curve n0 n4 (n0 ∷ n4 ∷ n8 ∷ []))
          ∷ ask (linear n0 n8)
          ∷ ask (hold n1)
          ∷ look
          ∷ ask (linear n0 n8)
          ∷ ask (hold n2)
          ∷ look
          ∷ block n0 n1 10 10 []
          ∷ [];
      said =
          ok
          ∷ ok
          ∷ ok
          ∷ ok
          ∷ state n0 None None None (record { event = Event.Curve n0 n4 3 (Some n1); numbers = (n0 ∷ n4 ∷ n8 ∷ []) } ∷ []) true
          ∷ ok
          ∷ ok
          ∷ state n0 None None None (record { event = Event.Curve n0 n4 3 (Some n1); numbers = (n0 ∷ n4 ∷ n8 ∷ []) } ∷ alone (Event.Linear n0 n8 (Some n2)) ∷ []) true
          ∷ output 3 n0 false (n0 ∷ n2 ∷ (fin false 14380471 (negsuc 22)) ∷ (fin false 14380471 (negsuc 22)) ∷ (fin false 14380471 (negsuc 22)) ∷ (fin false 14380471 (negsuc 22)) ∷ (fin false 14380471 (negsuc 22)) ∷ (fin false 14380471 (negsuc 22)) ∷ (fin false 14380471 (negsuc 22)) ∷ (fin false 14380471 (negsuc 22)) ∷ [])
          ∷ [];
    }
    -- C62 what is at a curve's start or inside it is refused, at its end or before its start not; a curve is refused over a waiting time, and inside another
    -- make -10 0 10 a; curve 2 4 0 4 8; step 1 2; step 1 5; step 1 1; step 1 6; curve 0 1 1 2; curve 0 2 1 2; curve 1 1 1 2; curve 5 8 1 2; curve 6 1 1 2; state
    ∷ record {
      acts =
          make (bounds minus10 n0 n10) Rate.A
          ∷ ask (curve n2 n4 (n0 ∷ n4 ∷ n8 ∷ []))
          ∷ ask (step n1 n2)
          ∷ ask (step n1 n5)
          ∷ ask (step n1 n1)
          ∷ ask (step n1 n6)
          ∷ ask (curve n0 n1 (n1 ∷ n2 ∷ []))
          ∷ ask (curve n0 n2 (n1 ∷ n2 ∷ []))
          ∷ ask (curve n1 n1 (n1 ∷ n2 ∷ []))
          ∷ ask (curve n5 n8 (n1 ∷ n2 ∷ []))
          ∷ ask (curve n6 n1 (n1 ∷ n2 ∷ []))
          ∷ look
          ∷ [];
      said =
          ok
          ∷ ok
          ∷ refused 11
          ∷ refused 11
          ∷ ok
          ∷ ok
          ∷ ok
          ∷ refused 11
          ∷ refused 11
          ∷ refused 11
          ∷ refused 11
          ∷ state n0 None None None (record { event = Event.Curve n0 n1 2 None; numbers = (n1 ∷ n2 ∷ []) } ∷ alone (Event.Step n1 n1) ∷ record { event = Event.Curve n2 n4 3 None; numbers = (n0 ∷ n4 ∷ n8 ∷ []) } ∷ alone (Event.Step n1 n6) ∷ []) true
          ∷ [];
    }
    -- C63 start + duration can be the start: then nothing is inside; or infinite: then all from the start on is
    -- make -10 0 10 a; curve 1e17 1 0 1; step 1 1e17; curve 1e17 2 3 4; state; make -10 0 10 a; curve 1e308 1e308 0 1; step 1 1.7e308; step 1 9e307; state
    ∷ record {
      acts =
          make (bounds minus10 n0 n10) Rate.A
          ∷ ask (curve (fin false 762939453125 (pos 17)) n1 (n0 ∷ n1 ∷ []))
          ∷ ask (step n1 (fin false 762939453125 (pos 17)))
          ∷ ask (curve (fin false 762939453125 (pos 17)) n2 (n3 ∷ n4 ∷ []))
          ∷ look
          ∷ make (bounds minus10 n0 n10) Rate.A
          ∷ ask (curve (fin false 156575653125701 (pos 976)) (fin false 156575653125701 (pos 976)) (n0 ∷ n1 ∷ []))
          ∷ ask (step n1 (fin false 4258857765019067 (pos 972)))
          ∷ ask (step n1 (fin false 4509378810020189 (pos 971)))
          ∷ look
          ∷ [];
      said =
          ok
          ∷ ok
          ∷ ok
          ∷ ok
          ∷ state n0 None None None (record { event = Event.Curve (fin false 762939453125 (pos 17)) n1 2 None; numbers = (n0 ∷ n1 ∷ []) } ∷ alone (Event.Step n1 (fin false 762939453125 (pos 17))) ∷ record { event = Event.Curve (fin false 762939453125 (pos 17)) n2 2 None; numbers = (n3 ∷ n4 ∷ []) } ∷ []) true
          ∷ ok
          ∷ ok
          ∷ refused 11
          ∷ ok
          ∷ state n0 None None None (alone (Event.Step n1 (fin false 4509378810020189 (pos 971))) ∷ record { event = Event.Curve (fin false 156575653125701 (pos 976)) (fin false 156575653125701 (pos 976)) 2 None; numbers = (n0 ∷ n1 ∷ []) } ∷ []) true
          ∷ [];
    }
    -- C64 11 is given after 2 to 6, and before 7, 8 and 14
    -- make -10 0 10 a; curve 0 4 0 1; exponential 0 1; target 1 1 -1; curve 1 1 3; lend 5; curve 1 1 3 4; curve 5 1 3 4; step 1 1
    ∷ record {
      acts =
          make (bounds minus10 n0 n10) Rate.A
          ∷ ask (curve n0 n4 (n0 ∷ n1 ∷ []))
          ∷ ask (exponential n0 n1)
          ∷ ask (target n1 n1 minus1)
          ∷ ask (curve n1 n1 (n3 ∷ []))
          ∷ lend 5
          ∷ ask (curve n1 n1 (n3 ∷ n4 ∷ []))
          ∷ ask (curve n5 n1 (n3 ∷ n4 ∷ []))
          ∷ ask (step n1 n1)
          ∷ [];
      said =
          ok
          ∷ ok
          ∷ refused 5
          ∷ refused 4
          ∷ refused 6
          ∷ ok
          ∷ refused 11
          ∷ refused 14
          ∷ refused 11
          ∷ [];
    }
    -- C65 a target that snaps at a block's end leaves its step at a curve's start, before it; a cancel inside the curve takes the curve alone
    -- make -10 0 10 a; target 5 0 0.01; curve 4 4 0 4 8; block 0 1 4; state; step 1 4; cancel 4.5; state
    ∷ record {
      acts =
          make (bounds minus10 n0 n10) Rate.A
          ∷ ask (target n5 n0 (fin false 5764607523034235 (negsuc 58)))
          ∷ ask (curve n4 n4 (n0 ∷ n4 ∷ n8 ∷ []))
          ∷ block n0 n1 4 4 []
          ∷ look
          ∷ ask (step n1 n4)
          ∷ ask (cancel (fin false 9 (negsuc 0)))
          ∷ look
          ∷ [];
      said =
          ok
          ∷ ok
          ∷ ok
          ∷ output 1 n0 false (n0 ∷ n5 ∷ n5 ∷ n5 ∷ [])
          ∷ state n5 (Some n0) (Some n4) (done n0 n0) (alone (Event.Step n5 n4) ∷ record { event = Event.Curve n4 n4 3 None; numbers = (n0 ∷ n4 ∷ n8 ∷ []) } ∷ []) true
          ∷ refused 11
          ∷ ok
          ∷ state n5 (Some n0) (Some n4) (done n0 n0) (alone (Event.Step n5 n4) ∷ []) true
          ∷ [];
    }
    -- C66 at a curve's very start, in either order
    -- make -10 0 10 a; set 5; curve 0 4 0 1; step 5 2; curve 2 4 0 1; make -10 0 10 a; curve 0 4 0 1; set 5
    ∷ record {
      acts =
          make (bounds minus10 n0 n10) Rate.A
          ∷ ask (set n5)
          ∷ ask (curve n0 n4 (n0 ∷ n1 ∷ []))
          ∷ ask (step n5 n2)
          ∷ ask (curve n2 n4 (n0 ∷ n1 ∷ []))
          ∷ make (bounds minus10 n0 n10) Rate.A
          ∷ ask (curve n0 n4 (n0 ∷ n1 ∷ []))
          ∷ ask (set n5)
          ∷ [];
      said =
          ok
          ∷ ok
          ∷ refused 11
          ∷ ok
          ∷ refused 11
          ∷ ok
          ∷ ok
          ∷ refused 11
          ∷ [];
    }
    -- C67 a curve held at its start has no span, and a held ramp lies inside a curve by its hold time
    -- make -10 0 10 a; curve 2 4 0 4 8; hold 2; step 1 2; linear 8 8; hold 7; curve 6 2 1 2; curve 7.5 1 1 2; state
    ∷ record {
      acts =
          make (bounds minus10 n0 n10) Rate.A
          ∷ ask (curve n2 n4 (n0 ∷ n4 ∷ n8 ∷ []))
          ∷ ask (hold n2)
          ∷ ask (step n1 n2)
          ∷ ask (linear n8 n8)
          ∷ ask (hold n7)
          ∷ ask (curve n6 n2 (n1 ∷ n2 ∷ []))
          ∷ ask (curve (fin false 15 (negsuc 0)) n1 (n1 ∷ n2 ∷ []))
          ∷ look
          ∷ [];
      said =
          ok
          ∷ ok
          ∷ ok
          ∷ ok
          ∷ ok
          ∷ ok
          ∷ refused 11
          ∷ ok
          ∷ state n0 None None None (record { event = Event.Curve n2 n4 3 (Some n2); numbers = (n0 ∷ n4 ∷ n8 ∷ []) } ∷ alone (Event.Step n1 n2) ∷ alone (Event.Linear n8 n8 (Some n7)) ∷ record { event = Event.Curve (fin false 15 (negsuc 0)) n1 2 None; numbers = (n1 ∷ n2 ∷ []) } ∷ []) true
          ∷ [];
    }
    -- ---- 02, C-12: running curves (C68 to C74 are cases-02's)
    -- C68 a hold before the start of a curve that runs takes it, and the value returns
    -- make -10 0 10 a; step 2 0; curve 1 5 0 4 8; block 0 1 3; hold 0.5; state
    ∷ record {
      acts =
          make (bounds minus10 n0 n10) Rate.A
          ∷ ask (step n2 n0)
          ∷ ask (curve n1 n5 (n0 ∷ n4 ∷ n8 ∷ []))
          ∷ block n0 n1 3 3 []
          ∷ ask (hold half)
          ∷ look
          ∷ [];
      said =
          ok
          ∷ ok
          ∷ ok
          ∷ output 2 n0 false (n2 ∷ n0 ∷ (fin false 13421773 (negsuc 22)) ∷ [])
          ∷ ok
          ∷ state n2 (Some n0) (Some n3) (done n0 n2) [] true
          ∷ [];
    }
    -- C69 started by its times alone: a curve that came behind the block and never played, and the value returns from 4 to 0
    -- make -10 0 10 a; step 0 0; linear 8 8; block 0 1 4; curve 1 1 5 6; state; cancel 1.5; state
    ∷ record {
      acts =
          make (bounds minus10 n0 n10) Rate.A
          ∷ ask (step n0 n0)
          ∷ ask (linear n8 n8)
          ∷ block n0 n1 4 4 []
          ∷ ask (curve n1 n1 (n5 ∷ n6 ∷ []))
          ∷ look
          ∷ ask (cancel (fin false 3 (negsuc 0)))
          ∷ look
          ∷ [];
      said =
          ok
          ∷ ok
          ∷ ok
          ∷ output 2 n0 false (n0 ∷ n1 ∷ n2 ∷ n3 ∷ [])
          ∷ ok
          ∷ state n4 (Some n0) (Some n4) (done n0 n0) (record { event = Event.Curve n1 n1 2 None; numbers = (n5 ∷ n6 ∷ []) } ∷ alone (Event.Linear n8 n8 None) ∷ []) true
          ∷ ok
          ∷ state n0 (Some n0) (Some n4) (done n0 n0) [] true
          ∷ [];
    }
    -- C70 the last answered block's end, where an earlier block reached further: the curve has played in the first, and the value stays
    -- make -10 0 10 a; step 2 0; curve 5 4 0 4 8; block 0 1 8; block 1 1 1; state; cancel 5; state
    ∷ record {
      acts =
          make (bounds minus10 n0 n10) Rate.A
          ∷ ask (step n2 n0)
          ∷ ask (curve n5 n4 (n0 ∷ n4 ∷ n8 ∷ []))
          ∷ block n0 n1 8 8 []
          ∷ block n1 n1 1 1 []
          ∷ look
          ∷ ask (cancel n5)
          ∷ look
          ∷ [];
      said =
          ok
          ∷ ok
          ∷ ok
          ∷ output 2 n0 false (n2 ∷ n2 ∷ n2 ∷ n2 ∷ n2 ∷ n0 ∷ n2 ∷ n4 ∷ [])
          ∷ output 1 n6 true (n6 ∷ [])
          ∷ state n6 (Some n1) (Some n2) (done n0 n2) (record { event = Event.Curve n5 n4 3 None; numbers = (n0 ∷ n4 ∷ n8 ∷ []) } ∷ []) true
          ∷ ok
          ∷ state n6 (Some n1) (Some n2) (done n0 n2) [] true
          ∷ [];
    }
    -- C71 a curve that is not the head goes without touching the value; a block at K-rate puts it out once more
    -- make -10 0 10 k; step 2 0; curve 1 5 0 4 8; block 0 1 3; set 9; cancel 3; state; block 3 1 2; block 5 1 2
    ∷ record {
      acts =
          make (bounds minus10 n0 n10) Rate.K
          ∷ ask (step n2 n0)
          ∷ ask (curve n1 n5 (n0 ∷ n4 ∷ n8 ∷ []))
          ∷ block n0 n1 3 3 []
          ∷ ask (set n9)
          ∷ ask (cancel n3)
          ∷ look
          ∷ block n3 n1 2 2 []
          ∷ block n5 n1 2 2 []
          ∷ [];
      said =
          ok
          ∷ ok
          ∷ ok
          ∷ output 2 n0 true (n0 ∷ n0 ∷ n0 ∷ [])
          ∷ ok
          ∷ ok
          ∷ state (fin false 13421773 (negsuc 21)) (Some n0) (Some n3) (done n0 n2) (alone (Event.Step n9 n0) ∷ []) true
          ∷ output 2 (fin false 13421773 (negsuc 21)) true ((fin false 13421773 (negsuc 21)) ∷ (fin false 13421773 (negsuc 21)) ∷ [])
          ∷ output 1 n9 true (n9 ∷ n9 ∷ [])
          ∷ [];
    }
    -- C72 both ends count: a cancel at the end takes the curve, one just behind it does not; a held curve ends at its hold time
    -- make -10 0 10 a; curve 1 5 0 4 8; cancel 6.000000000000001; state; cancel 6; state; curve 1 5 0 4 8; hold 3; cancel 4; state; cancel 3; state
    ∷ record {
      acts =
          make (bounds minus10 n0 n10) Rate.A
          ∷ ask (curve n1 n5 (n0 ∷ n4 ∷ n8 ∷ []))
          ∷ ask (cancel (fin false 6755399441055745 (negsuc 49)))
          ∷ look
          ∷ ask (cancel n6)
          ∷ look
          ∷ ask (curve n1 n5 (n0 ∷ n4 ∷ n8 ∷ []))
          ∷ ask (hold n3)
          ∷ ask (cancel n4)
          ∷ look
          ∷ ask (cancel n3)
          ∷ look
          ∷ [];
      said =
          ok
          ∷ ok
          ∷ ok
          ∷ state n0 None None None (record { event = Event.Curve n1 n5 3 None; numbers = (n0 ∷ n4 ∷ n8 ∷ []) } ∷ []) true
          ∷ ok
          ∷ state n0 None None None [] true
          ∷ ok
          ∷ ok
          ∷ ok
          ∷ state n0 None None None (record { event = Event.Curve n1 n5 3 (Some n3); numbers = (n0 ∷ n4 ∷ n8 ∷ []) } ∷ []) true
          ∷ ok
          ∷ state n0 None None None [] true
          ∷ [];
    }
    -- C73 with no last event the value stays where the curve had brought it
    -- make -10 0 10 a; curve 0 4 0 4 8; block 0 1 3; cancel 3; state
    ∷ record {
      acts =
          make (bounds minus10 n0 n10) Rate.A
          ∷ ask (curve n0 n4 (n0 ∷ n4 ∷ n8 ∷ []))
          ∷ block n0 n1 3 3 []
          ∷ ask (cancel n3)
          ∷ look
          ∷ [];
      said =
          ok
          ∷ ok
          ∷ output 1 n0 false (n0 ∷ n2 ∷ n4 ∷ [])
          ∷ ok
          ∷ state n6 (Some n0) (Some n3) None [] true
          ∷ [];
    }
    -- C74 02's example: a curve from 1 to 6 is cancelled at 3 while it runs
    -- make -10 0 10 a; step 2 0; curve 1 5 0 4 8; block 0 1 3; state; cancel 3; state; block 3 1 4
    ∷ record {
      acts =
          make (bounds minus10 n0 n10) Rate.A
          ∷ ask (step n2 n0)
          ∷ ask (curve n1 n5 (n0 ∷ n4 ∷ n8 ∷ []))
          ∷ block n0 n1 3 3 []
          ∷ look
          ∷ ask (cancel n3)
          ∷ look
          ∷ block n3 n1 4 4 []
          ∷ [];
      said =
          ok
          ∷ ok
          ∷ ok
          ∷ output 2 n0 false (n2 ∷ n0 ∷ (fin false 13421773 (negsuc 22)) ∷ [])
          ∷ state (fin false 13421773 (negsuc 21)) (Some n0) (Some n3) (done n0 n2) (record { event = Event.Curve n1 n5 3 None; numbers = (n0 ∷ n4 ∷ n8 ∷ []) } ∷ []) true
          ∷ ok
          ∷ state n2 (Some n0) (Some n3) (done n0 n2) [] true
          ∷ output 1 n2 true (n2 ∷ n2 ∷ n2 ∷ n2 ∷ [])
          ∷ [];
    }
    -- C75 a start at that end itself has started, one behind it has not
    -- make -10 0 10 a; step 0 0; linear 8 8; block 0 1 4; curve 4 1 5 6; cancel 4; state; make -10 0 10 a; step 0 0; linear 8 8; block 0 1 4; curve 4.5 1 5 6; cancel 4.5; state
    ∷ record {
      acts =
          make (bounds minus10 n0 n10) Rate.A
          ∷ ask (step n0 n0)
          ∷ ask (linear n8 n8)
          ∷ block n0 n1 4 4 []
          ∷ ask (curve n4 n1 (n5 ∷ n6 ∷ []))
          ∷ ask (cancel n4)
          ∷ look
          ∷ make (bounds minus10 n0 n10) Rate.A
          ∷ ask (step n0 n0)
          ∷ ask (linear n8 n8)
          ∷ block n0 n1 4 4 []
          ∷ ask (curve (fin false 9 (negsuc 0)) n1 (n5 ∷ n6 ∷ []))
          ∷ ask (cancel (fin false 9 (negsuc 0)))
          ∷ look
          ∷ [];
      said =
          ok
          ∷ ok
          ∷ ok
          ∷ output 2 n0 false (n0 ∷ n1 ∷ n2 ∷ n3 ∷ [])
          ∷ ok
          ∷ ok
          ∷ state n0 (Some n0) (Some n4) (done n0 n0) [] true
          ∷ ok
          ∷ ok
          ∷ ok
          ∷ output 2 n0 false (n0 ∷ n1 ∷ n2 ∷ n3 ∷ [])
          ∷ ok
          ∷ ok
          ∷ state n4 (Some n0) (Some n4) (done n0 n0) [] true
          ∷ [];
    }
    -- C76 the same of a hold before the start
    -- make -10 0 10 a; step 0 0; linear 8 8; block 0 1 4; curve 4 1 5 6; hold 3; state; make -10 0 10 a; step 0 0; linear 8 8; block 0 1 4; curve 4.5 1 5 6; hold 3; state
    ∷ record {
      acts =
          make (bounds minus10 n0 n10) Rate.A
          ∷ ask (step n0 n0)
          ∷ ask (linear n8 n8)
          ∷ block n0 n1 4 4 []
          ∷ ask (curve n4 n1 (n5 ∷ n6 ∷ []))
          ∷ ask (hold n3)
          ∷ look
          ∷ make (bounds minus10 n0 n10) Rate.A
          ∷ ask (step n0 n0)
          ∷ ask (linear n8 n8)
          ∷ block n0 n1 4 4 []
          ∷ ask (curve (fin false 9 (negsuc 0)) n1 (n5 ∷ n6 ∷ []))
          ∷ ask (hold n3)
          ∷ look
          ∷ [];
      said =
          ok
          ∷ ok
          ∷ ok
          ∷ output 2 n0 false (n0 ∷ n1 ∷ n2 ∷ n3 ∷ [])
          ∷ ok
          ∷ ok
          ∷ state n0 (Some n0) (Some n4) (done n0 n0) [] true
          ∷ ok
          ∷ ok
          ∷ ok
          ∷ output 2 n0 false (n0 ∷ n1 ∷ n2 ∷ n3 ∷ [])
          ∷ ok
          ∷ ok
          ∷ state n4 (Some n0) (Some n4) (done n0 n0) [] true
          ∷ [];
    }
    -- C77 a block that reaches beyond all numbers ends at +infinity
    -- make -10 0 10 a; block 1e308 1e308 1; state
    ∷ record {
      acts =
          make (bounds minus10 n0 n10) Rate.A
          ∷ block (fin false 156575653125701 (pos 976)) (fin false 156575653125701 (pos 976)) 1 1 []
          ∷ look
          ∷ [];
      said =
          ok
          ∷ output 1 n0 true (n0 ∷ [])
          ∷ state n0 (Some (fin false 156575653125701 (pos 976))) (Some (inf false)) None [] true
          ∷ [];
    }
    -- ---- 02, C-17: two cancels are one (C78 is cases-02's)
    -- C78 a ramp inside a curve, with which two cancels would not be one, is refused: cancels at 17 and 12, or one at 12, leave the same
    -- make -10 0 10 a; step 1 0; target 5 0 4; block 0 1 4; cancel 0; curve 10 10 0 8; linear 9 15; cancel 17; cancel 12; state; make -10 0 10 a; step 1 0; target 5 0 4; block 0 1 4; cancel 0; curve 10 10 0 8; linear 9 15; cancel 12; state
    ∷ record {
      acts =
          make (bounds minus10 n0 n10) Rate.A
          ∷ ask (step n1 n0)
          ∷ ask (target n5 n0 n4)
          ∷ block n0 n1 4 4 []
          ∷ ask (cancel n0)
          ∷ ask (curve n10 n10 (n0 ∷ n8 ∷ []))
          ∷ ask (linear n9 (fin false 15 (pos 0)))
          ∷ ask (cancel (fin false 17 (pos 0)))
          ∷ ask (cancel (fin false 3 (pos 2)))
          ∷ look
          ∷ make (bounds minus10 n0 n10) Rate.A
          ∷ ask (step n1 n0)
          ∷ ask (target n5 n0 n4)
          ∷ block n0 n1 4 4 []
          ∷ ask (cancel n0)
          ∷ ask (curve n10 n10 (n0 ∷ n8 ∷ []))
          ∷ ask (linear n9 (fin false 15 (pos 0)))
          ∷ ask (cancel (fin false 3 (pos 2)))
          ∷ look
          ∷ [];
      said =
          ok
          ∷ ok
          ∷ ok
          ∷ output 2 n0 false (n1 ∷ (fin false 7905411 (negsuc 21)) ∷ (fin false 1349453 (negsuc 18)) ∷ (fin false 3261631 (negsuc 19)) ∷ [])
          ∷ ok
          ∷ ok
          ∷ refused 11
          ∷ ok
          ∷ ok
          ∷ state (fin false 14799527 (negsuc 21)) (Some n0) (Some n4) (done n0 n1) [] true
          ∷ ok
          ∷ ok
          ∷ ok
          ∷ output 2 n0 false (n1 ∷ (fin false 7905411 (negsuc 21)) ∷ (fin false 1349453 (negsuc 18)) ∷ (fin false 3261631 (negsuc 19)) ∷ [])
          ∷ ok
          ∷ ok
          ∷ refused 11
          ∷ ok
          ∷ state (fin false 14799527 (negsuc 21)) (Some n0) (Some n4) (done n0 n1) [] true
          ∷ [];
    }
    -- ---- 02, C-19: blocks of up to 1,024 under the second edition (C79 is cases-02's)
    -- C79 1,024 places under the second edition, 128 under the first; an unknown edition is refused by 12, after 1, and leaves the empty parameter of the first edition, as 1 does
    -- make -10 0 10 a 2; state; block 0 1 1025; make -10 0 10 k 1; block 0 1 129; make -10 0 10 a 3; state; make 1 0 10 a 3; make 1 0 10 k 2; state
    ∷ record {
      acts =
          make_under (bounds minus10 n0 n10) Rate.A 2
          ∷ look
          ∷ kind
          ∷ block n0 n1 1025 1025 []
          ∷ make_under (bounds minus10 n0 n10) Rate.K 1
          ∷ block n0 n1 129 129 []
          ∷ make_under (bounds minus10 n0 n10) Rate.A 3
          ∷ look
          ∷ kind
          ∷ make_under (bounds n1 n0 n10) Rate.A 3
          ∷ make_under (bounds n1 n0 n10) Rate.K 2
          ∷ look
          ∷ kind
          ∷ [];
      said =
          ok
          ∷ state n0 None None None [] true
          ∷ of (bounds minus10 n0 n10) Rate.A Edition.Second
          ∷ turned 9 0 n0 false (replicate 1025 mark)
          ∷ ok
          ∷ turned 9 0 n0 false (replicate 129 mark)
          ∷ refused 12
          ∷ state n0 None None None [] true
          ∷ of (bounds n0 n0 n0) Rate.A Edition.First
          ∷ refused 1
          ∷ refused 1
          ∷ state n0 None None None [] true
          ∷ of (bounds n0 n0 n0) Rate.A Edition.First
          ∷ [];
    }
    -- C80 1,024 places are taken under the second edition, and a step behind the 128th is played in that block; the edition is kept
    -- make -10 0 10 a 2; step 3 130; block 0 1 1024; state; block 1024 1 129
    ∷ record {
      acts =
          make_under (bounds minus10 n0 n10) Rate.A 2
          ∷ ask (step n3 (fin false 65 (pos 1)))
          ∷ block n0 n1 1024 1024 []
          ∷ look
          ∷ kind
          ∷ block (fin false 1 (pos 10)) n1 129 129 []
          ∷ [];
      said =
          ok
          ∷ ok
          ∷ output 2 n0 false (replicate 130 n0 ++ replicate 894 n3)
          ∷ state n3 (Some n0) (Some (fin false 1 (pos 10))) (done (fin false 65 (pos 1)) n3) [] true
          ∷ of (bounds minus10 n0 n10) Rate.A Edition.Second
          ∷ output 1 n3 true (replicate 129 n3)
          ∷ [];
    }
    ∷ []

pub cases_hold : results cases ≡ expected cases
unfolding results expected cases
cases_hold = refl
