-- A third table: small sessions of steps, linear ramps and curves outside the known differences, with the Rust original's own answers (oracle/), so that the
-- definitions are held to it, too. The Rust has no steps, no block time and no store: these are not compared here. Under each name stand the calls in plain numbers.
use Rattle.std.proofs.Common.{None}
use mathlib.Core.Path.{◌≡◌, refl}
use mathlib.Core.Bool.{true, false}
use mathlib.Core.List.{List, [], ◌∷◌}
use lib.IntN.{pos, negsuc}
use lib.Ieee.{nan, fin}
use Rattle.rules.specs.declared.Event.TheVariants as Event
use Rattle.rules.specs.declared.AutomationRate.TheVariants as Rate
use Rattle.rules.specs.Queue.{alone}
use Rattle.rules.specs.Block.{step, linear, curve, cancel, hold}
use Rattle.rules.proofs.Table.{make, ask, hear, glance, ok, sounds, seen, Case, results, expected, bounds, done, n0, n1, n2, n3, n4, n5, n6, n7, n8, n9, n10, half, minus1, minus10}

unfoldable pub rust : List Case
rust =
    -- R1 two steps, one on a half sample, one beside it
    -- make -10 0 10 a; step 5 1.5; step -3 3.4999999999999996; block 0 1 6; state
    record {
      acts =
          make (bounds minus10 n0 n10) Rate.A
          ∷ ask (step n5 (fin false 3 (negsuc 0)))
          ∷ ask (step (fin true 3 (pos 0)) (fin false 7881299347898367 (negsuc 50)))
          ∷ hear n0 n1 6 []
          ∷ glance
          ∷ [];
      said =
          ok
          ∷ ok
          ∷ ok
          ∷ sounds n0 false (n0 ∷ n0 ∷ n5 ∷ (fin true 3 (pos 0)) ∷ (fin true 3 (pos 0)) ∷ (fin true 3 (pos 0)) ∷ [])
          ∷ seen (fin true 3 (pos 0)) (done (fin false 7881299347898367 (negsuc 50)) (fin true 3 (pos 0))) []
          ∷ [];
    }
    -- R2 steps over two blocks, several at one time: the last wins
    -- make -10 2 10 a; step 1 3; step 4 3; step 7 5.25; block 0 1 4; state; block 4 1 4; state
    ∷ record {
      acts =
          make (bounds minus10 n2 n10) Rate.A
          ∷ ask (step n1 n3)
          ∷ ask (step n4 n3)
          ∷ ask (step n7 (fin false 21 (negsuc 1)))
          ∷ hear n0 n1 4 []
          ∷ glance
          ∷ hear n4 n1 4 []
          ∷ glance
          ∷ [];
      said =
          ok
          ∷ ok
          ∷ ok
          ∷ ok
          ∷ sounds n2 false (n2 ∷ n2 ∷ n2 ∷ n4 ∷ [])
          ∷ seen n4 (done n3 n4) (alone (Event.Step n7 (fin false 21 (negsuc 1))) ∷ [])
          ∷ sounds n4 false (n4 ∷ n7 ∷ n7 ∷ n7 ∷ [])
          ∷ seen n7 (done (fin false 21 (negsuc 1)) n7) []
          ∷ [];
    }
    -- R3 a linear ramp over three blocks of 3, thirds that do not come out even
    -- make -10 0 10 a; step 1 0; linear 2 7; block 0 1 3; state; block 3 1 3; block 6 1 3; state
    ∷ record {
      acts =
          make (bounds minus10 n0 n10) Rate.A
          ∷ ask (step n1 n0)
          ∷ ask (linear n2 n7)
          ∷ hear n0 n1 3 []
          ∷ glance
          ∷ hear n3 n1 3 []
          ∷ hear n6 n1 3 []
          ∷ glance
          ∷ [];
      said =
          ok
          ∷ ok
          ∷ ok
          ∷ sounds n0 false (n1 ∷ (fin false 9586981 (negsuc 22)) ∷ (fin false 10785353 (negsuc 22)) ∷ [])
          ∷ seen (fin false 5991863 (negsuc 21)) (done n0 n1) (alone (Event.Linear n2 n7 None) ∷ [])
          ∷ sounds (fin false 5991863 (negsuc 21)) false ((fin false 5991863 (negsuc 21)) ∷ (fin false 6591049 (negsuc 21)) ∷ (fin false 14380471 (negsuc 22)) ∷ [])
          ∷ sounds (fin false 3894711 (negsuc 20)) false ((fin false 3894711 (negsuc 20)) ∷ n2 ∷ n2 ∷ [])
          ∷ seen n2 (done n7 n2) []
          ∷ [];
    }
    -- R4 a linear ramp at a period of 0.1 from a time that is no multiple
    -- make -10 0 10 a; step -1 0.25; linear 0.3 1.05; block 0 0.1 12; state
    ∷ record {
      acts =
          make (bounds minus10 n0 n10) Rate.A
          ∷ ask (step minus1 (fin false 1 (negsuc 1)))
          ∷ ask (linear (fin false 5033165 (negsuc 23)) (fin false 4728779608739021 (negsuc 51)))
          ∷ hear n0 (fin false 3602879701896397 (negsuc 54)) 12 []
          ∷ glance
          ∷ [];
      said =
          ok
          ∷ ok
          ∷ ok
          ∷ sounds n0 false (n0 ∷ n0 ∷ n0 ∷ (fin true 15414067 (negsuc 23)) ∷ (fin true 6343885 (negsuc 22)) ∷ (fin true 19 (negsuc 4)) ∷ (fin true 7235175 (negsuc 23)) ∷ (fin true 4508877 (negsuc 23)) ∷ (fin true 7130319 (negsuc 25)) ∷ (fin false 3774871 (negsuc 25)) ∷ (fin false 14680061 (negsuc 25)) ∷ (fin false 5033165 (negsuc 23)) ∷ [])
          ∷ seen (fin false 5033165 (negsuc 23)) (done (fin false 4728779608739021 (negsuc 51)) (fin false 5033165 (negsuc 23))) []
          ∷ [];
    }
    -- R5 two linear ramps, one behind the other, the second held
    -- make -10 0 10 a; step 0 0; linear 6 3; linear -6 9; hold 5; block 0 1 8; state
    ∷ record {
      acts =
          make (bounds minus10 n0 n10) Rate.A
          ∷ ask (step n0 n0)
          ∷ ask (linear n6 n3)
          ∷ ask (linear (fin true 3 (pos 1)) n9)
          ∷ ask (hold n5)
          ∷ hear n0 n1 8 []
          ∷ glance
          ∷ [];
      said =
          ok
          ∷ ok
          ∷ ok
          ∷ ok
          ∷ ok
          ∷ sounds n0 false (n0 ∷ n2 ∷ n4 ∷ n6 ∷ n4 ∷ (fin false 16777215 (negsuc 22)) ∷ (fin false 16777215 (negsuc 22)) ∷ (fin false 16777215 (negsuc 22)) ∷ [])
          ∷ seen (fin false 16777215 (negsuc 22)) (done n5 (fin false 16777215 (negsuc 22))) []
          ∷ [];
    }
    -- R6 a linear ramp cancelled while it runs: back to where it began
    -- make -10 0 10 a; step 3 0; linear 8 10; block 0 1 4; cancel 6; block 4 1 3; state
    ∷ record {
      acts =
          make (bounds minus10 n0 n10) Rate.A
          ∷ ask (step n3 n0)
          ∷ ask (linear n8 n10)
          ∷ hear n0 n1 4 []
          ∷ ask (cancel n6)
          ∷ hear n4 n1 3 []
          ∷ glance
          ∷ [];
      said =
          ok
          ∷ ok
          ∷ ok
          ∷ sounds n0 false (n3 ∷ (fin false 7 (negsuc 0)) ∷ n4 ∷ (fin false 9 (negsuc 0)) ∷ [])
          ∷ ok
          ∷ sounds n3 true (n3 ∷ n3 ∷ n3 ∷ [])
          ∷ seen n3 (done n0 n3) []
          ∷ [];
    }
    -- R7 a curve of four numbers, phases that are rounded
    -- make -10 0 10 a; curve 0 7 0 1 -2 0.1; block 0 1 9; state
    ∷ record {
      acts =
          make (bounds minus10 n0 n10) Rate.A
          ∷ ask (curve n0 n7 (n0 ∷ n1 ∷ (fin true 1 (pos 1)) ∷ (fin false 13421773 (negsuc 26)) ∷ []))
          ∷ hear n0 n1 9 []
          ∷ glance
          ∷ [];
      said =
          ok
          ∷ ok
          ∷ sounds n0 false (n0 ∷ (fin false 14380471 (negsuc 24)) ∷ (fin false 14380471 (negsuc 23)) ∷ (fin false 4793489 (negsuc 24)) ∷ (fin true 9586981 (negsuc 22)) ∷ (fin true 7130317 (negsuc 21)) ∷ (fin true 13421773 (negsuc 23)) ∷ (fin false 13421773 (negsuc 26)) ∷ (fin false 13421773 (negsuc 26)) ∷ [])
          ∷ seen (fin false 13421773 (negsuc 26)) (done n7 (fin false 13421773 (negsuc 26))) []
          ∷ [];
    }
    -- R8 a curve over two blocks of 5, then a linear ramp from its last number
    -- make -10 0 10 a; curve 0 6.5 1 3 2; linear 0 9; block 0 1 5; state; block 5 1 5; state
    ∷ record {
      acts =
          make (bounds minus10 n0 n10) Rate.A
          ∷ ask (curve n0 (fin false 13 (negsuc 0)) (n1 ∷ n3 ∷ n2 ∷ []))
          ∷ ask (linear n0 n9)
          ∷ hear n0 n1 5 []
          ∷ glance
          ∷ hear n5 n1 5 []
          ∷ glance
          ∷ [];
      said =
          ok
          ∷ ok
          ∷ ok
          ∷ sounds n0 false (n1 ∷ (fin false 3387707 (negsuc 20)) ∷ (fin false 2339131 (negsuc 19)) ∷ (fin false 5968817 (negsuc 20)) ∷ (fin false 2903749 (negsuc 19)) ∷ [])
          ∷ seen (fin false 1290555 (negsuc 18)) None (record { event = Event.Curve n0 (fin false 13 (negsuc 0)) 3 None; numbers = (n1 ∷ n3 ∷ n2 ∷ []) } ∷ alone (Event.Linear n0 n9 None) ∷ [])
          ∷ sounds (fin false 1290555 (negsuc 18)) false ((fin false 1290555 (negsuc 18)) ∷ (fin false 4516943 (negsuc 20)) ∷ (fin false 13421773 (negsuc 22)) ∷ (fin false 3355443 (negsuc 21)) ∷ n0 ∷ [])
          ∷ seen n0 (done n9 n0) []
          ∷ [];
    }
    -- R9 a held curve, value between two numbers
    -- make -10 0 10 a; curve 0 8 0 5 -1; hold 3.3; block 0 1 6; state
    ∷ record {
      acts =
          make (bounds minus10 n0 n10) Rate.A
          ∷ ask (curve n0 n8 (n0 ∷ n5 ∷ minus1 ∷ []))
          ∷ ask (hold (fin false 3715469692580659 (negsuc 49)))
          ∷ hear n0 n1 6 []
          ∷ glance
          ∷ [];
      said =
          ok
          ∷ ok
          ∷ ok
          ∷ sounds n0 false (n0 ∷ (fin false 5 (negsuc 1)) ∷ (fin false 5 (negsuc 0)) ∷ (fin false 33 (negsuc 2)) ∷ (fin false 33 (negsuc 2)) ∷ (fin false 33 (negsuc 2)) ∷ [])
          ∷ seen (fin false 33 (negsuc 2)) (done (fin false 3715469692580659 (negsuc 49)) (fin false 33 (negsuc 2))) []
          ∷ [];
    }
    -- R10 K-rate: each block has the value at its start
    -- make -10 0 10 k; step 1 0.5; linear 4 10; block 0 1 4; block 4 1 4; block 8 1 4; state
    ∷ record {
      acts =
          make (bounds minus10 n0 n10) Rate.K
          ∷ ask (step n1 half)
          ∷ ask (linear n4 n10)
          ∷ hear n0 n1 4 []
          ∷ hear n4 n1 4 []
          ∷ hear n8 n1 4 []
          ∷ glance
          ∷ [];
      said =
          ok
          ∷ ok
          ∷ ok
          ∷ sounds n0 true (n0 ∷ n0 ∷ n0 ∷ n0 ∷ [])
          ∷ sounds (fin false 4415057 (negsuc 20)) true ((fin false 4415057 (negsuc 20)) ∷ (fin false 4415057 (negsuc 20)) ∷ (fin false 4415057 (negsuc 20)) ∷ (fin false 4415057 (negsuc 20)) ∷ [])
          ∷ sounds (fin false 7064091 (negsuc 20)) true ((fin false 7064091 (negsuc 20)) ∷ (fin false 7064091 (negsuc 20)) ∷ (fin false 7064091 (negsuc 20)) ∷ (fin false 7064091 (negsuc 20)) ∷ [])
          ∷ seen n4 (done n10 n4) []
          ∷ [];
    }
    -- R11 range and input: clamped, NaN gives the default
    -- make -1 0.25 3 a; step 2 0; linear -2 4; block 0 1 5 5 0.5 2 NaN -3 0.1; state
    ∷ record {
      acts =
          make (bounds minus1 (fin false 1 (negsuc 1)) n3) Rate.A
          ∷ ask (step n2 n0)
          ∷ ask (linear (fin true 1 (pos 1)) n4)
          ∷ hear n0 n1 5 (half ∷ n2 ∷ nan ∷ (fin true 3 (pos 0)) ∷ (fin false 13421773 (negsuc 26)) ∷ [])
          ∷ glance
          ∷ [];
      said =
          ok
          ∷ ok
          ∷ ok
          ∷ sounds (fin false 1 (negsuc 1)) false ((fin false 5 (negsuc 0)) ∷ n3 ∷ (fin false 1 (negsuc 1)) ∷ minus1 ∷ minus1 ∷ [])
          ∷ seen (fin true 1 (pos 1)) (done n4 (fin true 1 (pos 1))) []
          ∷ [];
    }
    -- R13 48 kHz: a step and a ramp in real seconds
    -- make 0 1 2 a; step 0.5 0.00005; linear 1.5 0.00015; block 0 0.000020833333333333333 8; state
    ∷ record {
      acts =
          make (bounds n0 n1 n2) Rate.A
          ∷ ask (step half (fin false 7378697629483821 (negsuc 66)))
          ∷ ask (linear (fin false 3 (negsuc 0)) (fin false 5534023222112865 (negsuc 64)))
          ∷ hear n0 (fin false 6148914691236517 (negsuc 67)) 8 []
          ∷ glance
          ∷ [];
      said =
          ok
          ∷ ok
          ∷ ok
          ∷ sounds n1 false (n1 ∷ n1 ∷ (fin false 13981013 (negsuc 24)) ∷ (fin false 5 (negsuc 2)) ∷ (fin false 6990507 (negsuc 22)) ∷ (fin false 4369067 (negsuc 21)) ∷ (fin false 5 (negsuc 1)) ∷ (fin false 3 (negsuc 0)) ∷ [])
          ∷ seen (fin false 3 (negsuc 0)) (done (fin false 5534023222112865 (negsuc 64)) (fin false 3 (negsuc 0))) []
          ∷ [];
    }
    -- R14 product and sum rounded once
    -- make -10 0 10 a; step 0.1 0; linear 0.7 3; block 0 1 5; state
    ∷ record {
      acts =
          make (bounds minus10 n0 n10) Rate.A
          ∷ ask (step (fin false 13421773 (negsuc 26)) n0)
          ∷ ask (linear (fin false 11744051 (negsuc 23)) n3)
          ∷ hear n0 n1 5 []
          ∷ glance
          ∷ [];
      said =
          ok
          ∷ ok
          ∷ ok
          ∷ sounds n0 false ((fin false 13421773 (negsuc 26)) ∷ (fin false 10066329 (negsuc 24)) ∷ half ∷ (fin false 11744051 (negsuc 23)) ∷ (fin false 11744051 (negsuc 23)) ∷ [])
          ∷ seen (fin false 11744051 (negsuc 23)) (done n3 (fin false 11744051 (negsuc 23))) []
          ∷ [];
    }
    ∷ []

pub rust_agrees : results rust ≡ expected rust
unfolding results expected rust
rust_agrees = refl
