-- The session language, line by line: its page's table as definitions. `none` is a line that is none of these: `unread`.
use Rattle.std.specs.Prelude.{◌≡◌, cond, List, [], ◌∷◌, ℕ, zero, suc, ◌-◌, ◌^◌, ltb, eqb, length, take, Float, Option, None, Some}
use Rattle.std.specs.Float.{binary32, binary64}
use Rattle.rules.specs.declared.AutomationRate.{AutomationRate}
use Rattle.rules.specs.declared.AutomationRate.TheVariants as Rate
use Rattle.text.specs.Floats.{float_in}
use Rattle.text.specs.Hex.{bytes_up_to}
use Rattle.text.specs.Words.{Word, same_word, words_of, words_from, taken, is_over, count_in, next_at}
use Rattle.calls.specs.declared.Call.{Call}
use Rattle.calls.specs.declared.Renderer.{Renderer}
use Rattle.text.specs.declared.words.Next.{Next}

-- ---- fields: each is taken off the words, and what is behind it goes on with the rest

abbrev pub with_taken : {A B : Type 0} → Option (A × List Word) → (A → List Word → Option B) → Option B
with_taken None then = None
with_taken (Some p) then = then p.0 p.1

module _ {B : Type 0} where
  -- a value
  abbrev pub with_single : List Word → (Float → List Word → Option B) → Option B
  with_single ws then = with_taken (taken (float_in binary32) ws) then

  -- a time, a time constant, a duration or a period
  abbrev pub with_double : List Word → (Float → List Word → Option B) → Option B
  with_double ws then = with_taken (taken (float_in binary64) ws) then

  -- "Counts are decimal", from 0 to `most`
  abbrev pub with_count : ℕ → List Word → (ℕ → List Word → Option B) → Option B
  with_count most ws then = with_taken (taken (count_in most) ws) then

  -- PART, "(1 to 65536 ..)" (02, C-11)
  abbrev pub with_part : List Word → (ℕ → List Word → Option B) → Option B
  with_part ws then = with_count 65536 ws (λ n ws. cond (ltb 0 n) (then n ws) None)

  -- the line ends here
  abbrev pub ending : List Word → B → Option B
  ending ws b = cond (is_over ws) (Some b) None

-- "RATE is `a` or `k`"
abbrev pub rate_in : Word → Option AutomationRate
rate_in w = cond (same_word w (97 ∷ [])) (Some Rate.A) (cond (same_word w (107 ∷ [])) (Some Rate.K) None)

-- EDITION, "a decimal from 0 to 255"; "without the fifth word, the first"
abbrev pub edition_taken : List Word → Option (ℕ × List Word)
edition_taken ws = cond (is_over ws) (Some (1, ws)) (taken (count_in 255) ws)

-- n values
unfoldable pub and_more : Float → Option (List Float × List Word) → Option (List Float × List Word)
and_more x None = None
and_more x (Some p) = Some (x ∷ p.0, p.1)

unfoldable pub singles : ℕ → List Word → Option (List Float × List Word)
singles zero ws = Some ([], ws)
singles (suc n) ws = with_single ws (λ x ws. and_more x (singles n ws))

-- `N V1 .. VN`, N from 0 to `most`: how many values, and the values
abbrev pub counted : ℕ → List Word → Option ((ℕ × List Float) × List Word)
counted most ws = with_count most ws (λ n ws. with_taken (singles n ws) (λ xs ws. Some ((n, xs), ws)))

-- ---- the calls, by the words behind the first

-- `make MIN DEFAULT MAX RATE`, `make MIN DEFAULT MAX RATE EDITION`
abbrev pub make_of : List Word → Option Call
make_of ws =
    with_single ws (λ min ws. with_single ws (λ default ws. with_single ws (λ max ws. with_taken (taken rate_in ws) (λ rate ws.
    with_taken (edition_taken ws) (λ edition ws. ending ws (Call.Make (record { min = min; default = default; max = max }) rate edition))))))

-- `set V`
abbrev pub set_of : List Word → Option Call
set_of ws = with_single ws (λ v ws. ending ws (Call.Set v))

-- `step V T`, `linear V T`, `exponential V T`
abbrev pub timed : {A : Type 0} → (Float → Float → A) → List Word → Option A
timed call ws = with_single ws (λ v ws. with_double ws (λ t ws. ending ws (call v t)))

-- `target V T TC`
abbrev pub target_of : List Word → Option Call
target_of ws = with_single ws (λ v ws. with_double ws (λ t ws. with_double ws (λ c ws. ending ws (Call.Target v t c))))

-- `cancel T`, `hold T`
abbrev pub cancelling : {A : Type 0} → (Float → A) → List Word → Option A
cancelling call ws = with_double ws (λ t ws. ending ws (call t))

-- `lend N`, "N from 0 to 8192"
abbrev pub lend_of : List Word → Option Call
lend_of ws = with_count 8192 ws (λ n ws. ending ws (Call.Lend n))

-- `poke I V`, I a place of the array of 8192; "Places count from 0"
abbrev pub poke_of : List Word → Option Call
poke_of ws = with_count 8191 ws (λ i ws. with_single ws (λ v ws. ending ws (Call.Poke i v)))

-- `state`
abbrev pub state_of : List Word → Option Call
state_of ws = ending ws Call.State

-- `save` (02, C-11)
abbrev pub save_of : List Word → Option Call
save_of ws = ending ws Call.Save

-- a call with the numbers and the file's bytes that are said behind it
abbrev pub Said : Type 0
Said = Call × List Float × List ℕ

-- `curve T D N V1 .. VN`, "N from 0 to 5000"
abbrev pub curve_of : List Word → Option Said
curve_of ws =
    with_double ws (λ t ws. with_double ws (λ d ws. with_count 5000 ws (λ n ws. with_taken (singles n ws) (λ xs ws.
    ending ws (Call.Curve t d n, xs, [])))))

-- `block T P COUNT OUT IN I1 .. IIN`, "OUT and IN from 0 to 4096; COUNT any u64"; `plain ..`, "a block by the plain renderer; words .. as for `block`" (02, C-16)
abbrev pub block_of : Renderer → List Word → Option Said
block_of by ws =
    with_double ws (λ t ws. with_double ws (λ p ws. with_count (2 ^ 64 - 1) ws (λ n ws. with_count 4096 ws (λ o ws. with_count 4096 ws (λ i ws.
    with_taken (singles i ws) (λ xs ws. ending ws (Call.Block by t p n o i, xs, [])))))))

-- `load PART HEX RATE`, `load PART HEX RATE EDITION` (02, C-11), HEX "at most 30,000 bytes"
abbrev pub load_of : List Word → Option Said
load_of ws =
    with_part ws (λ part ws. with_taken (taken (bytes_up_to 30000) ws) (λ file ws. with_taken (taken rate_in ws) (λ rate ws.
    with_taken (edition_taken ws) (λ edition ws. ending ws (Call.Load part file.0 rate edition, [], file.1)))))

-- ---- a line

-- a call that has neither behind it
abbrev pub bare : Option Call → Option Said
bare None = None
bare (Some c) = Some (c, [], [])

-- the first word of each call, and what is read behind it
pub data Row : Type 0 where
  row : Word → (List Word → Option Said) → Row

-- the calls that change the waiting events: set, step, linear, exponential, target, curve, cancel, hold
abbrev pub scheduling : List Row
scheduling =
    row (115 ∷ 101 ∷ 116 ∷ []) (λ ws. bare (set_of ws)) ∷ row (115 ∷ 116 ∷ 101 ∷ 112 ∷ []) (λ ws. bare (timed Call.Step ws))
    ∷ row (108 ∷ 105 ∷ 110 ∷ 101 ∷ 97 ∷ 114 ∷ []) (λ ws. bare (timed Call.Linear ws))
    ∷ row (101 ∷ 120 ∷ 112 ∷ 111 ∷ 110 ∷ 101 ∷ 110 ∷ 116 ∷ 105 ∷ 97 ∷ 108 ∷ []) (λ ws. bare (timed Call.Exponential ws))
    ∷ row (116 ∷ 97 ∷ 114 ∷ 103 ∷ 101 ∷ 116 ∷ []) (λ ws. bare (target_of ws)) ∷ row (99 ∷ 117 ∷ 114 ∷ 118 ∷ 101 ∷ []) curve_of
    ∷ row (99 ∷ 97 ∷ 110 ∷ 99 ∷ 101 ∷ 108 ∷ []) (λ ws. bare (cancelling Call.Cancel ws))
    ∷ row (104 ∷ 111 ∷ 108 ∷ 100 ∷ []) (λ ws. bare (cancelling Call.Hold ws)) ∷ []

-- make, block, plain, lend, poke, state, save, load, and these
abbrev pub calls : List Row
calls =
    row (109 ∷ 97 ∷ 107 ∷ 101 ∷ []) (λ ws. bare (make_of ws)) ∷ row (98 ∷ 108 ∷ 111 ∷ 99 ∷ 107 ∷ []) (block_of Renderer.Fast)
    ∷ row (112 ∷ 108 ∷ 97 ∷ 105 ∷ 110 ∷ []) (block_of Renderer.Plain)
    ∷ row (108 ∷ 101 ∷ 110 ∷ 100 ∷ []) (λ ws. bare (lend_of ws)) ∷ row (112 ∷ 111 ∷ 107 ∷ 101 ∷ []) (λ ws. bare (poke_of ws))
    ∷ row (115 ∷ 116 ∷ 97 ∷ 116 ∷ 101 ∷ []) (λ ws. bare (state_of ws)) ∷ row (115 ∷ 97 ∷ 118 ∷ 101 ∷ []) (λ ws. bare (save_of ws))
    ∷ row (108 ∷ 111 ∷ 97 ∷ 100 ∷ []) load_of ∷ scheduling

abbrev pub found : List Row → Word → List Word → Option Said
found [] w ws = None
found (row x read ∷ rows) w ws = cond (same_word w x) (read ws) (found rows w ws)

abbrev pub by_first : List Word → Option Said
by_first [] = None
by_first (w ∷ ws) = found calls w ws

-- "an empty line or one that begins with `#`" has no call
unfoldable pub call_of : List ℕ → Option Said
call_of [] = Some (Call.Nothing, [], [])
call_of (c ∷ cs) = cond (eqb c 35) (Some (Call.Nothing, [], [])) (by_first (words_of (c ∷ cs)))

-- ---- what the code says

-- the call, its numbers in front of the slice that was lent for them, and its bytes in front of the file's
abbrev pub Heard : Option Said → Option Call → List Float → List ℕ → Type 0
Heard None r numbers file = r ≡ None
Heard (Some s) r numbers file = (r ≡ Some s.0) × (take (length s.1) numbers ≡ s.1) × (take (length s.2) file ≡ s.2)

-- xs being what was put into the slice
abbrev pub numbers_at : List ℕ → List Float → Option ℕ → Option (List Float × List Word)
numbers_at s xs None = None
numbers_at s xs (Some next) = Some (xs, words_from s next)

-- those in front of the slice
abbrev pub counted_at : List ℕ → List Float → Option (Next ℕ) → Option ((ℕ × List Float) × List Word)
counted_at s numbers = next_at (λ n. (n, take n numbers)) s
