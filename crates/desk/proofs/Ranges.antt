-- What is read from a line is within the page's ranges. Assumes nothing.
use mathlib.Core.Path.{◌≡◌, refl, sym, ap, ◌∙◌, subst}
use mathlib.Core.Bool.{Bool, true, false, cond}
use mathlib.Core.List.{List, [], ◌∷◌}
use Rattle.std.specs.Prelude.{Option, None, Some}
use Prim.Native.Nat.{ℕ, zero, suc, ◌-◌, ◌^◌, ◌≤◌, zero-le}
use native.Mathlib.Omega.{arith}
use lib.Dec.{ltb, eqb}
use lib.ListN.{length, take}
use lib.Seq.{take-take}
use lib.Ieee.{Float, binary32, binary64}
use borrow.Author.Tests.{ltb-true}
use Rattle.rules.specs.Block as rule
use Rattle.text.specs.Floats.{float_in}
use Rattle.text.specs.Words.{Word, same_word, words_of, taken, is_over, count_in}
use Rattle.text.specs.Hex.{Sized, bytes_up_to}
use Rattle.text.proofs.Splitting.{count_below}
use Rattle.text.proofs.Pairs.{bytes_below}
use Rattle.calls.specs.declared.Call.{Call}
use Rattle.calls.specs.declared.Renderer.{Renderer}
use Rattle.calls.specs.Language.{with_taken, rate_in, edition_taken, ending, and_more, singles, make_of, set_of, timed, target_of, cancelling, lend_of, poke_of, state_of, save_of, Said, curve_of, block_of, load_of, bare, Row, row, scheduling, calls, found, by_first, call_of, Heard}
use Rattle.std.proofs.lemmas.Option.{none-some, same_Some}
use Rattle.desk.specs.Desk.{InRange, unread, asked, playing, marks, loading, answer_of, said_turn}

-- ---- a property of what is read, if anything is

unfoldable In : {B : Type 0} → (B → Type 0) → Option B → Type 0
In P None = Unit
In P (Some b) = P b

module _ {B : Type 0} (P : B → Type 0) where
  -- behind what has a property R
  with_known : {A : Type 0} (R : A × List Word → Type 0) (o : Option (A × List Word)) (then : A → List Word → Option B) → In R o → ((x : A) (ws : List Word) → R (x, ws) → In P (then x ws)) → In P (with_taken o then)
  unfolding In
  with_known R None then r h = tt
  with_known R (Some p) then r h = h p.0 p.1 r

  any : {A : Type 0} (o : Option (A × List Word)) (then : A → List Word → Option B) → ((x : A) (ws : List Word) → In P (then x ws)) → In P (with_taken o then)
  unfolding In
  any None then h = tt
  any (Some p) then h = h p.0 p.1

  -- where a test is passed
  if_so : (t : Bool) (o : Option B) → (t ≡ true → In P o) → In P (cond t o None)
  unfolding In
  if_so true o h = h refl
  if_so false o h = tt

  ended : (ws : List Word) (b : B) → P b → In P (ending ws b)
  unfolding In
  ended ws b h = if_so (is_over ws) (Some b) (λ e. h)

-- the floats of either format, as they are taken
abbrev single : List Word → Option (Float × List Word)
single = taken (float_in binary32)

abbrev double : List Word → Option (Float × List Word)
double = taken (float_in binary64)

-- a count is within its ceiling
count_in_lem : (most : ℕ) (ws : List Word) → In (λ (p : ℕ × List Word). p.0 ≤ most) (taken (count_in most) ws)
unfolding In
count_in_lem most ws = by_option (taken (count_in most) ws) refl
  where
    by_option : (o : Option (ℕ × List Word)) → taken (count_in most) ws ≡ o → In (λ (p : ℕ × List Word). p.0 ≤ most) o
    by_option None e = tt
    by_option (Some p) e = count_below most ws e

-- bytes are within theirs, and as many as were said
abbrev Few : ℕ → Sized × List Word → Type 0
Few most p = (p.0.0 ≤ most) × (p.0.0 ≡ length p.0.1)

bytes_in_lem : (most : ℕ) (ws : List Word) → In (Few most) (taken (bytes_up_to most) ws)
unfolding In
bytes_in_lem most ws = by_option (taken (bytes_up_to most) ws) refl
  where
    by_option : (o : Option (Sized × List Word)) → taken (bytes_up_to most) ws ≡ o → In (Few most) o
    by_option None e = tt
    by_option (Some p) e = bytes_below most ws e

-- as many numbers as were said
abbrev Long : ℕ → List Float × List Word → Type 0
Long n p = length p.0 ≡ n

one_more : (n : ℕ) (x : Float) (o : Option (List Float × List Word)) → In (Long n) o → In (Long (suc n)) (and_more x o)
unfolding and_more In
one_more n x None h = tt
one_more n x (Some p) h = ap suc h

singles_in : (n : ℕ) (ws : List Word) → In (Long n) (singles n ws)
unfolding singles In
singles_in zero ws = refl
singles_in (suc n) ws = any (Long (suc n)) _ _ (λ x ws. one_more n x (singles n ws) (singles_in n ws))

-- ---- the calls

-- how many numbers a call has, a curve's or an input's, and how many bytes
unfoldable said_length : Call → ℕ × ℕ
said_length Call.Nothing = (0, 0)
said_length (Call.Make b rate n) = (0, 0)
said_length (Call.Set v) = (0, 0)
said_length (Call.Step v t) = (0, 0)
said_length (Call.Linear v t) = (0, 0)
said_length (Call.Exponential v t) = (0, 0)
said_length (Call.Target v t c) = (0, 0)
said_length (Call.Curve t d n) = (n, 0)
said_length (Call.Cancel t) = (0, 0)
said_length (Call.Hold t) = (0, 0)
said_length (Call.Block by t p n o i) = (i, 0)
said_length (Call.Lend n) = (0, 0)
said_length (Call.Poke i v) = (0, 0)
said_length Call.State = (0, 0)
said_length Call.Save = (0, 0)
said_length (Call.Load part n rate edition) = (0, n)

-- within the ranges, and the numbers and the bytes are there
abbrev Fit : Said → Type 0
Fit s = InRange s.0 × ((said_length s.0).0 ≤ length s.1) × ((said_length s.0).1 ≤ length s.2)

abbrev Bare : Call → Type 0
Bare c = Fit (c, [], [])

in_make : (ws : List Word) → In Bare (make_of ws)
unfolding InRange said_length
in_make ws =
    any Bare (single ws) _ (λ lo ws. any Bare (single ws) _ (λ d ws. any Bare (single ws) _ (λ hi ws. any Bare (taken rate_in ws) _ (λ r ws.
    any Bare (edition_taken ws) _ (λ n ws. ended Bare ws _ (tt, zero-le, zero-le))))))

in_set : (ws : List Word) → In Bare (set_of ws)
unfolding InRange said_length
in_set ws = any Bare (single ws) _ (λ v ws. ended Bare ws _ (tt, zero-le, zero-le))

in_timed : (call : Float → Float → Call) → ((v t : Float) → Bare (call v t)) → (ws : List Word) → In Bare (timed call ws)
in_timed call one ws = any Bare (single ws) _ (λ v ws. any Bare (double ws) _ (λ t ws. ended Bare ws _ (one v t)))

in_target : (ws : List Word) → In Bare (target_of ws)
unfolding InRange said_length
in_target ws = any Bare (single ws) _ (λ v ws. any Bare (double ws) _ (λ t ws. any Bare (double ws) _ (λ c ws. ended Bare ws _ (tt, zero-le, zero-le))))

in_cancelling : (call : Float → Call) → ((t : Float) → Bare (call t)) → (ws : List Word) → In Bare (cancelling call ws)
in_cancelling call one ws = any Bare (double ws) _ (λ t ws. ended Bare ws _ (one t))

in_lend : (ws : List Word) → In Bare (lend_of ws)
unfolding InRange said_length
in_lend ws = with_known Bare _ _ _ (count_in_lem 8192 ws) (λ n ws h. ended Bare ws _ (h, zero-le, zero-le))

in_poke : (ws : List Word) → In Bare (poke_of ws)
unfolding InRange said_length
in_poke ws = with_known Bare _ _ _ (count_in_lem 8191 ws) (λ i ws h. any Bare (single ws) _ (λ v ws. ended Bare ws _ (omega arith, zero-le, zero-le)))

in_state : (ws : List Word) → In Bare (state_of ws)
unfolding InRange said_length
in_state ws = ended Bare ws _ (tt, zero-le, zero-le)

in_save : (ws : List Word) → In Bare (save_of ws)
unfolding InRange said_length
in_save ws = ended Bare ws _ (tt, zero-le, zero-le)

in_load : (ws : List Word) → In Fit (load_of ws)
unfolding InRange said_length
in_load ws =
    with_known Fit _ _ _ (count_in_lem 65536 ws) (λ part ws most. if_so Fit (ltb 0 part) _ (λ some_bytes. with_known Fit (Few 30000) _ _ (bytes_in_lem 30000 ws) (λ file ws few.
    any Fit (taken rate_in ws) _ (λ rate ws. any Fit (edition_taken ws) _ (λ n ws. ended Fit ws _ ((omega (arith, ltb-true 0 part some_bytes), most, few.0), zero-le, omega (arith, few.1)))))))

in_curve : (ws : List Word) → In Fit (curve_of ws)
unfolding InRange said_length
in_curve ws =
    any Fit (double ws) _ (λ t ws. any Fit (double ws) _ (λ d ws. with_known Fit _ _ _ (count_in_lem 5000 ws) (λ n ws h. with_known Fit (Long n) _ _ (singles_in n ws) (λ xs ws e. ended Fit ws _ (h, omega arith, zero-le)))))

in_block : (by : Renderer) (ws : List Word) → In Fit (block_of by ws)
unfolding InRange said_length
in_block by ws =
    any Fit (double ws) _ (λ t ws. any Fit (double ws) _ (λ p ws. any Fit (taken (count_in (2 ^ 64 - 1)) ws) _ (λ n ws. with_known Fit _ _ _ (count_in_lem 4096 ws) (λ o ws ho. with_known Fit _ _ _ (count_in_lem 4096 ws) (λ i ws hi.
    with_known Fit (Long i) _ _ (singles_in i ws) (λ xs ws e. ended Fit ws _ ((ho, hi), omega arith, zero-le)))))))

-- ---- the table

bare_fits : (o : Option Call) → In Bare o → In Fit (bare o)
unfolding In
bare_fits None h = tt
bare_fits (Some c) h = h

-- what each row reads
abbrev EachFits : List Row → Type 0
EachFits [] = Unit
EachFits (row x read ∷ rows) = ((ws : List Word) → In Fit (read ws)) × EachFits rows

one_row : (t : Bool) (o p : Option Said) → In Fit o → In Fit p → In Fit (cond t o p)
one_row true o p here there = here
one_row false o p here there = there

found_fits : (rows : List Row) → EachFits rows → (w : Word) (ws : List Word) → In Fit (found rows w ws)
unfolding In
found_fits [] each w ws = tt
found_fits (row x read ∷ rows) each w ws = one_row (same_word w x) (read ws) (found rows w ws) (each.0 ws) (found_fits rows each.1 w ws)

timed_fits : (call : Float → Float → Call) → ((v t : Float) → Bare (call v t)) → (ws : List Word) → In Fit (bare (timed call ws))
timed_fits call one ws = bare_fits _ (in_timed call one ws)

cancelling_fits : (call : Float → Call) → ((t : Float) → Bare (call t)) → (ws : List Word) → In Fit (bare (cancelling call ws))
cancelling_fits call one ws = bare_fits _ (in_cancelling call one ws)

scheduling_fits : EachFits scheduling
unfolding InRange said_length
scheduling_fits = (
  λ ws. bare_fits _ (in_set ws),
  (
    timed_fits Call.Step (λ v t. (tt, zero-le, zero-le)),
    (
      timed_fits Call.Linear (λ v t. (tt, zero-le, zero-le)),
      (
        timed_fits Call.Exponential (λ v t. (tt, zero-le, zero-le)),
        (λ ws. bare_fits _ (in_target ws), (in_curve, (cancelling_fits Call.Cancel (λ t. (tt, zero-le, zero-le)), (cancelling_fits Call.Hold (λ t. (tt, zero-le, zero-le)), tt)))),
      ),
    ),
  ),
)

calls_fit : EachFits calls
calls_fit = (
  λ ws. bare_fits _ (in_make ws),
  (
    in_block Renderer.Fast,
    (
      in_block Renderer.Plain,
      (
        λ ws. bare_fits _ (in_lend ws),
        (
          λ ws. bare_fits _ (in_poke ws),
          (λ ws. bare_fits _ (in_state ws), (λ ws. bare_fits _ (in_save ws), (in_load, scheduling_fits))),
        ),
      ),
    ),
  ),
)

in_first : (ws : List Word) → In Fit (by_first ws)
unfolding In
in_first [] = tt
in_first (w ∷ ws) = found_fits calls calls_fit w ws

in_line : (line : List ℕ) → In Fit (call_of line)
unfolding call_of InRange said_length In
in_line [] = (tt, zero-le, zero-le)
in_line (c ∷ cs) = by_test (eqb c 35)
  where
    by_test : (t : Bool) → In Fit (cond t (Some (Call.Nothing, [], [])) (by_first (words_of (c ∷ cs))))
    by_test true = (tt, zero-le, zero-le)
    by_test false = in_first (words_of (c ∷ cs))

range_of : (call : Call) (numbers : List Float) (file : List ℕ) (o : Option Said) → In Fit o → Heard o (Some call) numbers file → InRange call
unfolding In
range_of call numbers file None fit heard = absurd (none-some call (sym heard))
range_of call numbers file (Some s) fit heard = subst InRange (sym (same_Some call s.0 heard.0)) fit.0

-- what `read_call` ensures says that its call is within the ranges
pub heard_in_range : (line : List ℕ) (call : Call) (numbers : List Float) (file : List ℕ) → Heard (call_of line) (Some call) numbers file → InRange call
heard_in_range line call numbers file h = range_of call numbers file (call_of line) (in_line line) h

-- and that it does what the line says
same_front : {A : Type 0} (n : ℕ) (xs numbers : List A) → take (length xs) numbers ≡ xs → n ≤ length xs → take n numbers ≡ take n xs
same_front n xs numbers e h = sym (take-take n (length xs) numbers h) ∙ ap (take n) e

module _ (xs numbers : List Float) (bs file : List ℕ) (e : take (length xs) numbers ≡ xs) (f : take (length bs) file ≡ bs) where
  same_turn : (c : Call) → (said_length c).0 ≤ length xs → (said_length c).1 ≤ length bs → answer_of c numbers file ≡ answer_of c xs bs
  unfolding answer_of said_length
  same_turn Call.Nothing h k = refl
  same_turn (Call.Make b rate n) h k = refl
  same_turn (Call.Set v) h k = refl
  same_turn (Call.Step v t) h k = refl
  same_turn (Call.Linear v t) h k = refl
  same_turn (Call.Exponential v t) h k = refl
  same_turn (Call.Target v t c) h k = refl
  same_turn (Call.Curve t d n) h k = ap (λ (ys : List Float). asked (rule.curve t d ys)) (same_front n xs numbers e h)
  same_turn (Call.Cancel t) h k = refl
  same_turn (Call.Hold t) h k = refl
  same_turn (Call.Block by t p n o i) h k = ap (λ (ys : List Float). playing t p n ys (marks o)) (same_front i xs numbers e h)
  same_turn (Call.Lend n) h k = refl
  same_turn (Call.Poke i v) h k = refl
  same_turn Call.State h k = refl
  same_turn Call.Save h k = refl
  same_turn (Call.Load part n rate edition) h k = ap (loading rate edition) (same_front n bs file f k)

turn_of_lem : (call : Call) (numbers : List Float) (file : List ℕ) (o : Option Said) → In Fit o → Heard o (Some call) numbers file → answer_of call numbers file ≡ said_turn o
unfolding In answer_of said_turn
turn_of_lem call numbers file None fit heard = absurd (none-some call (sym heard))
turn_of_lem call numbers file (Some s) fit heard =
    ap (λ (c : Call). answer_of c numbers file) (same_Some call s.0 heard.0) ∙ same_turn s.1 numbers s.2 file heard.1 heard.2 s.0 fit.1 fit.2

pub heard-turn : (line : List ℕ) (call : Call) (numbers : List Float) (file : List ℕ) → Heard (call_of line) (Some call) numbers file → answer_of call numbers file ≡ said_turn (call_of line)
heard-turn line call numbers file h = turn_of_lem call numbers file (call_of line) (in_line line) h

-- nothing was read
pub unheard-turn : (o : Option Said) (numbers : List Float) (file : List ℕ) → Heard o None numbers file → unread ≡ said_turn o
unfolding said_turn
unheard-turn None numbers file h = refl
unheard-turn (Some s) numbers file h = absurd (none-some s.0 h.0)
