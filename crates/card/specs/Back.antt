-- 02, C-11: "What the writer writes, the reader gives back, event for event; what the reader accepts, the writer writes to the same bytes."
use Rattle.std.specs.Prelude.{◌≡◌, Bool, true, false, ◌||◌, List, [], ◌∷◌, ℕ, T, length, Float, Option, Some, None, Ok}
use Rattle.std.specs.Float.{binary32, binary64}
use Rattle.std.specs.Float.Ieee.{fits}
use Rattle.rules.specs.declared.Bounds.{Bounds}
use Rattle.rules.specs.declared.AutomationRate.{AutomationRate}
use Rattle.rules.specs.declared.Event.{Event}
use Rattle.rules.specs.Queue.{Waiting, filed_under, events_of, packed, attached}
use Rattle.rules.specs.Block.{Command, step, linear, exponential, target, curve, Param, fresh, with_queue, edition_of}
use Rattle.laws.specs.Sound.{Sound}
use Rattle.laws.specs.Apart.{are_apart}
use Rattle.words.specs.Words.{AreSingles}
use Rattle.card.specs.Card.{Reader, file_of, is_unwritable, judged}

-- ---- floats of their formats, as code has them

unfoldable pub FitEvent : Event → Type 0
FitEvent (Event.Step v t) = T (fits binary32 v) × T (fits binary64 t)
FitEvent (Event.Linear v t h) = T (fits binary32 v) × T (fits binary64 t)
FitEvent (Event.Exponential v t h) = T (fits binary32 v) × T (fits binary64 t)
FitEvent (Event.Target v t c h) = T (fits binary32 v) × (T (fits binary64 t) × T (fits binary64 c))
FitEvent (Event.Curve s d n h) = T (fits binary64 s) × T (fits binary64 d)

unfoldable pub FitWaiting : List Waiting → Type 0
FitWaiting [] = Unit
FitWaiting (w ∷ ws) = (FitEvent w.event × AreSingles w.numbers) × FitWaiting ws

abbrev pub FitBounds : Bounds → Type 0
FitBounds b = T (fits binary32 b.min) × (T (fits binary32 b.default) × T (fits binary32 b.max))

-- ---- what cannot be written

unfoldable pub any_unwritable : List Waiting → Bool
any_unwritable [] = false
any_unwritable (w ∷ ws) = is_unwritable w || any_unwritable ws

-- ---- the call that an event's field stands for

unfoldable pub command_of : Event → List Float → Command
command_of (Event.Step v t) xs = step v t
command_of (Event.Linear v t h) xs = linear v t
command_of (Event.Exponential v t h) xs = exponential v t
command_of (Event.Target v t c h) xs = target v t c
command_of (Event.Curve s d n h) xs = curve s d xs

-- ---- a parameter before its first block

-- what holds of each one that is reached by accepted calls before its first block
pub record Unplayed (p : Param) : Type 0 where
  pub sound : Sound p
  pub apart : are_apart p.queue ≡ true
  pub new : p ≡ with_queue p.queue (fresh p.bounds p.rate p.edition)

-- ---- the reader behind the range and these events

unfoldable pub last_time : List Event → Option Float
last_time [] = None
last_time (e ∷ []) = Some (filed_under e)
last_time (e ∷ d ∷ es) = last_time (d ∷ es)

abbrev pub behind : AutomationRate → ℕ → Bounds → List Waiting → Reader
behind rate n b ws =
    record {
      rate = rate;
      edition = n;
      ranged = true;
      param = with_queue (events_of ws) (fresh b rate (edition_of n));
      store = packed ws;
      before = last_time (events_of ws);
      offset = length (file_of b ws);
      verdict = (Ok tt);
    }

-- ---- a file that was read, written again

-- the parameter and the store that it gave are written to its bytes
pub record Rewritten (file : List ℕ) (p : Param) (store : List Float) : Type 0 where
  pub answered : (judged p store).verdict ≡ Ok tt
  pub bytes : file_of p.bounds (attached p.queue store) ≡ file

-- "A written file has at most 17,867 bytes (63 targets and a curve of 4,096 numbers)" (reading 9)
abbrev pub most_bytes : ℕ
most_bytes = 17867
