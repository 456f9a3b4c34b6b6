-- What the calls do that an event's field stands for. Assumes nothing.
use Rattle.std.proofs.Common.{Result, Ok, Err}
use Rattle.rules.specs.declared.Refusal.{Refusal}
use mathlib.Core.Path.{◌≡◌, refl, sym, ap, ◌∙◌}
use mathlib.Core.Bool.{Bool, true, false, cond, ◌&&◌}
use mathlib.Core.List.{List, []}
use Prim.Native.Nat.{ℕ, zero, suc, ◌+◌, ◌<◌}
use native.Mathlib.Omega.{arith}
use lib.Dec.{eqb}
use lib.ListN.{length, replicate}
use lib.Ieee.{Float}
use borrow.Author.Tests.{lt-ltb, le-ltb}
use Rattle.rules.specs.declared.Event.{Event}
use Rattle.rules.specs.Numbers.{store_length, is_finite}
use Rattle.rules.specs.Queue.{Waiting, filed_under, lengths_of, attached, place_behind, arrived, inserted}
use Rattle.rules.specs.Refusals.{lowest, all_finite, curve_rows}
use Rattle.rules.specs.Block.{Param, Command, step, linear, exponential, target, curve, Called, called, scheduled_as, called_as}
use Rattle.laws.proofs.Events.{put-length, events_attached, events_inserted}
use Rattle.laws.proofs.Rows.{curve_answered}
use Rattle.laws.proofs.Answers.{refused_called, unlent}
use Rattle.param.specs.declared.AudioParam.{AudioParam}
use Rattle.param.specs.declared.Outcome.{Outcome}
use Rattle.param.specs.Param.{param_of, struct_of, SoundParam, Answers}
use Rattle.words.specs.Words.{single_at, double_at, singles_at}
use Rattle.card.specs.Card.{tag_of, numbers_in, event_in}
use Rattle.card.proofs.Fields.{step_in, linear_in, exponential_in, target_in, curve_in_lem}

-- what a call answers, by another account of it
answers : {p : AudioParam} {s after : List Float} {c : Command} {r : Outcome} {k : Called} → called (param_of p) s c ≡ k → r.verdict ≡ k.verdict → r.param ≡ struct_of k.param
    → after ≡ k.store → SoundParam r.param → Answers p s c r after
answers e verdict param left sound =
    record {
      verdict = verdict ∙ ap (λ (x : Called). x.verdict) (sym e);
      param = param ∙ ap (λ (x : Called). struct_of x.param) (sym e);
      left = left ∙ ap (λ (x : Called). x.store) (sym e);
      sound = sound;
    }

-- ---- a call that is not lent the store

module _ {p : AudioParam} {s : List Float} {r : Outcome} where
  beside : {c : Command} → called (param_of p) s c ≡ record { verdict = (called (param_of p) [] c).verdict; param = (called (param_of p) [] c).param; store = s }
      → Answers p [] c r [] → Answers p s c r s
  beside e a = answers e a.verdict a.param refl a.sound

  module _ (bs : List ℕ) {v t : Float} (value : v ≡ single_at bs 3) (time : t ≡ double_at bs 7) where
    pub does_step : tag_of bs ≡ 1 → Answers p [] (step v t) r [] → Answers p s (event_in bs) r s
    unfolding called
    does_step tag a = rw (step_in bs tag, ← value, ← time) (beside (unlent _ (param_of p) s _) a)

    pub does_linear : tag_of bs ≡ 2 → Answers p [] (linear v t) r [] → Answers p s (event_in bs) r s
    unfolding called
    does_linear tag a = rw (linear_in bs tag, ← value, ← time) (beside (unlent _ (param_of p) s _) a)

    pub does_exponential : tag_of bs ≡ 3 → Answers p [] (exponential v t) r [] → Answers p s (event_in bs) r s
    unfolding called
    does_exponential tag a = rw (exponential_in bs tag, ← value, ← time) (beside (unlent _ (param_of p) s _) a)

    pub does_target : {c : Float} → c ≡ double_at bs 15 → tag_of bs ≡ 4 → Answers p [] (target v t c) r [] → Answers p s (event_in bs) r s
    unfolding called
    does_target constant tag a = rw (target_in bs tag, ← value, ← time, ← constant) (beside (unlent _ (param_of p) s _) a)

-- ---- a call that is

module _ {p : AudioParam} {s after : List Float} {r : Outcome} where
  pub does_curve : (bs : List ℕ) {t d : Float} {xs : List Float} → tag_of bs ≡ 5 → t ≡ double_at bs 3 → d ≡ double_at bs 11 → xs ≡ singles_at bs 19 (numbers_in bs)
      → Answers p s (curve t d xs) r after → Answers p s (event_in bs) r after
  does_curve bs tag start duration numbers a = rw (curve_in_lem bs tag, ← start, ← duration, ← numbers) a

-- ---- a curve that has no room whatever waits

module _ (p : Param) (store : List Float) (t d : Float) (xs ys : List Float) (many : store_length < length xs) (more : store_length < length ys)
    (alike : all_finite xs ≡ all_finite ys) where
  long_verdict : lowest (curve_rows p.queue store t d xs) ≡ lowest (curve_rows p.queue store t d ys)
  unfolding curve_rows all_finite
  long_verdict =
      rw (alike, le-ltb (length xs) 2 (omega arith), le-ltb (length ys) 2 (omega arith), lt-ltb store_length (lengths_of p.queue + length xs) (omega arith), lt-ltb store_length (lengths_of p.queue + length ys) (omega arith))

  -- two such are refused alike, if both have a number that is not finite, or neither
  pub long_alike : called p store (curve t d xs) ≡ called p store (curve t d ys)
  unfolding called
  long_alike = go (lowest (curve_rows p.queue store t d ys)) refl
    where
      go : (v : Result Unit Refusal) → lowest (curve_rows p.queue store t d ys) ≡ v → called p store (curve t d xs) ≡ called p store (curve t d ys)
      go (Ok _) e = absurd (omega (arith, (curve_answered p.queue store t d ys e).room))
      go (Err why) e = refused_called _ p store _ _ why (long_verdict ∙ e) ∙ sym (refused_called _ p store _ _ why e)

pub does_long : {p : AudioParam} {s after : List Float} {r : Outcome} {t d : Float} (xs ys : List Float) → store_length < length xs → store_length < length ys
    → all_finite xs ≡ all_finite ys → Answers p s (curve t d ys) r after → Answers p s (curve t d xs) r after
does_long {p} {s} {after} {r} {t} {d} xs ys many more alike a = answers (long_alike (param_of p) s t d xs ys many more alike) a.verdict a.param a.left a.sound

-- equal numbers are all finite if one is
pub alike_finite : (n : ℕ) (x : Float) → all_finite (replicate (suc n) x) ≡ is_finite x
unfolding all_finite
alike_finite n x = go (is_finite x) refl n
  where
    go : (b : Bool) → is_finite x ≡ b → (n : ℕ) → all_finite (replicate (suc n) x) ≡ is_finite x
    go false e n = rw e
    go true e zero = rw e
    go true e (suc n) = ap (λ (b : Bool). b && all_finite (replicate (suc n) x)) e ∙ go true e n

-- ---- one event more waits where a call is answered

abbrev Longer : Param → Called → Type 0
Longer p k = k.verdict ≡ Ok tt → length k.param.queue ≡ suc (length p.queue)

scheduled_longer : (v : Result Unit Refusal) (p : Param) (s : List Float) (e : Event) → Longer p (scheduled_as v p s e)
unfolding scheduled_as arrived
scheduled_longer (Ok _) p s e h = put-length (place_behind (filed_under e) p.queue) e p.queue
scheduled_longer (Err why) p s e h = let z : ◌≡◌ {A = ℕ} 0 1 = cc in absurd (omega arith)

curve_longer : (v : Result Unit Refusal) (p : Param) (s : List Float) (w : Waiting) (i : Float) → Longer p (called_as v p s (inserted w (attached p.queue s)) i)
unfolding called_as arrived
curve_longer (Ok _) p s w i h =
    rw (events_inserted w (attached p.queue s), events_attached p.queue s) (put-length (place_behind (filed_under w.event) p.queue) w.event p.queue)
curve_longer (Err why) p s w i h = let z : ◌≡◌ {A = ℕ} 0 1 = cc in absurd (omega arith)

pub event_longer : (bs : List ℕ) (p : Param) (s : List Float) → Longer p (called p s (event_in bs))
unfolding event_in called
event_longer bs p s =
    one (eqb (tag_of bs) 1) _ _ (scheduled_longer _ p s _)
    (one (eqb (tag_of bs) 2) _ _ (scheduled_longer _ p s _)
    (one (eqb (tag_of bs) 3) _ _ (scheduled_longer _ p s _) (one (eqb (tag_of bs) 4) _ _ (scheduled_longer _ p s _) (curve_longer _ p s _ _))))
  where
    one : (b : Bool) (c d : Command) → Longer p (called p s c) → Longer p (called p s d) → Longer p (called p s (cond b c d))
    one true c d h k = h
    one false c d h k = k
