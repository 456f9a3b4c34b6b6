-- Events written one behind the other, and read again. Assumes nothing.
use Rattle.std.proofs.Common.{Option, Some, None}
use mathlib.Core.Path.{◌≡◌, refl, sym, ap, ◌∙◌}
use mathlib.Core.List.{List, [], ◌∷◌, ◌++◌, append_assoc, append-nil}
use Prim.Native.Nat.{ℕ, zero, suc, ◌+◌, ◌*◌, ◌≤◌, ◌<◌}
use native.Mathlib.Nat.{add-zero, zero-add}
use native.Mathlib.Numerals.{add-one}
use native.Mathlib.Omega.{arith}
use lib.ListN.{length, get_or, set, take, get_or-append, length-append}
use lib.Seq.{sets-eq, get_or-append-add, get_or-take}
use lib.Ieee.{Float, Format, binary32, binary64, to_bits}
use Rattle.rules.specs.declared.Event.{Event}
use Rattle.text.specs.Floats.{of_word}
use Rattle.coding.specs.Coding.{event_words, place_of, time_in, event_of, event_at, events_in, flag_of, bits_of, words_of, words_for, written_at, TimeBits, PutsWords, PutsEvent}

-- what `bits` ensures of a float: its bits give it back
abbrev pub Bits : Format → Float → ℕ → Type 0
Bits f x n = record { is : n ≡ to_bits f x; back : of_word f (to_bits f x) ≡ x }

-- ---- one event

pub six : (e : Event) → length (words_of e) ≡ event_words
unfolding words_of
six (Event.Step v t) = refl
six (Event.Linear v t h) = refl
six (Event.Exponential v t h) = refl
six (Event.Target v t c h) = refl
six (Event.Curve s d n h) = refl

module _ {s after : List ℕ} {at : ℕ} where
  pub puts_words : {kind word other : ℕ} (time : Float) (hold : Option Float) {a f b : ℕ} → after ≡ written_at s at (kind ∷ word ∷ a ∷ other ∷ f ∷ b ∷ []) → Bits binary64 time a
      → f ≡ flag_of hold → TimeBits hold b → PutsWords s at kind word time other hold after
  puts_words time hold w a f b = record { is = w ∙ rw (a.is, f, b.is); time_back = a.back; hold_back = b.back }

  puts : (e : Event) {ws : List ℕ} → after ≡ written_at s at ws → ws ≡ words_of e → event_at (words_of e) 0 ≡ e → PutsEvent s at e after
  puts e a w b = record { is = a ∙ ap (written_at s at) w; back = b }

  pub puts_step : {v t : Float} {a : ℕ} → PutsWords s at 0 a t 0 None after → Bits binary32 v a → PutsEvent s at (Event.Step v t) after
  unfolding words_of event_of
  puts_step {v} {t} p a = puts (Event.Step v t) p.is (rw a.is) (rw (a.back, p.time_back))

  pub puts_linear : {v t : Float} {h : Option Float} {a : ℕ} → PutsWords s at 1 a t 0 h after → Bits binary32 v a → PutsEvent s at (Event.Linear v t h) after
  unfolding words_of event_of
  puts_linear {v} {t} {h} p a = puts (Event.Linear v t h) p.is (rw a.is) (rw (a.back, p.time_back, p.hold_back))

  pub puts_exponential : {v t : Float} {h : Option Float} {a : ℕ} → PutsWords s at 2 a t 0 h after → Bits binary32 v a → PutsEvent s at (Event.Exponential v t h) after
  unfolding words_of event_of
  puts_exponential {v} {t} {h} p a = puts (Event.Exponential v t h) p.is (rw a.is) (rw (a.back, p.time_back, p.hold_back))

  pub puts_target : {v t c : Float} {h : Option Float} {a o : ℕ} → PutsWords s at 3 a t o h after → Bits binary32 v a → Bits binary64 c o → PutsEvent s at (Event.Target v t c h) after
  unfolding words_of event_of
  puts_target {v} {t} {c} {h} p a o = puts (Event.Target v t c h) p.is (rw (a.is, o.is)) (rw (a.back, p.time_back, o.back, p.hold_back))

  pub puts_curve : {x d : Float} {n : ℕ} {h : Option Float} {o : ℕ} → PutsWords s at 4 n x o h after → Bits binary64 d o → PutsEvent s at (Event.Curve x d n h) after
  unfolding words_of event_of
  puts_curve {x} {d} {n} {h} p o = puts (Event.Curve x d n h) p.is (rw o.is) (rw (p.time_back, o.back, p.hold_back))

-- six stores, one behind the other
pub puts_six : (s : List ℕ) (at a b c d e f : ℕ) → at + 6 ≤ length s
    → set (set (set (set (set (set s at a) (at + 1) b) (at + 2) c) (at + 3) d) (at + 4) e) (at + 5) f ≡ written_at s at (a ∷ b ∷ c ∷ d ∷ e ∷ f ∷ [])
puts_six s at a b c d e f h =
    let n1 : at + 1 ≡ suc at = omega arith in
    let n2 : at + 2 ≡ suc (suc at) = omega arith in
    let n3 : at + 3 ≡ suc (suc (suc at)) = omega arith in
    let n4 : at + 4 ≡ suc (suc (suc (suc at))) = omega arith in
    let n5 : at + 5 ≡ suc (suc (suc (suc (suc at)))) = omega arith in
    rw (n1, n2, n3, n4, n5) (sets-eq (a ∷ b ∷ c ∷ d ∷ e ∷ f ∷ []) s at h)

-- ---- a time that may be missing

pub missing_bits : TimeBits None 0
unfolding flag_of bits_of time_in
missing_bits = record { is = refl; back = refl }

pub time_bits : {t : Float} {n : ℕ} → Bits binary64 t n → TimeBits (Some t) n
unfolding flag_of bits_of time_in
time_bits b = record { is = b.is; back = ap Some b.back }

-- ---- where an event is read

at_same : (a b : List ℕ) (i j : ℕ) → ((k : ℕ) → k < 6 → get_or a (i + k) 0 ≡ get_or b (j + k) 0) → event_at a i ≡ event_at b j
at_same a b i j h =
    let z : get_or a i 0 ≡ get_or b j 0 = ap (λ (n : ℕ). get_or a n 0) (sym (add-zero i)) ∙ h 0 (omega arith) ∙ ap (λ (n : ℕ). get_or b n 0) (add-zero j) in
    rw (z, h 1 (omega arith), h 2 (omega arith), h 3 (omega arith), h 4 (omega arith), h 5 (omega arith))

-- behind what stands before it
pub event_behind : (front : List ℕ) (e : Event) (rest : List ℕ) (at : ℕ) → length front ≡ at → event_at (front ++ words_of e ++ rest) at ≡ event_at (words_of e) 0
event_behind front e rest at l =
    at_same (front ++ words_of e ++ rest) (words_of e) at 0
    (λ k h.
    let m : k < length (words_of e) = omega (arith, six e) in
    rw (append_assoc, ← l, get_or-append-add front (words_of e ++ rest) k 0, get_or-append (words_of e) rest 0 k m)
    (ap (λ (n : ℕ). get_or (words_of e) n 0) (sym (zero-add k))))

-- only the numbers before its end count
event_front : (s : List ℕ) (m at : ℕ) → at + 6 ≤ m → event_at (take m s) at ≡ event_at s at
event_front s m at h = at_same (take m s) s at at (λ k l. get_or-take m s (at + k) 0 (omega arith))

pub events_front : (s : List ℕ) (m n : ℕ) → place_of n ≤ m → events_in (take m s) n ≡ events_in s n
unfolding events_in
events_front s m zero h = refl
events_front s m (suc n) h = rw (events_front s m n (omega arith), event_front s m (place_of n) (omega arith))

-- ---- one event more

pub events_more : (s : List ℕ) (i : ℕ) → events_in s (i + 1) ≡ events_in s i ++ (event_at s (place_of i) ∷ [])
unfolding events_in
events_more s i = rw add-one

pub words_more : (q : List Event) (e : Event) → words_for (q ++ (e ∷ [])) ≡ words_for q ++ words_of e
unfolding words_for
words_more [] e = append-nil (words_of e)
words_more (d ∷ q) e = rw (words_more q e) (sym (append_assoc (words_of d) (words_for q) (words_of e)))

pub words_length : (q : List Event) → length (words_for q) ≡ event_words * length q
unfolding words_for
words_length [] = refl
words_length (e ∷ q) = simp length-append (omega (arith, six e, words_length q))
