-- How long a file can be: at most 17,867 bytes, those of 63 targets and a curve of 4,096 numbers (reading 9 of 02). Assumes nothing.
use mathlib.Core.Path.{◌≡◌, refl, ap, ◌∙◌}
use mathlib.Core.List.{List, [], ◌∷◌, ◌++◌}
use Prim.Native.Nat.{ℕ, zero, suc, ◌+◌, ◌*◌, ◌≤◌, ◌<◌}
use native.Mathlib.Omega.{arith}
use lib.ListN.{length, length-append}
use lib.Ieee.{Float}
use Rattle.rules.specs.declared.Bounds.{Bounds}
use Rattle.rules.specs.declared.Event.{Event}
use Rattle.rules.specs.Numbers.{most_events, store_length}
use Rattle.rules.specs.Queue.{Waiting, numbers_of, attached, length_of, lengths_of}
use Rattle.rules.specs.Block.{Param}
use Rattle.laws.specs.Fits.{AllFit}
use Rattle.laws.specs.Sound.{Sound}
use Rattle.laws.proofs.Store.{attached_fits, attached-length, attached-numbers}
use Rattle.words.specs.Words.{single_bytes, double_bytes, numbers_bytes}
use Rattle.card.specs.Card.{range_field, event_field, fields_of, file_of}
use Rattle.card.specs.Back.{most_bytes}
use Rattle.card.proofs.Written.{field_long, value_long, target_long, curve_long, bounds_long}

-- ---- a field

pub range_size : (b : Bounds) → length (range_field b) ≡ 15
unfolding range_field
range_size b = field_long 6 (single_bytes b.min ++ (single_bytes b.default ++ single_bytes b.max)) [] ∙ ap (λ (n : ℕ). 3 + n) (bounds_long b.min b.default b.max)

-- how many bytes an event's field has
unfoldable pub size_of : Event → ℕ → ℕ
size_of (Event.Step v t) n = 15
size_of (Event.Linear v t h) n = 15
size_of (Event.Exponential v t h) n = 15
size_of (Event.Target v t c h) n = 23
size_of (Event.Curve s d m h) n = 19 + 4 * n

pub event_size : (e : Event) (xs : List Float) → length (event_field e xs) ≡ size_of e (length xs)
unfolding event_field size_of
event_size (Event.Step v t) xs = field_long 1 (single_bytes v ++ double_bytes t) [] ∙ ap (λ (n : ℕ). 3 + n) (value_long v t)
event_size (Event.Linear v t h) xs = field_long 2 (single_bytes v ++ double_bytes t) [] ∙ ap (λ (n : ℕ). 3 + n) (value_long v t)
event_size (Event.Exponential v t h) xs = field_long 3 (single_bytes v ++ double_bytes t) [] ∙ ap (λ (n : ℕ). 3 + n) (value_long v t)
event_size (Event.Target v t c h) xs = field_long 4 (single_bytes v ++ (double_bytes t ++ double_bytes c)) [] ∙ ap (λ (n : ℕ). 3 + n) (target_long v t c)
event_size (Event.Curve s d m h) xs =
    let n = field_long 5 (double_bytes s ++ (double_bytes d ++ numbers_bytes xs)) [] in
    let k = curve_long s d xs in
    omega (arith, n, k)

-- a target is the longest, but for a curve's numbers; where it has numbers it is 4 shorter
size_most : (e : Event) (n : ℕ) → n ≡ length_of e → (size_of e n ≤ 23 + 4 * n) × (0 < n → size_of e n + 4 ≤ 23 + 4 * n)
unfolding size_of length_of
size_most (Event.Step v t) n f = (omega arith, λ some. omega (arith, f, some))
size_most (Event.Linear v t h) n f = (omega arith, λ some. omega (arith, f, some))
size_most (Event.Exponential v t h) n f = (omega arith, λ some. omega (arith, f, some))
size_most (Event.Target v t c h) n f = (omega arith, λ some. omega (arith, f, some))
size_most (Event.Curve s d m h) n f = (omega arith, λ some. omega arith)

-- ---- the file

shorter : (k n l s m : ℕ) → s ≤ 23 + 4 * k → (0 < k → s + 4 ≤ 23 + 4 * k) → l ≤ 23 * n + 4 * m → (0 < m → l + 4 ≤ 23 * n + 4 * m) → 0 < k + m
    → s + l + 4 ≤ 23 * suc n + 4 * (k + m)
shorter zero n l s m a b c d some = let less = d (omega (arith, some)) in omega (arith, a, less)
shorter (suc k) n l s m a b c d some = let less = b (omega arith) in omega (arith, less, c)

fields_most : (ws : List Waiting) → AllFit ws
    → (length (fields_of ws) ≤ 23 * length ws + 4 * length (numbers_of ws)) × (0 < length (numbers_of ws) → length (fields_of ws) + 4 ≤ 23 * length ws + 4 * length (numbers_of ws))
unfolding fields_of numbers_of
fields_most [] fit = (omega arith, λ some. absurd (omega (arith, some)))
fields_most (w ∷ ws) fit =
    let n = length-append (event_field w.event w.numbers) (fields_of ws) in
    let m = length-append w.numbers (numbers_of ws) in
    let size = event_size w.event w.numbers in
    let one = size_most w.event (length w.numbers) fit.0 in
    let more = fields_most ws fit.1 in (
      omega (arith, n, m, size, one.0, more.0),
      λ some. omega (arith, n, m, size, shorter (length w.numbers) (length ws) (length (fields_of ws)) (size_of w.event (length w.numbers)) (length (numbers_of ws)) one.0 one.1 more.0 more.1 (omega (arith, m, some))),
    )

pub file_bound : (b : Bounds) (ws : List Waiting) → AllFit ws → length ws ≤ most_events → length (numbers_of ws) ≤ store_length → length (file_of b ws) ≤ most_bytes
unfolding file_of
file_bound b ws fit few room =
    let n = length-append (range_field b) (fields_of ws) in
    let h = range_size b in
    let more = fields_most ws fit in
    go (length (numbers_of ws)) refl more.1 more.0 n h
  where
    go : (k : ℕ) → length (numbers_of ws) ≡ k → (0 < length (numbers_of ws) → length (fields_of ws) + 4 ≤ 23 * length ws + 4 * length (numbers_of ws))
        → length (fields_of ws) ≤ 23 * length ws + 4 * length (numbers_of ws)
        → length (range_field b ++ fields_of ws) ≡ length (range_field b) + length (fields_of ws) → length (range_field b) ≡ 15 → length (range_field b ++ fields_of ws) ≤ most_bytes
    go zero e some most n h = omega (arith, e, most, n, h, few)
    go (suc k) e some most n h = let four = some (omega (arith, e)) in omega (arith, four, n, h, few, room)

-- "A written file has at most 17,867 bytes"
pub written_bound : (p : Param) (store : List Float) → Sound p → length store ≡ store_length → length (file_of p.bounds (attached p.queue store)) ≤ most_bytes
written_bound p store s lent =
    let room : lengths_of p.queue ≤ length store = omega (arith, s.waiting.room, lent) in
    file_bound p.bounds (attached p.queue store) (attached_fits p.queue store room)
    (omega (arith, attached-length p.queue store, s.waiting.few)) (omega (arith, attached-numbers p.queue store room, s.waiting.room))
