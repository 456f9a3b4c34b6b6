-- An event that is not earlier than the last stands behind all others, and its time is as it was given. Assumes nothing.
use Rattle.std.proofs.Common.{Some}
use mathlib.Core.Path.{◌≡◌, refl, sym, ap, ◌∙◌}
use mathlib.Core.Bool.{Bool, true, false, cond, not, ◌&&◌, ◌||◌}
use mathlib.Core.List.{List, [], ◌∷◌, ◌++◌, append-nil}
use Prim.Native.Nat.{zero, suc, ◌*◌, ◌^◌, ◌<◌}
use native.Mathlib.Nat.{pow-suc, mul-pos, zero-lt-suc, zero-mul}
use native.Mathlib.Omega.{arith}
use lib.Dec.{T, eqb, eqb→eq}
use lib.ListN.{length}
use lib.Seq.{take-length, drop-length}
use lib.IntN.{ℤ, pos, negsuc}
use lib.Ieee as Ieee
use lib.Ieee.{Float, nan, inf, fin, binary64, fits, up, down}
use lib.Ieee.Fits.{up_pos}
use borrow.Author.Tests.{eqb-true}
use Rattle.rules.specs.declared.Event.{Event}
use Rattle.rules.specs.Numbers.{plus_zero, is_zero, taken_time}
use Rattle.rules.specs.Queue.{Waiting, filed_under, events_of, numbers_of, packed, has_not_later, place_behind, put_at, inserted, arrived}
use Rattle.rules.specs.Refusals.{is_earlier}
use Rattle.laws.specs.Sound.{is_number, is_from_zero, are_clear}
use Rattle.laws.proofs.Tests.{never}
use Rattle.laws.proofs.Order.{not_lt}
use Rattle.laws.proofs.Clear.{all-parts, clear_number}
use Rattle.laws.proofs.Events.{events_length, events_inserted}
use Rattle.laws.proofs.Store.{numbers-append}
use Rattle.card.specs.Card.{is_minus_zero}
use Rattle.card.specs.Back.{last_time}

-- ---- its time

-- of the zeros that a format has, the one that is not -0
one_zero : (e : ℤ) → T (eqb (up e * down e) 1) → fin false 0 e ≡ plus_zero
one_zero (pos zero) h = refl
one_zero (pos (suc a)) h =
    let one : 2 ^ suc a * 1 ≡ 1 = eqb→eq (2 ^ suc a * 1) 1 h in
    let two : 2 ^ suc a ≡ 2 ^ a * 2 = pow-suc 2 a in
    absurd (omega (arith, one, two))
one_zero (negsuc a) h =
    let one : 1 * 2 ^ suc a ≡ 1 = eqb→eq (1 * 2 ^ suc a) 1 h in
    let two : 2 ^ suc a ≡ 2 ^ a * 2 = pow-suc 2 a in
    absurd (omega (arith, one, two))

-- "a time of −0 .. is taken as 0", and no other is touched
pub taken_is : (t : Float) → T (fits binary64 t) → is_minus_zero t ≡ false → taken_time t ≡ t
unfolding taken_time is_minus_zero is_zero is_from_zero fits Ieee.eq
taken_is nan f h = refl
taken_is (inf s) f h = refl
taken_is (fin true m e) f h = go (is_zero (fin true m e)) h
  where
    go : (z : Bool) → (z && not (is_from_zero (fin true m e))) ≡ false → cond z plus_zero (fin true m e) ≡ fin true m e
    go true k = never (sym k)
    go false k = refl
taken_is (fin false zero e) f h = go (is_zero (fin false zero e))
  where
    go : (z : Bool) → cond z plus_zero (fin false zero e) ≡ fin false zero e
    go true = sym (one_zero e f)
    go false = refl
taken_is (fin false (suc m) e) f h = go (eqb (suc m * up e * 1) (0 * 1 * down e)) refl
  where
    go : (z : Bool) → eqb (suc m * up e * 1) (0 * 1 * down e) ≡ z → cond (z && true) plus_zero (fin false (suc m) e) ≡ fin false (suc m) e
    go true k =
        let none : suc m * up e * 1 ≡ 0 * 1 * down e = eqb-true (suc m * up e * 1) (0 * 1 * down e) k in
        let some : 0 < suc m * up e = mul-pos (zero-lt-suc m) (up_pos e) in
        absurd (omega (arith, none, some, zero-mul (down e)))
    go false k = refl

-- ---- its place

pub or_true : (b : Bool) → (b || true) ≡ true
or_true true = refl
or_true false = refl

module _ (t : Float) (number : is_number t ≡ true) where
  not_later : (e : Event) (q : List Event) → are_clear (e ∷ q) ≡ true → is_earlier (last_time (e ∷ q)) t ≡ false → has_not_later t (e ∷ q) ≡ true
  unfolding has_not_later last_time is_earlier
  not_later e [] k h = rw (not_lt t (filed_under e) number (clear_number e (all-parts _ e [] k).0) h) refl
  not_later e (d ∷ q) k h = rw (not_later d q (all-parts _ e (d ∷ q) k).1 h) (or_true (Ieee.le (filed_under e) t))

  place_last : (q : List Event) → are_clear q ≡ true → is_earlier (last_time q) t ≡ false → place_behind t q ≡ length q
  unfolding place_behind last_time
  place_last [] k h = refl
  place_last (e ∷ []) k h = rw (not_later e [] k h) refl
  place_last (e ∷ d ∷ q) k h = rw (not_later e (d ∷ q) k h) (ap suc (place_last (d ∷ q) (all-parts _ e (d ∷ q) k).1 h))

module _ (w : Waiting) (ws : List Waiting) (number : is_number (filed_under w.event) ≡ true) (clear : are_clear (events_of ws) ≡ true)
    (order : is_earlier (last_time (events_of ws)) (filed_under w.event) ≡ false) where
  pub inserted_last : inserted w ws ≡ ws ++ (w ∷ [])
  unfolding inserted put_at
  inserted_last = rw (place_last (filed_under w.event) number (events_of ws) clear order, events_length ws, take-length ws, drop-length ws) refl

  pub arrived_last : arrived w.event (events_of ws) ≡ events_of (ws ++ (w ∷ []))
  arrived_last = sym (events_inserted w ws) ∙ ap events_of inserted_last

-- one that has no numbers leaves the store as it is
pub packed-alone : (w : Waiting) (ws : List Waiting) → w.numbers ≡ [] → packed (ws ++ (w ∷ [])) ≡ packed ws
unfolding packed numbers_of
packed-alone w ws h = rw (numbers-append ws (w ∷ []), h, append-nil (numbers_of ws)) refl

-- the last of these
pub last_time_lem : (q : List Event) (e : Event) → last_time (q ++ (e ∷ [])) ≡ Some (filed_under e)
unfolding last_time
last_time_lem [] e = refl
last_time_lem (d ∷ []) e = refl
last_time_lem (d ∷ c ∷ q) e = last_time_lem (c ∷ q) e
