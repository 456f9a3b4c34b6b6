-- What is left of the places of a block: by a run that is lent the places to fill, and by one value written to each. Assumes nothing.
use mathlib.Core.Path.{◌≡◌, refl, sym, ap, ◌∙◌, subst}
use mathlib.Core.Bool.{Bool, true, false}
use mathlib.Core.List.{List, [], ◌∷◌, ◌++◌, append_assoc, append-nil}
use Prim.Native.Nat.{ℕ, zero, suc, ◌+◌, ◌-◌, ◌≤◌, ◌<◌}
use native.Mathlib.Numerals.{add-one}
use native.Mathlib.Omega.{arith}
use lib.ListN.{length, take, drop, get_or, set, replicate, length-set, length-append, length-replicate, replicate-append-replicate, take-append-drop}
use lib.Seq.{length-take-le, take-suc-set, take_at, drop-cons, set_at}
use lib.Ieee.{Float}
use borrow.Author.Tests.{leb-true, leb-false}
use borrow.Rule.Slice.PartMut.{mid_of, post_of, put_mid, mid_len, same_len_mid, Post-is}
use Rattle.rules.specs.declared.AutomationRate.{AutomationRate}
use Rattle.rules.specs.declared.AutomationRate.TheVariants as Rate
use Rattle.rules.specs.declared.BlockInfos.{BlockInfos}
use Rattle.rules.specs.Numbers.{run, filled, time_at}
use Rattle.laws.proofs.Tests.{never}
use Rattle.laws.proofs.Places.{run_length, fill_a, fill_k, fill_alike}
use Rattle.fills.specs.Filled.{Room, Filled, writes_none}

-- ---- what a run fills, by the rate

-- at A-rate
filled_a : (f : BlockInfos) (sample : Float → Float) {from to : ℕ} {b : List Float} → Room from to b → f.rate ≡ Rate.A
    → filled f to sample (take from b) ≡ take from b ++ run sample f.dt (to - from) (time_at f from)
filled_a f sample {from} {to} {b} room r =
    fill_a f to sample (take from b) r
    ∙ ap (λ (k : ℕ). take from b ++ run sample f.dt (to - k) (time_at f k)) (length-take-le from b room.filled)

-- where something is written
is_a : (r : AutomationRate) (from to : ℕ) → writes_none r from to ≡ false → r ≡ Rate.A
unfolding writes_none
is_a Rate.A from to h = refl
is_a Rate.K from to h = never (sym h)

ahead : (r : AutomationRate) (from to : ℕ) → writes_none r from to ≡ false → from ≤ to
unfolding writes_none
ahead Rate.A from to h = omega (arith, leb-false to from h)
ahead Rate.K from to h = never (sym h)

-- where nothing is
nothing : (f : BlockInfos) (sample : Float → Float) {from to : ℕ} {b : List Float} → Room from to b → (r : AutomationRate) → f.rate ≡ r → writes_none r from to ≡ true
    → filled f to sample (take from b) ≡ take from b
unfolding writes_none run
nothing f sample {from} {to} {b} room Rate.A e w =
    let z : to - from ≡ 0 = omega (arith, leb-true to from w) in
    filled_a f sample room e ∙ rw z (append-nil (take from b))
nothing f sample {from} {to} {b} room Rate.K e w = fill_k f to sample (take from b) e

-- ---- one value written place by place: it is at place i, the buffer was b and is s

pub record Along (v : Float) (from to : ℕ) (b : List Float) (i : ℕ) (s : List Float) : Type 0 where
  pub past : from ≤ i
  pub upto : i ≤ to
  pub room : to ≤ length b
  pub whole : length s ≡ length b
  pub values : take i s ≡ take from b ++ replicate (i - from) v

pub goes_on : {v : Float} {from to : ℕ} {b : List Float} {i : ℕ} {s : List Float} → Along v from to b i s → i < to → Along v from to b (i + 1) (set s i v)
goes_on {v} {from} {to} {b} {i} {s} a h =
    let k : i + 1 - from ≡ i - from + 1 = omega (arith, a.past) in
    record {
      past = omega (arith, a.past);
      upto = omega arith;
      room = a.room;
      whole = length-set s i v ∙ a.whole;
      values =
          rw (k, ← replicate-append-replicate (i - from) 1 v, add-one i, take-suc-set s i v (omega (arith, a.whole, a.room)), a.values)
          (append_assoc (take from b) (replicate (i - from) v) (v ∷ []));
    }

-- as many such writes, one behind the other, as a slice's fill makes
module _ (v : Float) (from : ℕ) (b : List Float) where
  unfoldable steps : ℕ → List Float
  steps zero = b
  steps (suc n) = set (steps n) (from + n) v

  steps_on : {to : ℕ} → Along v from to b from b → (n : ℕ) → from + n ≤ to → Along v from to b (from + n) (steps n)
  unfolding steps
  steps_on a zero h = let e : from + 0 ≡ from = omega arith in rw e a
  steps_on a (suc n) h = let e : from + suc n ≡ from + n + 1 = omega arith in rw e (goes_on (steps_on a n (omega arith)) (omega arith))

  -- n places of the value, with what was before and behind them
  steps_fill : (n : ℕ) → from + n ≤ length b → steps n ≡ take from b ++ (replicate n v ++ drop (from + n) b)
  unfolding steps
  steps_fill zero h = let e : from + 0 ≡ from = omega arith in rw e (sym (take-append-drop from b))
  steps_fill (suc n) h =
      let ys : List Float = drop (suc (from + n)) b in
      let p : List Float = take from b ++ replicate n v in
      let long : length p ≡ from + n = length-append (take from b) (replicate n v) ∙ rw (length-take-le from b (omega arith), length-replicate n v) refl in
      let before : steps n ≡ p ++ (get_or b (from + n) v ∷ ys) =
      steps_fill n (omega arith) ∙ rw (drop-cons b (from + n) v (omega arith)) (sym (append_assoc (take from b) (replicate n v) (get_or b (from + n) v ∷ ys))) in
      let one : replicate n v ++ (v ∷ []) ≡ replicate (suc n) v = replicate-append-replicate n 1 v ∙ ap (λ (k : ℕ). replicate k v) (add-one n) in
      let e : from + suc n ≡ suc (from + n) = omega arith in
      ap (λ (s : List Float). set s (from + n) v) before
      ∙ set_at p (get_or b (from + n) v) ys v (from + n) long
      ∙ append_assoc (take from b) (replicate n v) (v ∷ ys)
      ∙ ap (λ (l : List Float). take from b ++ l) (sym (append_assoc (replicate n v) (v ∷ []) ys))
      ∙ rw (one, e) refl

-- ---- what they leave; w is what code asks before it writes

module _ (f : BlockInfos) {from to : ℕ} {b : List Float} (room : Room from to b) {w : Bool} (is : w ≡ writes_none f.rate from to) where
  pub none : {sample : Float → Float} → w ≡ true → Filled f to sample from b from b
  none {sample} h = record { small = room.filled; whole = refl; values = sym (nothing f sample room f.rate refl (sym is ∙ h)) }

  pub upward : w ≡ false → from ≤ to
  upward h = ahead f.rate from to (sym is ∙ h)

  pub begins : w ≡ false → {v : Float} → Along v from to b from b
  begins h =
      let z : from - from ≡ 0 = omega arith in
      record { past = omega arith; upto = upward h; room = room.upto; whole = refl; values = rw z (sym (append-nil (take from b))) }

  pub ends : w ≡ false → {v : Float} {i : ℕ} {s : List Float} → Along v from to b i s → to ≤ i → Filled f to (λ x. v) from b i s
  ends h {v} {i} {s} a l =
      let e : i ≡ to = omega (arith, a.upto) in
      record {
        small = omega (arith, a.whole, a.room);
        whole = a.whole;
        values =
            a.values
            ∙ sym (fill_alike f to v (take from b) (is_a f.rate from to (sym is ∙ h)) ∙ rw (length-take-le from b room.filled, e));
      }

  -- the places lent to a slice's fill: it writes each of them
  pub alike : w ≡ false → {v : Float} {p : List Float} → p ≡ replicate (length (mid_of from (to - from) b)) v → Filled f to (λ x. v) from b to (put_mid from (to - from) b p)
  alike h {v} {p} q =
      let n : length (mid_of from (to - from) b) ≡ to - from = mid_len from to b room.upto in
      let e : from + (to - from) ≡ to = omega (arith, upward h) in
      let s : steps v from b (to - from) ≡ put_mid from (to - from) b p = steps_fill v from b (to - from) (omega (arith, e, room.upto)) ∙ rw (q, n, e, Post-is from to b (upward h)) refl in
      subst (λ (s : List Float). Filled f to (λ x. v) from b to s) s (subst (λ (i : ℕ). Filled f to (λ x. v) from b i (steps v from b (to - from))) e (ends h (steps_on v from b (begins h) (to - from) (omega (arith, e))) (omega (arith, e))))

  -- p is what a run left of the places lent to it
  pub lent : w ≡ false → {sample : Float → Float} {t : Float} {p : List Float} → t ≡ time_at f from → p ≡ run sample f.dt (length (mid_of from (to - from) b)) t
      → Filled f to sample from b to (put_mid from (to - from) b p)
  lent h {sample} {t} {p} e q =
      let n : length (mid_of from (to - from) b) ≡ to - from = mid_len from to b room.upto in
      let m : length p ≡ to - from = ap length q ∙ run_length sample f.dt (length (mid_of from (to - from) b)) t ∙ n in
      let l : length (put_mid from (to - from) b p) ≡ length b = same_len_mid from (to - from) b p (m ∙ sym n) in
      let k : length (take from b ++ p) ≡ to =
      length-append (take from b) p ∙ rw (length-take-le from b room.filled, m) (omega (arith, upward h)) in
      record {
        small = omega (arith, l, room.upto);
        whole = l;
        values =
            ap (take to) (sym (append_assoc (take from b) p (post_of from (to - from) b)))
            ∙ take_at (take from b ++ p) (post_of from (to - from) b) to k
            ∙ ap (λ (xs : List Float). take from b ++ xs) (q ∙ rw (n, e))
            ∙ sym (filled_a f sample room (is_a f.rate from to (sym is ∙ h)));
      }
