-- A loop that flushes the places filled, one after the other. Assumes nothing.
use mathlib.Core.Path.{◌≡◌, refl, sym, ap, ◌∙◌}
use mathlib.Core.Bool.{true, false, cond}
use mathlib.Core.List.{List, [], ◌∷◌, ◌++◌}
use Prim.Native.Nat.{ℕ, suc, ◌+◌, ◌≤◌, ◌<◌}
use native.Mathlib.Numerals.{add-one}
use native.Mathlib.Omega.{arith}
use lib.ListN.{length, take, drop, get_or, set, length-set}
use lib.Seq.{take-suc, take-suc-set, drop-cons, drop-set-lt}
use lib.Ieee.{Float}
use Rattle.rules.specs.Numbers.{plus_zero, is_zero, is_subnormal}
use Rattle.rules.specs.Walk.{flushed, flushed_for}
use Rattle.fills.specs.Filled.{Flushed}

flushed_more : (xs : List Float) (x : Float) → flushed (xs ++ (x ∷ [])) ≡ flushed xs ++ (cond (is_subnormal x) plus_zero x ∷ [])
unfolding flushed
flushed_more [] x = refl
flushed_more (y ∷ xs) x = ap (λ (l : List Float). cond (is_subnormal y) plus_zero y ∷ l) (flushed_more xs x)

-- Of the buffer b the first k places were filled, of which i are flushed: it is s.
pub record Flushing (k : ℕ) (b : List Float) (i : ℕ) (s : List Float) : Type 0 where
  pub few : i ≤ k
  pub room : k ≤ length b
  pub whole : length s ≡ length b
  pub values : take i s ≡ flushed (take i b)
  pub rest : drop i s ≡ drop i b

pub begins : (k : ℕ) (b : List Float) → k ≤ length b → Flushing k b 0 b
unfolding flushed
begins k b h = record { few = omega arith; room = h; whole = refl; values = refl; rest = refl }

module _ (k : ℕ) (b : List Float) {i : ℕ} {s : List Float} (a : Flushing k b i s) where
  pub goes_on : i < k → (d v : Float) → v ≡ cond (is_subnormal (get_or s i d)) plus_zero (get_or s i d) → Flushing k b (i + 1) (set s i v)
  goes_on h d v e =
      let n : i < length b = omega (arith, a.room) in
      let m : i < length s = omega (arith, a.whole) in
      let both : get_or s i d ∷ drop (suc i) s ≡ get_or b i d ∷ drop (suc i) b = sym (drop-cons s i d m) ∙ a.rest ∙ drop-cons b i d n in
      let same : get_or s i d ≡ get_or b i d = cc in
      let more : drop (suc i) s ≡ drop (suc i) b = cc in
      record {
        few = omega arith;
        room = a.room;
        whole = length-set s i v ∙ a.whole;
        values = rw (add-one i, take-suc-set s i v m, take-suc b i d n, flushed_more (take i b) (get_or b i d), a.values, e, same);
        rest = rw (add-one i, drop-set-lt (suc i) s i v (omega arith)) more;
      }

  pub ends : (target : Float) → is_zero target ≡ true → k ≤ i → Flushed target k b s
  unfolding flushed_for
  ends target z h = let e : i ≡ k = omega (arith, a.few) in record { whole = a.whole; values = rw (z, ← e) a.values }

-- where the target is not 0
pub none : (target : Float) (k : ℕ) (b : List Float) → is_zero target ≡ false → Flushed target k b b
unfolding flushed_for
none target k b z = record { whole = refl; values = rw z }
