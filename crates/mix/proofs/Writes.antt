-- A loop that writes a list to the first places of an output: what holds after each. Assumes nothing.
use mathlib.Core.Path.{◌≡◌, refl, sym, ap, ◌∙◌}
use mathlib.Core.Bool.{Bool, true, false, not}
use mathlib.Core.List.{List, [], ◌∷◌, ◌++◌, append_assoc}
use Prim.Native.Nat.{ℕ, zero, suc, ◌+◌, ◌≤◌, ◌<◌}
use native.Mathlib.Numerals.{add-one}
use native.Mathlib.Omega.{arith}
use lib.ListN.{length, take, drop, get_or, set, replicate, length-set, length-replicate, get_or-replicate}
use lib.Seq.{length-take-le, take-suc, take_all, drop-cons, drop-set-lt, set_at}
use lib.Ieee as Ieee
use lib.Ieee.{Float, nan}
use Rattle.rules.specs.declared.Bounds.{Bounds}
use Rattle.rules.specs.Numbers.{plus_zero}
use Rattle.rules.specs.Mix.{mixed, mixed_all}
use Rattle.laws.specs.Sound.{is_number}
use Rattle.laws.proofs.Order.{number_is}
use Rattle.mix.specs.Mixed.{over, Tried}

-- of ys, which are n, the first i are written over the output o, which is then s
pub record Writes (ys : List Float) (n : ℕ) (o : List Float) (i : ℕ) (s : List Float) : Type 0 where
  pub long : length ys ≡ n
  pub room : n ≤ length o
  pub few : i ≤ n
  pub whole : length s ≡ length o
  pub now : s ≡ take i ys ++ drop i o

module _ (ys : List Float) (n : ℕ) (o : List Float) where
  pub begins : length ys ≡ n → n ≤ length o → Writes ys n o 0 o
  begins l h = record { long = l; room = h; few = omega arith; whole = refl; now = refl }

  module _ (i : ℕ) (s : List Float) (w : Writes ys n o i s) where
    pub goes_on : (v : Float) → i < n → v ≡ get_or ys i plus_zero → Writes ys n o (i + 1) (set s i v)
    goes_on v h e =
        let t : length (take i ys) ≡ i = length-take-le i ys (omega (arith, w.long, w.few)) in
        record {
          long = w.long;
          room = w.room;
          few = omega arith;
          whole = length-set s i v ∙ w.whole;
          now =
              rw (w.now, drop-cons o i plus_zero (omega (arith, w.room)), set_at (take i ys) (get_or o i plus_zero) (drop (suc i) o) v i t, add-one i, take-suc ys i plus_zero (omega (arith, w.long)), append_assoc, ← e);
        }

    pub ends : n ≤ i → s ≡ over ys o
    unfolding over
    ends h =
        let e : i ≡ length ys = omega (arith, w.few, w.long) in
        w.now ∙ rw e (ap (λ (l : List Float). l ++ drop (length ys) o) (take_all (length ys) ys (omega arith)))

-- ---- the same where a test of each value may say that nothing is told

pub record Trying (ys : List Float) (n : ℕ) (o : List Float) (told : Bool) (i : ℕ) (s : List Float) : Type 0 where
  pub few : i ≤ n
  pub whole : length s ≡ length o
  pub rest : drop n s ≡ drop n o
  pub writes : told ≡ true → Writes ys n o i s

module _ (ys : List Float) (n : ℕ) (o : List Float) where
  pub trying_begins : length ys ≡ n → n ≤ length o → Trying ys n o true 0 o
  trying_begins l h = record { few = omega arith; whole = refl; rest = refl; writes = λ e. begins ys n o l h }

  module _ (i : ℕ) (s : List Float) (told : Bool) (w : Trying ys n o told i s) where
    pub trying_goes_on : (next : Bool) (v : Float) → i < n → (next ≡ true → (told ≡ true) × (v ≡ get_or ys i plus_zero)) → Trying ys n o next (i + 1) (set s i v)
    trying_goes_on next v h f =
        record {
          few = omega arith;
          whole = length-set s i v ∙ w.whole;
          rest = drop-set-lt n s i v h ∙ w.rest;
          writes = λ e. goes_on ys n o i s (w.writes (f e).0) v h (f e).1;
        }

    pub trying_ends : n ≤ i → Tried ys n o told s
    trying_ends h = record { rest = w.rest; written = λ e. ends ys n o i s (w.writes e) h }

-- what is told of n samples, and where nothing is, the samples over what was left
pub tried_or : (ys : List Float) (n : ℕ) (o s : List Float) (told : Bool) → length ys ≡ n → Tried ys n o told s → over ys s ≡ over ys o
unfolding over
tried_or ys n o s told l t = rw l (ap (λ (r : List Float). ys ++ r) t.rest)

-- ---- the samples, place by place, as code reads them

module _ (b : Bounds) where
  pub mixed_at : (is vs : List Float) (i : ℕ) → i < length is → i < length vs → mixed b (get_or is i nan) (get_or vs i nan) ≡ get_or (mixed_all b is vs) i plus_zero
  unfolding mixed_all
  mixed_at [] vs i h k = absurd (omega arith)
  mixed_at (x ∷ is) [] i h k = absurd (omega arith)
  mixed_at (x ∷ is) (v ∷ vs) zero h k = refl
  mixed_at (x ∷ is) (v ∷ vs) (suc i) h k = mixed_at is vs i (omega arith) (omega arith)

  -- one value for all places
  pub one_at : (is : List Float) (v : Float) (i : ℕ) → i < length is → mixed b (get_or is i nan) v ≡ get_or (mixed_all b is (replicate (length is) v)) i plus_zero
  one_at is v i h =
      ap (mixed b (get_or is i nan)) (sym (get_or-replicate (length is) i v nan h)) ∙ mixed_at is (replicate (length is) v) i h (omega (arith, length-replicate (length is) v))

  -- silence at all places
  pub silence_at : (vs : List Float) (i : ℕ) → i < length vs → mixed b plus_zero (get_or vs i nan) ≡ get_or (mixed_all b (replicate (length vs) plus_zero) vs) i plus_zero
  silence_at vs i h =
      ap (λ (x : Float). mixed b x (get_or vs i nan)) (sym (get_or-replicate (length vs) i plus_zero nan h)) ∙ mixed_at (replicate (length vs) plus_zero) vs i (omega (arith, length-replicate (length vs) plus_zero)) h

-- a number that is there, whatever stands for one that is not
pub any_default : (xs : List Float) (i : ℕ) → i < length xs → get_or xs i nan ≡ get_or xs i plus_zero
any_default [] i h = absurd (omega arith)
any_default (x ∷ xs) zero h = refl
any_default (x ∷ xs) (suc i) h = any_default xs i (omega arith)

-- only a NaN is unequal to itself
pub nan_test : (x : Float) → Ieee.is_nan x ≡ Ieee.ne x x
unfolding is_number Ieee.ne
nan_test x = double (Ieee.is_nan x) ∙ ap not (number_is x)
  where
    double : (b : Bool) → b ≡ not (not b)
    double true = refl
    double false = refl
