-- Values mixed where they stand, part by part. Assumes nothing.
use mathlib.Core.Path.{◌≡◌, refl, sym, ap, ap₂, ◌∙◌}
use mathlib.Core.Bool.{true, false}
use mathlib.Core.List.{List, [], ◌∷◌, ◌++◌, append_assoc, append-nil}
use Prim.Native.Nat.{ℕ, zero, suc, min, ◌+◌, ◌-◌, ◌≤◌, ◌<◌}
use native.Mathlib.Omega.{arith}
use lib.ListN.{length, take, drop, replicate, length-replicate, length-append, length-drop, drop_of_length-le}
use lib.Seq.{length-take-le, take_at, drop_at, drop-drop, take-add, take_all, take-nil, drop-nil}
use lib.Ieee.{Float}
use borrow.Author.Tests.{eqb-true, eq-eqb}
use borrow.Rule.Slice.PartMut.{mid_of, post_of, put_mid}
use Rattle.rules.specs.declared.Bounds.{Bounds}
use Rattle.rules.specs.declared.AutomationRate.TheVariants as Rate
use Rattle.rules.specs.Numbers.{plus_zero}
use Rattle.rules.specs.Refusals.{fits_count}
use Rattle.rules.specs.Mix.{mixed, mixed_all, spread, inputs}
use Rattle.rules.specs.Block.{is_silent}
use Rattle.laws.proofs.Tests.{never}
use Rattle.laws.proofs.Within.{mixed-length}
use Rattle.mix.specs.Mixed.{over}
use Rattle.block.specs.Asked.{mixed_in}
use Rattle.block.proofs.Tests.{fits_whole}

-- ---- a part of what is mixed

module _ (b : Bounds) where
  mixed_none : (is : List Float) → mixed_all b is [] ≡ []
  unfolding mixed_all
  mixed_none [] = refl
  mixed_none (i ∷ is) = refl

  mixed-take : (n : ℕ) (is vs : List Float) → mixed_all b (take n is) (take n vs) ≡ take n (mixed_all b is vs)
  unfolding mixed_all
  mixed-take zero is vs = refl
  mixed-take (suc n) [] vs = refl
  mixed-take (suc n) (i ∷ is) [] = refl
  mixed-take (suc n) (i ∷ is) (v ∷ vs) = ap (λ (l : List Float). mixed b i v ∷ l) (mixed-take n is vs)

  mixed-drop : (n : ℕ) (is vs : List Float) → mixed_all b (drop n is) (drop n vs) ≡ drop n (mixed_all b is vs)
  unfolding mixed_all
  mixed-drop zero is vs = refl
  mixed-drop (suc n) [] vs = refl
  mixed-drop (suc n) (i ∷ is) [] = mixed_none (drop n is)
  mixed-drop (suc n) (i ∷ is) (v ∷ vs) = mixed-drop n is vs

-- silence has silent parts
silence_part : (n i m : ℕ) → i + m ≤ n → take m (drop i (replicate n plus_zero)) ≡ replicate m plus_zero
silence_part zero zero zero h = refl
silence_part zero zero (suc m) h = absurd (omega arith)
silence_part zero (suc i) m h = absurd (omega arith)
silence_part (suc n) zero zero h = refl
silence_part (suc n) zero (suc m) h = ap (λ (l : List Float). plus_zero ∷ l) (silence_part n zero m (omega arith))
silence_part (suc n) (suc i) m h = silence_part n i m (omega arith)

-- an input of one number or more stands for itself
as_lent : (n : ℕ) (xs : List Float) → 1 ≤ length xs → inputs Rate.A n xs ≡ xs
unfolding inputs spread
as_lent n [] h = absurd (omega arith)
as_lent n (x ∷ xs) h = refl

lent_fits : (n : ℕ) (xs : List Float) → length xs ≡ n → fits_count xs n ≡ true
unfolding fits_count
lent_fits n [] h = refl
lent_fits n (x ∷ xs) h = eq-eqb (length (x ∷ xs)) n h

-- the smaller of two, as code has it
abbrev pub Smaller : ℕ → ℕ → ℕ → Type 0
Smaller i n r = (r ≤ i) × (r ≤ n) × (i ≤ n → r ≡ i) × (n ≤ i → r ≡ n)

pub smaller_of : {i n r : ℕ} → r ≡ min i n → Smaller i n r
smaller_of {i} {n} {r} e = (omega arith, omega arith, λ h. omega arith, λ h. omega arith)

-- the input of the places from i to e, by the input of all n: none where that is none
pub record PartInput (input part : List Float) (n i e : ℕ) : Type 0 where
  pub fits : fits_count part (e - i) ≡ true
  pub is : inputs Rate.A (e - i) part ≡ take (e - i) (drop i (inputs Rate.A n input))

pub part_input : (input : List Float) (n i e : ℕ) {from to : ℕ} → fits_count input n ≡ true → i < e → e ≤ n → Smaller i (length input) from → Smaller e (length input) to
    → PartInput input (take (to - from) (drop from input)) n i e
part_input [] n i e {from} {to} fits some within a z =
    let none : take {A = Float} (to - from) (drop from []) ≡ [] = ap (take (to - from)) (drop-nil from) ∙ take-nil (to - from) in
    rw none (record { fits = unfold fits_count in refl; is = unfold inputs in sym (silence_part n i (e - i) (omega arith)) })
part_input (x ∷ xs) n i e {from} {to} fits some within a z =
    let input : List Float = x ∷ xs in
    let long : length input ≡ n = unfold fits_count in eqb-true (length (x ∷ xs)) n fits in
    let begins : from ≡ i = a.2 (omega (arith, long)) in
    let ends : to ≡ e = z.2 (omega (arith, long)) in
    let many : length (take (e - i) (drop i input)) ≡ e - i = length-take-le (e - i) (drop i input) (rw length-drop (omega (arith, long))) in
    rw (begins, ends)
    (record {
      fits = lent_fits (e - i) (take (e - i) (drop i input)) many;
      is = as_lent (e - i) (take (e - i) (drop i input)) (omega (arith, many)) ∙ ap (λ (l : List Float). take (e - i) (drop i l)) (sym (as_lent n input (omega arith)));
    })

-- ---- part by part

-- of the samples ys, as many as the values o, those at the first i places stand there, and behind them the values still
pub record Mixing (ys o : List Float) (i : ℕ) (s : List Float) : Type 0 where
  pub within : i ≤ length o
  pub places : s ≡ take i ys ++ drop i o

module _ (ys o : List Float) (many : length ys ≡ length o) where
  pub none_mixed : Mixing ys o 0 o
  none_mixed = record { within = omega arith; places = refl }

  module _ {i : ℕ} {s : List Float} (m : Mixing ys o i s) where
    first_long : length (take i ys) ≡ i
    first_long = length-take-le i ys (omega (arith, m.within))

    pub mixing_length : length s ≡ length o
    mixing_length = ap length m.places ∙ rw (length-append, first_long, length-drop) (omega (arith, m.within))

    -- the values of the next places
    pub values_there : (n : ℕ) → mid_of i n s ≡ take n (drop i o)
    values_there n = ap (λ (l : List Float). take n (drop i l)) m.places ∙ ap (take n) (drop_at (take i ys) (drop i o) i first_long)

    pub part-mixed : (n : ℕ) → i + n ≤ length o → (p : List Float) → p ≡ take n (drop i ys) → Mixing ys o (i + n) (put_mid i n s p)
    part-mixed n h p e =
        let before : take i s ≡ take i ys = ap (take i) m.places ∙ take_at (take i ys) (drop i o) i first_long in
        let behind : post_of i n s ≡ drop (i + n) o = ap (λ (l : List Float). drop n (drop i l)) m.places ∙ ap (drop n) (drop_at (take i ys) (drop i o) i first_long) ∙ drop-drop n i o in
        record {
          within = h;
          places =
              rw (before, behind, e)
              (sym (append_assoc (take i ys) (take n (drop i ys)) (drop (i + n) o)) ∙ ap (λ (l : List Float). l ++ drop (i + n) o) (sym (take-add i n ys)));
        }

    pub all-mixed : length o ≤ i → s ≡ ys
    all-mixed h =
        m.places
        ∙ ap₂ (λ (x y : List Float). x ++ y) (take_all i ys (omega (arith, many))) (drop_of_length-le o h)
        ∙ append-nil ys

module _ (b : Bounds) (input o : List Float) (fits : fits_count input (length o) ≡ true) where
  inputs_long : length (inputs Rate.A (length o) input) ≡ length o
  inputs_long = go input fits
    where
      go : (xs : List Float) → fits_count xs (length o) ≡ true → length (inputs Rate.A (length o) xs) ≡ length o
      go [] h = unfold inputs in length-replicate (length o) plus_zero
      go (x ∷ xs) h = unfold inputs spread in eqb-true (length (x ∷ xs)) (length o) (unfold fits_count in h)

  pub mixed_long : length (mixed_in b input o) ≡ length o
  unfolding mixed_in
  mixed_long = mixed-length b (inputs Rate.A (length o) input) o inputs_long

  -- the samples of a part are that part of the samples
  pub mixed_there : (i e : ℕ) {from to : ℕ} → i < e → e ≤ length o → Smaller i (length input) from → Smaller e (length input) to
      → mixed_in b (take (to - from) (drop from input)) (take (e - i) (drop i o)) ≡ take (e - i) (drop i (mixed_in b input o))
  unfolding mixed_in
  mixed_there i e {from} {to} some within a z =
      let part = part_input input (length o) i e fits some within a z in
      let many : length (take (e - i) (drop i o)) ≡ e - i = length-take-le (e - i) (drop i o) (rw length-drop (omega arith)) in
      rw (many, part.is) (mixed-take b (e - i) _ _ ∙ ap (take (e - i)) (mixed-drop b i _ o))

-- ---- one part

-- what was taken into the buffer
pub taken_out : (xs o : List Float) → take (length xs) (over xs o) ≡ xs
unfolding over
taken_out xs o = take_at xs (drop (length xs) o) (length xs) refl

-- written over as many
pub over-all : (ys o : List Float) → length ys ≡ length o → over ys o ≡ ys
unfolding over
over-all ys o h =
    let few : length o ≤ length ys = omega arith in
    ap (λ (l : List Float). ys ++ l) (drop_of_length-le o few) ∙ append-nil ys

module _ (b : Bounds) (input o : List Float) {out : List Float} where
  pub silent_in : is_silent input ≡ true → out ≡ over (mixed_all b (replicate (length o) plus_zero) o) o → out ≡ mixed_in b input o
  unfolding mixed_in
  silent_in h e =
      e ∙ over-all _ o (mixed-length b (replicate (length o) plus_zero) o (length-replicate (length o) plus_zero)) ∙ ap (λ (is : List Float). mixed_all b is o) (sym (go input h))
    where
      go : (xs : List Float) → is_silent xs ≡ true → inputs Rate.A (length o) xs ≡ replicate (length o) plus_zero
      go [] h = unfold inputs in refl
      go (x ∷ xs) h = never (unfold is_silent in h)

  pub lent_in : fits_count input (length o) ≡ true → is_silent input ≡ false → out ≡ over (mixed_all b input o) o → out ≡ mixed_in b input o
  unfolding mixed_in
  lent_in f h e =
      e ∙ over-all _ o (mixed-length b input o (fits_whole input (length o) f h)) ∙ ap (λ (is : List Float). mixed_all b is o) (sym (go input h))
    where
      go : (xs : List Float) → is_silent xs ≡ false → inputs Rate.A (length o) xs ≡ xs
      go [] h = never (sym (unfold is_silent in h))
      go (x ∷ xs) h = unfold inputs spread in refl
