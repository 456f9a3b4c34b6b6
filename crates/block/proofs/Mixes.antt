-- The samples of a block as the mix writes them: by the rate, and by what the input is. Assumes nothing.
use mathlib.Core.Path.{◌≡◌, refl, sym, ap, ◌∙◌}
use mathlib.Core.Bool.{true, false}
use mathlib.Core.List.{List, [], ◌∷◌, ◌++◌}
use Prim.Native.Nat.{ℕ, zero, suc, ◌≤◌, ◌<◌}
use native.Mathlib.Omega.{arith}
use lib.ListN.{length, take, drop, get_or, replicate, length-replicate}
use lib.Seq.{get_or-take}
use lib.Ieee.{Float, nan}
use Rattle.rules.specs.declared.Bounds.{Bounds}
use Rattle.rules.specs.declared.BlockInfos.{BlockInfos}
use Rattle.rules.specs.declared.AutomationRate.{AutomationRate}
use Rattle.rules.specs.declared.AutomationRate.TheVariants as Rate
use Rattle.rules.specs.Numbers.{plus_zero}
use Rattle.rules.specs.Mix.{mixed, mixed_all, first_of, spread, inputs}
use Rattle.rules.specs.Block.{is_silent, says_one}
use Rattle.laws.proofs.Tests.{never}
use Rattle.laws.proofs.Within.{mixed-length}
use Rattle.mix.specs.Mixed.{over}
use Rattle.block.specs.Asked.{Fitting, Given, mixed_in, written}
use Rattle.block.proofs.Tests.{fits_whole}

-- the samples are as many as the block has places
pub writes : (b : Bounds) (f : BlockInfos) (input vs output : List Float) {ys out : List Float} → out ≡ over ys output
    → ys ≡ mixed_all b (inputs f.rate f.count input) (spread f.rate f.count vs) → length ys ≡ f.count → out ≡ written b f input vs output
unfolding over written
writes b f input vs output o e l = o ∙ rw (l, e)

-- ---- one value

mixed_alike : (b : Bounds) (n : ℕ) (x v : Float) → mixed_all b (replicate n x) (replicate n v) ≡ replicate n (mixed b x v)
unfolding mixed_all
mixed_alike b zero x v = refl
mixed_alike b (suc n) x v = ap (λ (l : List Float). mixed b x v ∷ l) (mixed_alike b n x v)

spread_alike : (r : AutomationRate) (n : ℕ) (v : Float) → 1 ≤ n → spread r n (replicate n v) ≡ replicate n v
unfolding spread first_of
spread_alike Rate.A n v h = refl
spread_alike Rate.K zero v h = absurd (omega arith)
spread_alike Rate.K (suc n) v h = refl

-- one input for all places
inputs_alike : (r : AutomationRate) (n : ℕ) (xs : List Float) → says_one r true xs ≡ true → inputs r n xs ≡ replicate n (first_of xs)
unfolding says_one is_silent inputs spread first_of
inputs_alike r n [] h = refl
inputs_alike Rate.A n (x ∷ xs) h = never h
inputs_alike Rate.K n (x ∷ xs) h = refl

-- an input for each
pub inputs-each : (r : AutomationRate) (n : ℕ) (xs : List Float) → says_one r true xs ≡ false → (inputs r n xs ≡ xs) × (is_silent xs ≡ false)
unfolding says_one is_silent inputs spread
inputs-each Rate.A n [] h = never (sym h)
inputs-each Rate.A n (x ∷ xs) h = (refl, refl)
inputs-each Rate.K n xs h = never (sym h)

module _ (b : Bounds) (f : BlockInfos) (input output : List Float) (fits : Fitting f input output) where
  abbrev n : ℕ
  n = f.count

  module _ (v : Float) {out : List Float} where
    -- one input for all places, x, and so one sample, s
    pub one_sample : {x s : Float} → says_one f.rate true input ≡ true → x ≡ first_of input → s ≡ mixed b x v → out ≡ over (replicate n s) output
        → out ≡ written b f input (replicate n v) output
    one_sample {x} {s} h e m o =
        writes b f input (replicate n v) output o
        (rw (inputs_alike f.rate n input h, spread_alike f.rate n v fits.some, mixed_alike b n (first_of input) v, m, e))
        (length-replicate n s)

    pub one_value : says_one f.rate true input ≡ false → out ≡ over (mixed_all b input (replicate (length input) v)) output
        → out ≡ written b f input (replicate n v) output
    one_value h o =
        let a = inputs-each f.rate n input h in
        let l : length input ≡ n = fits_whole input n fits.lent a.1 in
        writes b f input (replicate n v) output o
        (rw (a.0, spread_alike f.rate n v fits.some, l))
        (mixed-length b input (replicate (length input) v) (sym (length-replicate (length input) v)) ∙ length-replicate (length input) v ∙ l)

  pub each_room : is_silent input ≡ false → length input ≤ length output
  each_room h = let r : n ≤ length output = fits.room in omega (arith, fits_whole input n fits.lent h)

-- ---- a value for each place

pub each_in : (b : Bounds) (f : BlockInfos) (input vs output : List Float) {out : List Float} → f.rate ≡ Rate.A → length vs ≡ f.count → take f.count output ≡ vs
    → out ≡ mixed_in b input (take f.count output) ++ drop f.count output → out ≡ written b f input vs output
unfolding written mixed_in
each_in b f input vs output rate whole there o = o ∙ rw (there, whole, rate) (unfold spread in refl)

-- ---- how many values a walk gives

pub given_all : (f : BlockInfos) (vs : List Float) → f.rate ≡ Rate.A → Given f vs → length vs ≡ f.count
given_all f vs rate g = rw rate at g

pub given_one : (f : BlockInfos) (vs : List Float) → f.rate ≡ Rate.K → Given f vs → 1 ≤ length vs
given_one f vs rate g = let e : length vs ≡ 1 = rw rate at g in omega arith

-- ---- K-rate: the one value for all

pub first_at : (vs : List Float) → 1 ≤ length vs → get_or vs 0 nan ≡ first_of vs
unfolding first_of
first_at [] h = absurd (omega arith)
first_at (v ∷ vs) h = refl

-- the first of the values that stand in the output
pub first_taken : (output vs : List Float) → take (length vs) output ≡ vs → 1 ≤ length vs → get_or output 0 nan ≡ first_of vs
first_taken output vs e h =
    let some : 0 < length vs = omega arith in
    sym (get_or-take (length vs) output 0 nan some) ∙ ap (λ (l : List Float). get_or l 0 nan) e ∙ first_at vs h

pub one_for_all : (b : Bounds) (f : BlockInfos) (input vs output : List Float) {out : List Float} {v : Float} → f.rate ≡ Rate.K → 1 ≤ f.count → v ≡ first_of vs
    → out ≡ written b f input (replicate f.count v) output → out ≡ written b f input vs output
unfolding written
one_for_all b f input vs output {out} {v} k h e o = o ∙ rw (k, spread_alike Rate.K f.count v h, e) (unfold spread in refl)
