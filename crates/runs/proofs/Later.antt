-- No time of a run that begins at its start or behind it lies before the start, however far it goes. Assumes nothing.
use Rattle.std.proofs.Common.{◌≡◌, ℕ, zero, suc, ◌+◌, ◌^◌, ◌≤◌, Bool, true, false, T, sym, refl, ap, ◌∙◌, subst, true≢false, le_trans, mul-le-mul_right, arith, pow_pos}
use lib.Ieee.{Float, nan, inf, fin, binary64, round, add, le, lt, eq, fits}
use lib.Ieee.Order.{round_mono}
use lib.Ieee.Scale.{finite}
use Rattle.runs.specs.After.{after}
use Rattle.runs.specs.Rising.{Is, Rises}
use Rattle.runs.proofs.Ascent.{plain_is, own, le_is, not_lt, add_is, after_fits, risen}

-- the infinity below all numbers
minus : Float → Bool
minus nan = false
minus (inf s) = s
minus (fin s m e) = false

number : (x : Float) (a : ℕ) → Is x a → minus x ≡ false
unfolding minus
number nan a v = refl
number (inf s) a v = absurd v
number (fin s m e) a v = refl

-- what a number is not above is not that
above : (x y : Float) (a : ℕ) → Is x a → T (le x y) → minus y ≡ false
unfolding le lt eq minus
above nan y a v h = absurd v
above (inf s) y a v h = absurd v
above (fin s m e) nan a v h = refl
above (fin s m e) (inf true) a v h = absurd h
above (fin s m e) (inf false) a v h = refl
above (fin s m e) (fin t n d) a v h = refl

plus_no_less : (y : Float) → lt (inf false) y ≡ false
unfolding lt
plus_no_less nan = refl
plus_no_less (inf t) = refl
plus_no_less (fin t n d) = refl

-- a period more
next : (x dt : Float) (b : ℕ) → T (fits binary64 x) → Is dt b → minus x ≡ false → (T (finite x) → (n : ℕ) × Is x n) → minus (add binary64 x dt) ≡ false
unfolding add minus
next nan dt b fit p h f = refl
next (inf true) dt b fit p h f = absurd (true≢false h)
next (inf false) nan b fit p h f = absurd p
next (inf false) (inf t) b fit p h f = absurd p
next (inf false) (fin t n d) b fit p h f = refl
next (fin s m e) dt b fit p h f = go (f tt)
  where
    go : (n : ℕ) × Is (fin s m e) n → minus (add binary64 (fin s m e) dt) ≡ false
    go (n, v) =
        ap minus (add_is (fin s m e) dt n b v p)
        ∙ above (round binary64 false n (2 ^ 1074)) (round binary64 false (n + b) (2 ^ 1074)) n (own (fin s m e) n fit v)
        (round_mono binary64 n (2 ^ 1074) (n + b) (2 ^ 1074) (pow_pos 1074) (pow_pos 1074) (mul-le-mul_right (2 ^ 1074) (omega arith)))

module _ (start duration time dt : Float) (fits_start : T (fits binary64 start)) (fits_time : T (fits binary64 time)) (fits_dt : T (fits binary64 dt)) (r : Rises start duration time dt) where
  S : (n : ℕ) × Is start n
  S = plain_is start fits_start r.steady.start_plain

  A : (n : ℕ) × Is time n
  A = plain_is time fits_time r.started.time_plain

  P : (n : ℕ) × Is dt n
  P = plain_is dt fits_dt r.steady.period_plain

  reached : (j : ℕ) → T (finite (after dt j time)) → (n : ℕ) × Is (after dt j time) n × (A.0 ≤ n)
  reached j f = risen dt P.0 P.1 j time A.0 fits_time A.1 f

  no_minus : (j : ℕ) → minus (after dt j time) ≡ false
  unfolding after
  no_minus zero = number time A.0 A.1
  no_minus (suc j) = next (after dt j time) dt P.0 (after_fits dt j time fits_time) P.1 (no_minus j) (λ f. let w = reached j f in (w.0, w.1))

  pub not_before : (j : ℕ) → lt (after dt j time) start ≡ false
  unfolding lt minus
  not_before j = go (after dt j time) refl
    where
      go : (x : Float) → after dt j time ≡ x → lt (after dt j time) start ≡ false
      go nan e = ap (λ (x : Float). lt x start) e
      go (inf true) e = absurd (true≢false (ap minus (sym e) ∙ no_minus j))
      go (inf false) e = ap (λ (x : Float). lt x start) e ∙ plus_no_less start
      go (fin s m d) e =
          let w = reached j (subst (λ (x : Float). T (finite x)) (sym e) tt) in
          let begun : S.0 ≤ A.0 = le_is start time S.0 A.0 S.1 A.1 (subst T (sym r.started.begun) tt) in
          not_lt (after dt j time) start w.0 S.0 w.1 S.1 (le_trans begun w.2)
