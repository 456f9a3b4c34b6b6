-- A loop that fills a slice with a run of samples, whatever the sample: what is filled so far, and one place more. Assumes nothing.
use Rattle.std.proofs.Common.{◌≡◌, ℕ, zero, suc, ◌+◌, ◌-◌, ◌<◌, ◌≤◌, List, [], ◌∷◌, ◌++◌, length, get_or, take, drop, set, sym, refl, ap, ◌∙◌, append_assoc, append-nil, le_of_suc-le-suc, add-one, arith, length-append, length-drop, drop-cons, drop-drop, take_at, drop_at}
use lib.Seq.{drop-length, set_at, append_snoc}
use borrow.Rule.Slice.PartMut.{post_of, put_mid, mid_of, mid_len}
use lib.Ieee.{Float, nan, binary64, add}
use Rattle.rules.specs.Numbers.{run}
use Rattle.runs.specs.After.{after}

-- ---- runs from their end

pub after_first : (dt : Float) (i : ℕ) (t : Float) → after dt i (add binary64 t dt) ≡ after dt (suc i) t
unfolding after
after_first dt zero t = refl
after_first dt (suc i) t = ap (λ (u : Float). add binary64 u dt) (after_first dt i t)

pub after_more : (dt : Float) (n i : ℕ) (t : Float) → after dt (n + i) t ≡ after dt n (after dt i t)
unfolding after
after_more dt zero i t = let e : 0 + i ≡ i = omega arith in rw e
after_more dt (suc n) i t = let e : suc n + i ≡ suc (n + i) = omega arith in rw e (ap (λ (u : Float). add binary64 u dt) (after_more dt n i t))

pub run-same : (f g : Float → Float) (dt : Float) (n : ℕ) (t : Float) → ((i : ℕ) → i < n → f (after dt i t) ≡ g (after dt i t)) → run f dt n t ≡ run g dt n t
unfolding run after
run-same f g dt zero t h = refl
run-same f g dt (suc n) t h = λ j. h 0 (omega arith) j ∷ run-same f g dt n (add binary64 t dt) (λ i l. rw (after_first dt i t) (h (suc i) (omega arith))) j

module _ (s : Float → Float) (dt : Float) where
  pub run_length : (i : ℕ) (t : Float) → length (run s dt i t) ≡ i
  unfolding run
  run_length zero t = refl
  run_length (suc i) t = ap suc (run_length i (add binary64 t dt))

  pub run_at : (n i : ℕ) (t d : Float) → i < n → get_or (run s dt n t) i d ≡ s (after dt i t)
  unfolding run after
  run_at zero i t d h = absurd (omega arith)
  run_at (suc n) zero t d h = refl
  run_at (suc n) (suc i) t d h = run_at n i (add binary64 t dt) d (le_of_suc-le-suc h) ∙ ap s (after_first dt i t)

  -- a list that has a run's sample in each place is the run
  pub run_told : (n : ℕ) (t : Float) (l : List Float) → length l ≡ n → ((k : ℕ) → k < n → get_or l k nan ≡ s (after dt k t)) → l ≡ run s dt n t
  unfolding run after
  run_told zero t [] e h = refl
  run_told zero t (x ∷ xs) e h = absurd (omega arith)
  run_told (suc n) t [] e h = absurd (omega arith)
  run_told (suc n) t (x ∷ xs) e h =
      λ j. h 0 (omega arith) j ∷ run_told n (add binary64 t dt) xs (omega (arith, e)) (λ k m. h (suc k) (omega arith) ∙ ap s (sym (after_first dt k t))) j

  run_last : (i : ℕ) (t : Float) → run s dt (suc i) t ≡ run s dt i t ++ (s (after dt i t) ∷ [])
  unfolding run after
  run_last zero t = refl
  run_last (suc i) t = ap (λ (l : List Float). s t ∷ l) (run_last i (add binary64 t dt) ∙ rw (after_first dt i t))

  run_more : (i n : ℕ) (t : Float) → run s dt (i + n) t ≡ run s dt i t ++ run s dt n (after dt i t)
  unfolding run after
  run_more zero n t = let e : 0 + n ≡ n = omega arith in rw e
  run_more (suc i) n t =
      let e : suc i + n ≡ suc (i + n) = omega arith in
      rw e (ap (λ (l : List Float). s t ∷ l) (run_more i n (add binary64 t dt) ∙ rw (after_first dt i t)))

  -- ---- the loop

  module _ (time : Float) where
    -- the first i places filled, the others as they came, and the time of the next
    pub record Filled (o₀ o : List Float) (i : ℕ) (t : Float) : Type 0 where
      pub within : i ≤ length o₀
      pub next : t ≡ after dt i time
      pub places : o ≡ run s dt i time ++ drop i o₀

    pub none_filled : (o : List Float) → Filled o o 0 time
    unfolding run after
    none_filled o = record { within = omega arith; next = refl; places = refl }

    pub filled-length : {o₀ o : List Float} {i : ℕ} {t : Float} → Filled o₀ o i t → length o ≡ length o₀
    filled-length {o₀} {o} {i} {t} f =
        let w = f.within in
        ap length f.places ∙ length-append (run s dt i time) (drop i o₀) ∙ rw (run_length i time, length-drop i o₀) (omega arith)

    pub one_more : {o₀ o : List Float} {i : ℕ} {t : Float} → Filled o₀ o i t → i < length o₀ → (v : Float) → v ≡ s t → Filled o₀ (set o i v) (i + 1) (add binary64 t dt)
    one_more {o₀} {o} {i} {t} f h v e =
        record {
          within = omega arith;
          next = rw (add-one i, f.next) (unfold after in refl);
          places =
              rw (f.places, drop-cons o₀ i nan h, set_at (run s dt i time) (get_or o₀ i nan) (drop (suc i) o₀) v i (run_length i time))
              (sym (append_snoc (run s dt i time) v (drop (suc i) o₀)) ∙ rw (add-one i, run_last i time, ← f.next, e));
        }

    -- the next n places, filled by a run of their own
    pub some_more : {o₀ o : List Float} {i : ℕ} {t : Float} → Filled o₀ o i t → (n : ℕ) → i + n ≤ length o₀ → (p : List Float) → p ≡ run s dt n t → Filled o₀ (put_mid i n o p) (i + n) (after dt n t)
    some_more {o₀} {o} {i} {t} f n h p e =
        let swap : i + n ≡ n + i = omega arith in
        let before : take i o ≡ run s dt i time = ap (take i) f.places ∙ take_at (run s dt i time) (drop i o₀) i (run_length i time) in
        let behind : post_of i n o ≡ drop (i + n) o₀ =
        ap (λ (l : List Float). drop n (drop i l)) f.places ∙ ap (drop n) (drop_at (run s dt i time) (drop i o₀) i (run_length i time)) ∙ drop-drop n i o₀ in
        record {
          within = h;
          next = ap (after dt n) f.next ∙ sym (after_more dt n i time) ∙ rw swap;
          places =
              rw (before, behind, e, f.next)
              (sym (append_assoc (run s dt i time) (run s dt n (after dt i time)) (drop (i + n) o₀)) ∙ ap (λ (l : List Float). l ++ drop (i + n) o₀) (sym (run_more i n time)));
        }

    -- all the places left
    pub rest_filled : {o₀ o : List Float} {i : ℕ} {t : Float} → Filled o₀ o i t → (p : List Float) → p ≡ run s dt (length (mid_of i (length o - i) o)) t
        → Filled o₀ (put_mid i (length o - i) o p) (i + (length o - i)) (after dt (length o - i) t)
    rest_filled {o₀} {o} {i} {t} f p e =
        let k = filled-length f in
        let w = f.within in
        let within : i ≤ length o = omega arith in
        some_more f (length o - i) (omega arith) p (e ∙ rw (mid_len i (length o) o (omega arith)))

    pub all-filled : {o₀ o : List Float} {i : ℕ} {t : Float} → Filled o₀ o i t → length o₀ ≤ i → o ≡ run s dt (length o₀) time
    all-filled {o₀} {o} {i} {t} f h =
        let w = f.within in
        let e : i ≡ length o₀ = omega arith in
        f.places ∙ rw (e, drop-length o₀) (append-nil (run s dt (length o₀) time))

    -- the first place by itself, and the others by a run of their own
    pub one_and_rest : (o : List Float) → 0 < length o → (v : Float) → v ≡ s time → (p : List Float)
        → p ≡ run s dt (length (mid_of 1 (length (set o 0 v) - 1) (set o 0 v))) (add binary64 time dt) → put_mid 1 (length (set o 0 v) - 1) (set o 0 v) p ≡ run s dt (length o) time
    one_and_rest o some v e p q =
        let first : Filled o (set o 0 v) 1 (add binary64 time dt) = one_more (none_filled o) some v e in
        let long = filled-length first in
        all-filled (rest_filled first p q) (omega (arith, long))

    -- a turn of k places more
    pub turn_filled : {o₀ o : List Float} {i : ℕ} {t : Float} → Filled o₀ o i t → (k m j : ℕ) → m ≡ k → j ≡ i + k → i + k ≤ length o₀ → (p : List Float) → p ≡ run s dt k t → (u : Float) → u ≡ after dt k t
        → Filled o₀ (put_mid i m o p) j u
    turn_filled {o₀} {o} {i} {t} f k m j e q h p r u n = rw (e, q, n) (some_more f k h p r)

    -- and what is left behind the turns
    pub left_filled : {o₀ o : List Float} {i : ℕ} {t : Float} → Filled o₀ o i t → (j : ℕ) → j ≡ i → (p : List Float) → p ≡ run s dt (length (mid_of j (length o - j) o)) t
        → put_mid j (length o - j) o p ≡ run s dt (length o₀) time
    left_filled {o₀} {o} {i} {t} f j q p r =
        let g : Filled o₀ o j t = rw q f in
        let long = filled-length f in
        all-filled (rest_filled g p r) (omega (arith, long, g.within))
