-- A loop that fills a list place by place, whatever each place takes. Assumes nothing.
use Rattle.std.proofs.Common.{◌≡◌, ℕ, ◌+◌, ◌-◌, ◌<◌, ◌≤◌, List, ◌++◌, length, get_or, set, take, sym, ◌∙◌, subst, ⊎_elim, arith, length-take-le}
use Rattle.std.proofs.lemmas.List.{get_or-take, get_or_append_left, get_or-append_right, get_or_default}
use borrow.Rule.Slice.PartMut.{put_mid, post_of}
use Rattle.rounding_laws.proofs.Powers.{or_less}
use Rattle.runs.specs.Each.{Each}
use Rattle.runs.proofs.Telling.{one_set}

module _ {A : Type 0} (P : ℕ → A → Type 0) where
  pub none_each : (l : List A) → Each P 0 l
  none_each l = record { at = λ k d h. absurd (omega arith) }

  pub one_each : {l : List A} {i : ℕ} → Each P i l → i < length l → (v : A) → P i v → Each P (i + 1) (set l i v)
  one_each {l} {i} e h v p = record { at = λ k d. one_set d P l i v h p (λ k m. e.at k d m) k }

  -- the next n places, written by themselves
  pub some_each : {l : List A} {i : ℕ} → Each P i l → (n : ℕ) → i + n ≤ length l → (p : List A) → Each (λ k y. P (i + k) y) n p → length p ≡ n → Each P (i + n) (put_mid i n l p)
  some_each {l} {i} e n h p f long = record { at = λ k d m. ⊎_elim (λ (q : i ≤ k). behind k d m q) (λ (q : k < i). before k d q) (or_less i k) }
    where
      few : length (take i l) ≡ i
      few = length-take-le i l (omega arith)

      before : (k : ℕ) (d : A) → k < i → P k (get_or (put_mid i n l p) k d)
      before k d q = subst (P k) (sym (get_or_append_left (take i l) (p ++ post_of i n l) d k (omega (arith, few)) ∙ get_or-take i l k d q)) (e.at k d q)

      behind : (k : ℕ) (d : A) → k < i + n → i ≤ k → P k (get_or (put_mid i n l p) k d)
      behind k d m q =
          let j : i + (k - i) ≡ k = omega arith in
          subst (P k)
          (sym (get_or-append_right (take i l) (p ++ post_of i n l) i k d few q ∙ get_or_append_left p (post_of i n l) d (k - i) (omega (arith, long))))
          (subst (λ (n : ℕ). P n (get_or p (k - i) d)) j (f.at (k - i) d (omega arith)))

-- what holds of a number in its place is so whatever another place would have
pub any_other : {A : Type 0} (P : A → Type 0) (l : List A) (k : ℕ) (d e : A) → k < length l → P (get_or l k d) → P (get_or l k e)
any_other P l k d e h p = subst P (get_or_default l k d e h) p
