-- Laws on lists of any element: `map`, and the lists of the rules. Assumes nothing.
use mathlib.Core.Path.{◌≡◌, refl, sym, ap, ◌∙◌}
use mathlib.Core.Bool.{Bool, true, false, cond}
use mathlib.Core.List.{List, [], ◌∷◌, ◌++◌, map, append_assoc}
use Prim.Native.Nat.{ℕ, zero, suc, ◌+◌, ◌-◌, ◌≤◌, ◌<◌}
use native.Mathlib.Numerals.{add-one}
use native.Mathlib.Omega.{arith}
use lib.ListN.{length, take, drop, get_or, set, replicate}
use lib.Seq.{paste, length-take-le, take-suc, take-add, take-take, append_snoc, set_at, drop_at}
use Rattle.rules.specs.Queue.{put_at, those}

-- ---- map

pub map-replicate : {A B : Type 0} (f : A → B) (n : ℕ) (x : A) → replicate n (f x) ≡ map f (replicate n x)
map-replicate f zero x = refl
map-replicate {B = B} f (suc n) x = ap (λ (r : List B). f x ∷ r) (map-replicate f n x)

-- ---- those that pass a test

module _ {A : Type 0} (test : A → Bool) where
  those_more : (b : Bool) (x y : A) (xs : List A) (more : Bool) → those test (xs ++ (y ∷ [])) ≡ those test xs ++ cond more (y ∷ []) []
      → cond b (x ∷ those test (xs ++ (y ∷ []))) (those test (xs ++ (y ∷ []))) ≡ cond b (x ∷ those test xs) (those test xs) ++ cond more (y ∷ []) []
  those_more true x y xs more e = ap (λ (r : List A). x ∷ r) e
  those_more false x y xs more e = e

  -- one more at the end
  pub those_snoc : (xs : List A) (y : A) → those test (xs ++ (y ∷ [])) ≡ those test xs ++ cond (test y) (y ∷ []) []
  unfolding those
  those_snoc [] y = refl
  those_snoc (x ∷ xs) y = those_more (test x) x y xs (test y) (those_snoc xs y)

  fewer : (b : Bool) (x : A) (xs : List A) → length (those test xs) ≤ length xs → length (cond b (x ∷ those test xs) (those test xs)) ≤ suc (length xs)
  fewer true x xs h = omega arith
  fewer false x xs h = omega arith

  pub those-length : (xs : List A) → length (those test xs) ≤ length xs
  unfolding those
  those-length [] = omega arith
  those-length (x ∷ xs) = fewer (test x) x xs (those-length xs)

-- ---- one more at a place

-- those from place p on move one further, and x goes there
pub shifted : {A : Type 0} (s : List A) (p n : ℕ) (x : A) → p ≤ n → n < length s → set (paste s (p + 1) (drop p s) (n - p)) p x ≡ put_at p x (take n s) ++ drop (n + 1) s
unfolding put_at
shifted {A} s p n x h l =
    let a : p < length s = omega arith in
    let e : p + (n - p) ≡ n = omega arith in
    let f : p + 1 + (n - p) ≡ n + 1 = omega arith in
    let front : length (take p s) ≡ p = length-take-le p s (omega arith) in
    let cut : take n s ≡ take p s ++ take (n - p) (drop p s) = ap (λ (k : ℕ). take k s) (sym e) ∙ take-add p (n - p) s in
    let back : drop p (take n s) ≡ take (n - p) (drop p s) = ap (drop p) cut ∙ drop_at (take p s) (take (n - p) (drop p s)) p front in
    rw (f, add-one p, take-suc s p x a, append_assoc (take p s ++ (get_or s p x ∷ [])) (take (n - p) (drop p s)) (drop (n + 1) s), append_snoc, set_at (take p s) (get_or s p x) (take (n - p) (drop p s) ++ drop (n + 1) s) x p front, take-take p n s h, back, append_assoc)
