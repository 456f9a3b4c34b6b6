-- A list whose numbers are told or wait in a second list, and the loop that settles those. Assumes nothing.
use Rattle.std.proofs.Common.{◌≡◌, ℕ, ◌+◌, ◌<◌, ◌≤◌, Bool, true, false, eqb, ◌⊎◌, List, length, get_or, set, take, length-take-le, sym, refl, ap, ◌∙◌, subst, inl, inr, ⊎_elim, eq-or-lt_of_le, arith, get_or-set_other, get_or-set_same, eqb-true}
use borrow.Author.Tests.{eqb-false}
use Rattle.std.proofs.lemmas.List.{get_or_default, get_or-take}
use Rattle.runs.specs.Each.{Each}
use Rattle.runs.specs.Placed.{Listed, Left}

upto : (k i : ℕ) → k < i + 1 → k ≤ i
upto k i h = omega arith

module _ {A : Type 0} (d : A) (R : ℕ → A → Type 0) where
  -- one place more of which R is
  pub one_set : (l : List A) (i : ℕ) (v : A) → i < length l → R i v → ((k : ℕ) → k < i → R k (get_or l k d)) → (k : ℕ) → k < i + 1 → R k (get_or (set l i v) k d)
  one_set l i v h r f k g =
      ⊎_elim
      (λ (q : k ≡ i). subst (λ (n : ℕ). R n (get_or (set l i v) n d)) (sym q) (subst (R i) (sym (get_or-set_same l i v d h)) r))
      (λ (q : k < i). subst (R k) (sym (get_or-set_other l i k v d (λ e. omega arith))) (f k q))
      (eq-or-lt_of_le (upto k i g))

  -- the first i numbers are told or listed
  pub record Telling (us : List A) (slow : List ℕ) (count i : ℕ) : Type 0 where
    pub fewer : count ≤ i
    pub places : (j : ℕ) → j < count → get_or slow j 0 < i
    pub told : (k : ℕ) → k < i → R k (get_or us k d) ⊎ Listed slow 0 count k

  pub none_told : (us : List A) (slow : List ℕ) → Telling us slow 0 0
  none_told us slow = record { fewer = omega arith; places = λ j h. absurd (omega arith); told = λ k h. absurd (omega arith) }

  pub one_told : (us : List A) (slow : List ℕ) (count i : ℕ) → Telling us slow count i → i < length us → count < length slow → (u : A) (next : ℕ)
      → ((next ≡ count) × R i u) ⊎ (next ≡ count + 1) → Telling (set us i u) (set slow count i) next (i + 1)
  one_told us slow count i t h g u next w =
      record {
        fewer = few w;
        places = λ j l. ⊎_elim (λ e. subst (λ (n : ℕ). n < i + 1) (sym (new j e)) (omega arith)) (λ l. below (t.places j l) (old j l)) (at_most j l);
        told = λ k l. ⊎_elim (λ e. subst (λ (n : ℕ). R n (get_or (set us i u) n d) ⊎ Listed (set slow count i) 0 next n) (sym e) last) (λ l. before k l (t.told k l)) (eq-or-lt_of_le (upto k i l));
      }
    where
      few : ((next ≡ count) × R i u) ⊎ (next ≡ count + 1) → next ≤ i + 1
      few (inl e) = omega (arith, e.0, t.fewer)
      few (inr e) = omega (arith, e, t.fewer)

      more : ((next ≡ count) × R i u) ⊎ (next ≡ count + 1) → next ≤ count + 1
      more (inl e) = omega (arith, e.0)
      more (inr e) = omega (arith, e)

      least : ((next ≡ count) × R i u) ⊎ (next ≡ count + 1) → count ≤ next
      least (inl e) = omega (arith, e.0)
      least (inr e) = omega (arith, e)

      at_most : (j : ℕ) → j < next → (j ≡ count) ⊎ (j < count)
      at_most j l = eq-or-lt_of_le (omega (arith, more w))

      new : (j : ℕ) → j ≡ count → get_or (set slow count i) j 0 ≡ i
      new j e = ap (λ (n : ℕ). get_or (set slow count i) n 0) e ∙ get_or-set_same slow count i 0 g

      old : (j : ℕ) → j < count → get_or (set slow count i) j 0 ≡ get_or slow j 0
      old j l = get_or-set_other slow count j i 0 (λ e. omega arith)

      below : {m n : ℕ} → n < i → m ≡ n → m < i + 1
      below l e = omega arith

      here : get_or (set us i u) i d ≡ u
      here = get_or-set_same us i u d h

      last : R i (get_or (set us i u) i d) ⊎ Listed (set slow count i) 0 next i
      last = go w
        where
          go : ((next ≡ count) × R i u) ⊎ (next ≡ count + 1) → R i (get_or (set us i u) i d) ⊎ Listed (set slow count i) 0 next i
          go (inl e) = inl (subst (R i) (sym here) e.1)
          go (inr e) = inr (count, omega arith, omega (arith, e), new count refl)

      before : (k : ℕ) → k < i → R k (get_or us k d) ⊎ Listed slow 0 count k → R k (get_or (set us i u) k d) ⊎ Listed (set slow count i) 0 next k
      before k l (inl r) = inl (subst (R k) (sym (get_or-set_other us i k u d (λ e. omega arith))) r)
      before k l (inr (j, z, m, e)) = let n = least w in inr (j, z, omega arith, old j m ∙ e)

-- ---- the loop that settles those

module _ {A : Type 0} (R : ℕ → A → Type 0) (slow : List ℕ) (o : List A) where
  -- R of it, or it is as it came and none of the first j that are listed
  abbrev pub Settled : ℕ → ℕ → A → Type 0
  Settled j k y = R k y ⊎ Left slow j o k y

  pub none_settled : Each (Settled 0) (length o) o
  none_settled = record { at = λ k d h. inr (get_or_default o k d _ h, λ m l. absurd (omega arith)) }

  pub one_settled : {l : List A} {j : ℕ} → Each (Settled j) (length o) l → (i : ℕ) → get_or slow j 0 ≡ i → i < length l → (v : A) → R i v → Each (Settled (j + 1)) (length o) (set l i v)
  one_settled {l} {j} e i q h v r = record { at = λ k d m. go k d m (eqb k i) refl }
    where
      go : (k : ℕ) (d : A) → k < length o → (b : Bool) → eqb k i ≡ b → Settled (j + 1) k (get_or (set l i v) k d)
      go k d m true t = inl (subst (λ (n : ℕ). R n (get_or (set l i v) n d)) (sym (eqb-true k i t)) (subst (R i) (sym (get_or-set_same l i v d h)) r))
      go k d m false t = other (e.at k d m)
        where
          apart : k ≡ i → ⊥
          apart = eqb-false k i t

          same : get_or (set l i v) k d ≡ get_or l k d
          same = get_or-set_other l i k v d apart

          other : Settled j k (get_or l k d) → Settled (j + 1) k (get_or (set l i v) k d)
          other (inl x) = inl (subst (R k) (sym same) x)
          other (inr (p, f)) = inr (
            subst (λ (y : A). y ≡ get_or o k y) (sym same) p,
            λ n u z. ⊎_elim (λ (w : n ≡ j). apart (sym z ∙ ap (λ (x : ℕ). get_or slow x 0) w ∙ q)) (λ (w : n < j). f n w z) (eq-or-lt_of_le (upto n j u)),
          )

-- what was told or listed is told, where those listed are settled
pub settled : {A : Type 0} (R : ℕ → A → Type 0) (slow : List ℕ) (count : ℕ) (l : List A) (k : ℕ) (d y : A) → k < length l → count ≤ length slow
    → R k (get_or l k d) ⊎ Listed slow 0 count k → R k y ⊎ Left (take count slow) (length (take count slow)) l k y → R k y
settled R slow count l k d y h few told (inl r) = r
settled R slow count l k d y h few (inl r) (inr (e, f)) = subst (R k) (get_or_default l k d y h ∙ sym e) r
settled R slow count l k d y h few (inr (j, from, upto, e)) (inr (p, f)) =
    absurd (f j (omega (arith, length-take-le count slow few)) (get_or-take count slow j 0 upto ∙ e))
