-- How code makes `Added`: of the smaller number the whole part is taken, and the last bit of the result set where a fraction was left. Assumes nothing.
use mathlib.Core.Path.{◌≡◌, refl, sym, ap, ◌∙◌, subst}
use mathlib.Core.Logic.{inl, inr}
use mathlib.Core.Bool.{Bool, true, false, not, ◌&&◌, beq, cond}
use Prim.Native.Nat.{ℕ, zero, suc, ◌+◌, ◌-◌, ◌*◌, ◌/◌, ◌%◌, ◌^◌, ◌≤◌, ◌<◌}
use native.Mathlib.Nat.{le_of_lt, pos_of_ne-zero, add-mul, add-zero, one-mul, mod-lt, mul-pos, mul_right_comm, mul_assoc, mul-le-mul_right, div-add-mod'}
use native.Mathlib.Omega.{arith}
use lib.Dec.{ltb, eqb}
use borrow.Author.Tests.{eqb-true, eqb-false, not-true, not-false, lt-ltb, le-ltb}
use lib.Pow.{pow-add, pow_pos}
use Rattle.rounding_laws.specs.Total.{total_size}
use Rattle.rounding_laws.specs.Stuck.{Stuck, Added, extra}
use Rattle.rounding_laws.proofs.Sum.{sub_mul, stuck_scale}

-- q with its last bit set where there is a fraction
abbrev pub stuck_bit : ℕ → Bool → ℕ
stuck_bit q rest = cond rest (q / 2 * 2 + 1) q

-- the whole part q of a / b, and whether there is a fraction
pub stuck_bit_lem : (a b q r : ℕ) (rest : Bool) → a ≡ q * b + r → r < b → rest ≡ not (eqb r 0) → Stuck (stuck_bit q rest) a b
stuck_bit_lem a b q r false e h k = inl (omega (arith, eqb-true r 0 (not-false (eqb r 0) (sym k))))
stuck_bit_lem a b q r true e h k = go (q % 2) refl (pos_of_ne-zero (eqb-false r 0 (not-true (eqb r 0) (sym k))))
  where
    even : (q : ℕ) → q % 2 ≡ 0 → q / 2 * 2 + 1 ≡ q + 1
    even q z = omega arith

    odd : (q : ℕ) → 0 < q % 2 → q / 2 * 2 + 1 ≡ q
    odd q z = omega arith

    last : (q : ℕ) → (q / 2 * 2 + 1) % 2 ≡ 1
    last q = omega arith

    go : (p : ℕ) → q % 2 ≡ p → 0 < r → Stuck (q / 2 * 2 + 1) a b
    go zero z P = let i = even q z in let w = add-mul q 1 b in let o = one-mul b in inr (last q, rw i (omega arith), rw i (omega arith))
    go (suc p) z P = let i = odd q (omega arith) in inr (last q, rw i (omega arith), rw i (omega arith))

module _ (s t : Bool) (x e y g : ℕ) where
  abbrev k : ℕ
  k = e - g

  abbrev B : ℕ
  B = 2 ^ k

  -- like signs
  pub added_like : (q d : ℕ) (rest : Bool) → beq s t ≡ true → q ≡ y / B → rest ≡ not (eqb (y % B) 0) → d ≡ stuck_bit (x + q) rest → Added s x e t y g s d (e + 1)
  added_like q d rest l hq hr hd =
      record {
        sign = ap (λ (i : Bool). cond i s (cond (ltb (x * B) y) t (s && ltb y (x * B)))) (sym l);
        unit = ap (λ (i : Bool). e + extra i) (sym l);
        stands =
            subst (λ (i : Bool). Stuck d (total_size i (x * B) y * 2) (2 ^ (k + extra i))) (sym l)
            (subst (λ (i : ℕ). Stuck i ((x * B + y) * 2) (2 ^ (k + 1))) (sym hd)
            (stuck_scale (stuck_bit (x + q) rest) (x * B + y) B ((x * B + y) * 2) (2 ^ (k + 1)) (pow_pos k) (pow_pos (k + 1))
            (ap (λ (i : ℕ). (x * B + y) * i) (pow-add 2 k 1) ∙ sym (mul_assoc (x * B + y) B 2) ∙ mul_right_comm (x * B + y) B 2)
            (stuck_bit_lem (x * B + y) B (x + q) (y % B) rest whole (mod-lt y (pow_pos k)) hr)));
      }
    where
      whole : x * B + y ≡ (x + q) * B + y % B
      whole = let h = div-add-mod' y B in rw hq (omega (arith, add-mul x (y / B) B))

  -- unlike signs: x * 2 against the whole part of y * 2 / B
  module _ (q : ℕ) (rest : Bool) (l : beq s t ≡ false) (hq : q ≡ y * 2 / B) (hr : rest ≡ not (eqb (y * 2 % B) 0)) where
    abbrev r : ℕ
    r = y * 2 % B

    abbrev v : ℕ
    v = x * 2

    v_is : v * B ≡ x * B * 2
    v_is = mul_right_comm x 2 B

    y_is : y * 2 ≡ q * B + r
    y_is = let h = div-add-mod' (y * 2) B in rw hq (omega arith)

    r_lt : r < B
    r_lt = mod-lt (y * 2) (pow_pos k)

    apart : (n : Bool) (d : ℕ) → n ≡ cond (ltb (x * B) y) t (s && ltb y (x * B)) → Stuck d ((x * B - y + (y - x * B)) * 2) B → Added s x e t y g n d e
    apart n d hn st =
        record {
          sign = hn ∙ ap (λ (i : Bool). cond i s (cond (ltb (x * B) y) t (s && ltb y (x * B)))) (sym l);
          unit = sym (add-zero e) ∙ ap (λ (i : Bool). e + extra i) (sym l);
          stands =
              subst (λ (i : Bool). Stuck d (total_size i (x * B) y * 2) (2 ^ (k + extra i))) (sym l)
              (subst (λ (i : ℕ). Stuck d ((x * B - y + (y - x * B)) * 2) (2 ^ i)) (sym (add-zero k)) st);
        }

    -- y is larger
    pub added_below : (c d : ℕ) → c ≡ cond rest (q + 1) q → v < c → d ≡ stuck_bit (q - v) rest → Added s x e t y g t d e
    added_below c d hc h hd =
        apart t d (sym (ap (λ (i : Bool). cond i t (s && ltb y (x * B))) (lt-ltb (x * B) y (under rest hr hc))))
        (subst (λ (i : ℕ). Stuck i ((x * B - y + (y - x * B)) * 2) B) (sym hd) (stuck_bit_lem ((x * B - y + (y - x * B)) * 2) B (q - v) r rest whole r_lt hr))
      where
        v_le : (rest : Bool) → c ≡ cond rest (q + 1) q → v ≤ q
        v_le true i = omega arith
        v_le false i = omega arith

        le : v * B ≤ q * B
        le = mul-le-mul_right B (v_le rest hc)

        under : (rest : Bool) → rest ≡ not (eqb r 0) → c ≡ cond rest (q + 1) q → x * B < y
        under true k i = let p = pos_of_ne-zero (eqb-false r 0 (not-true (eqb r 0) (sym k))) in omega (arith, le, v_is, y_is)
        under false k i = omega (arith, mul-le-mul_right B (next v q (omega arith)), add-mul v 1 B, one-mul B, pow_pos (e - g), v_is, y_is)
          where
            next : (v q : ℕ) → v < q → v + 1 ≤ q
            next v q h = omega arith

        whole : (x * B - y + (y - x * B)) * 2 ≡ (q - v) * B + r
        whole = let u = under rest hr hc in omega (arith, le, sub_mul q v B, v_is, y_is)

    -- x is, or both are the same
    pub added_above : (c d : ℕ) (n : Bool) → c ≡ cond rest (q + 1) q → c ≤ v → d ≡ stuck_bit (v - c) rest → n ≡ cond (eqb d 0) false s → Added s x e t y g n d e
    added_above c d n hc h hd hn = go rest hr hc hd
      where
        and_true : (s : Bool) → (s && true) ≡ s
        and_true true = refl
        and_true false = refl

        and_false : (s : Bool) → (s && false) ≡ false
        and_false true = refl
        and_false false = refl

        sign : (i : Bool) → eqb d 0 ≡ i → y ≤ x * B → (i ≡ true → x * B ≤ y) → (i ≡ false → y < x * B) → n ≡ cond (ltb (x * B) y) t (s && ltb y (x * B))
        sign true z u p o = hn ∙ ap (λ (i : Bool). cond i false s) z ∙ sym (and_false s) ∙ sym (ap (λ (i : Bool). s && i) (le-ltb y (x * B) (p refl))) ∙ sym (ap (λ (i : Bool). cond i t (s && ltb y (x * B))) (le-ltb (x * B) y u))
        sign false z u p o = hn ∙ ap (λ (i : Bool). cond i false s) z ∙ sym (and_true s) ∙ sym (ap (λ (i : Bool). s && i) (lt-ltb y (x * B) (o refl))) ∙ sym (ap (λ (i : Bool). cond i t (s && ltb y (x * B))) (le-ltb (x * B) y u))

        go : (rest : Bool) → rest ≡ not (eqb r 0) → c ≡ cond rest (q + 1) q → d ≡ stuck_bit (v - c) rest → Added s x e t y g n d e
        go true k i j =
            let p : 0 < r = pos_of_ne-zero (eqb-false r 0 (not-true (eqb r 0) (sym k))) in
            let m = mul-le-mul_right B h in
            let w : c * B ≡ q * B + B = ap (λ (z : ℕ). z * B) i ∙ add-mul q 1 B ∙ ap (λ (z : ℕ). q * B + z) (one-mul B) in
            let u : y < x * B = omega (arith, v_is, y_is, r_lt) in
            apart n d (sign (eqb d 0) refl (le_of_lt u) (λ z. absurd (omega (arith, eqb-true d 0 z))) (λ z. u))
            (subst (λ (i : ℕ). Stuck i ((x * B - y + (y - x * B)) * 2) B) (sym j)
            (stuck_bit_lem ((x * B - y + (y - x * B)) * 2) B (v - c) (B - r) true (omega (arith, v_is, y_is, r_lt, sub_mul v c B)) (omega (arith, r_lt)) (some (eqb (B - r) 0) refl)))
          where
            some : (i : Bool) → eqb (B - r) 0 ≡ i → true ≡ not i
            some true z = absurd (omega (arith, eqb-true (B - r) 0 z, r_lt))
            some false z = refl
        go false k i j =
            let z : r ≡ 0 = eqb-true r 0 (not-false (eqb r 0) (sym k)) in
            let m = mul-le-mul_right B h in
            let w : c * B ≡ q * B = ap (λ (z : ℕ). z * B) i in
            let u : y ≤ x * B = omega (arith, v_is, y_is) in
            let o : (x * B - y + (y - x * B)) * 2 ≡ d * B = omega (arith, v_is, y_is, sub_mul v c B, ap (λ (z : ℕ). z * B) j) in
            apart n d (sign (eqb d 0) refl u (λ f. let f' = eqb-true d 0 f in let f'' : d * B ≡ 0 * B = ap (λ (z : ℕ). z * B) f' in omega arith) (λ f. let f' = mul-pos (pos_of_ne-zero (eqb-false d 0 f)) (pow_pos (e - g)) in omega arith))
            (inl (sym o))
