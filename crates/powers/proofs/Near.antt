-- The estimate is the falling power or up to 20 more. Assumes nothing.
use mathlib.Core.Path.{◌≡◌, sym, ap, ◌∙◌, subst}
use mathlib.Core.Bool.{Bool, true, false, cond, ◌&&◌}
use mathlib.Core.List.{List, [], ◌∷◌, ◌++◌}
use Prim.Native.Nat.{ℕ, zero, suc, ◌+◌, ◌-◌, ◌*◌, ◌/◌, ◌%◌, ◌^◌, ◌≤◌, ◌<◌}
use native.Mathlib.Nat.{le_refl, le_trans, le_of_eq, le_of_lt, mul_comm, mul_assoc, mul_left_comm, one-mul, add-mul, add_comm, zero-add, mul-add, mul-le-mul, mul-le-mul_left, mul-le-mul_right, div-mul-le_self, lt-div-mul-add, le_of_mul-le-mul_right}
use native.Mathlib.Omega.{arith}
use lib.Dec.{leb, eqb, lit<, lit≤}
use lib.ListN.{length, take, drop, get_or, length-append, get_or-append}
use lib.Seq.{get_or-append-add}
use borrow.Author.Tests.{leb-true}
use Rattle.rules.specs.Kernels.{table, falling_from, falling}
use Rattle.kernels.proofs.Powers.{both}
use Rattle.kernels.proofs.Roots.{table_is}
use Rattle.powers.specs.Estimates.{product_from, taken_first, taken_off, entries, estimates_from, estimates}
use Rattle.powers.proofs.Digits.{falling-append, product_last, entry_at, entries-length}

-- ---- floored at each digit, or not at all

-- every number is at most 2 ^ 32
small : List ℕ → Bool
small [] = true
small (c ∷ cs) = leb c 4294967296 && small cs

-- 2 ^ (32 m)
abbrev scale : ℕ → ℕ
scale zero = 1
scale (suc m) = 4294967296 * scale m

product_most : (cs : List ℕ) → small cs ≡ true → (a : ℕ) → product_from cs a ≤ scale (length cs)
unfolding small product_from
product_most [] h a = le_refl 1
product_most (c ∷ cs) h a =
    let s = both (leb c 4294967296) (small cs) h in
    go (eqb (a / 2 ^ length cs % 2) 1) (leb-true c 4294967296 s.0) (product_most cs s.1 a)
  where
    go : (b : Bool) → c ≤ 4294967296 → product_from cs a ≤ scale (length cs) → cond b c (2 ^ 32) * product_from cs a ≤ 4294967296 * scale (length cs)
    go true l i = mul-le-mul l i
    go false l i = mul-le-mul_left 4294967296 i

-- x stands for r * g / b, less than m below it
record Within (x r g b m : ℕ) : Type 0 where
  up : x * b ≤ r * g
  down : r * g ≤ (x + m) * b

within : (cs : List ℕ) → small cs ≡ true → (a r : ℕ) → Within (falling_from cs a r) r (product_from cs a) (scale (length cs)) (length cs)
unfolding small falling_from product_from
within [] h a r = let e : r + 0 ≡ r = omega arith in record { up = le_refl (r * 1); down = rw e (le_refl (r * 1)) }
within (c ∷ cs) h a r = go (eqb (a / 2 ^ length cs % 2) 1) (within cs (both (leb c 4294967296) (small cs) h).1 a) (product_most cs (both (leb c 4294967296) (small cs) h).1 a)
  where
    m : ℕ
    m = length cs

    g : ℕ
    g = product_from cs a

    more : (x b : ℕ) → (x + m) * (4294967296 * b) ≤ (x + suc m) * (4294967296 * b)
    more x b = mul-le-mul_right (4294967296 * b) (omega arith)

    tail : (x b : ℕ) → (x + suc m) * (4294967296 * b) ≡ 4294967296 * ((x + m) * b) + 4294967296 * b
    tail x b =
        let e : x + suc m ≡ x + m + 1 = omega arith in
        ap (λ (y : ℕ). y * (4294967296 * b)) e ∙ add-mul (x + m) 1 (4294967296 * b) ∙ ap (λ (y : ℕ). y + 1 * (4294967296 * b)) (mul_left_comm (x + m) 4294967296 b) ∙ ap (λ (y : ℕ). 4294967296 * ((x + m) * b) + y) (one-mul (4294967296 * b))

    go : (b : Bool) → ((s : ℕ) → Within (falling_from cs a s) s (product_from cs a) (scale (length cs)) (length cs)) → product_from cs a ≤ scale (length cs)
        → Within (falling_from cs a (cond b (r * c / 2 ^ 32) r)) r (cond b c (2 ^ 32) * product_from cs a) (4294967296 * scale (length cs)) (suc (length cs))
    go true rest most =
        let s = r * c / 4294967296 in
        let w = rest s in
        let x = falling_from cs a s in
        let b = scale m in
        let p : s * 4294967296 ≤ r * c = div-mul-le_self (r * c) 4294967296 in
        let q : r * c ≤ s * 4294967296 + 4294967296 = le_of_lt (lt-div-mul-add {a = r * c} {b = 4294967296} (omega arith)) in
        let i : x * (4294967296 * b) ≡ 4294967296 * (x * b) = mul_left_comm x 4294967296 b in
        let j : 4294967296 * (s * g) ≡ s * 4294967296 * g = sym (mul_assoc 4294967296 s g) ∙ ap (λ (y : ℕ). y * g) (mul_comm 4294967296 s) in
        let k : r * c * g ≡ r * (c * g) = mul_assoc r c g in
        let l : (s * 4294967296 + 4294967296) * g ≡ s * 4294967296 * g + 4294967296 * g = add-mul (s * 4294967296) 4294967296 g in
        let n : (x + suc m) * (4294967296 * b) ≡ 4294967296 * ((x + m) * b) + 4294967296 * b = tail x b in
        record {
          up = omega (arith, mul-le-mul_left 4294967296 w.up, mul-le-mul_right g p);
          down = omega (arith, mul-le-mul_right g q, mul-le-mul_left 4294967296 w.down, mul-le-mul_left 4294967296 most);
        }
    go false rest most =
        let w = rest r in
        let x = falling_from cs a r in
        record {
          up = rw (mul_left_comm x 4294967296 (scale m), mul_left_comm r 4294967296 g) (mul-le-mul_left 4294967296 w.up);
          down = le_trans (rw (mul_left_comm r 4294967296 g, mul_left_comm (x + m) 4294967296 (scale m)) (mul-le-mul_left 4294967296 w.down)) (more x (scale m));
        }

-- ---- t less t * d / w, floored, where d is w * (1 - g / P), floored: from t * g / P to 2 more

-- d is what is taken off
record Cut (P g w d : ℕ) : Type 0 where
  under : d * P + g * w ≤ w * P
  above : w * P ≤ (d + 1) * P + g * w

cut : (P g w : ℕ) → 0 < P → g ≤ P → Cut P g w ((P - g) * w / P)
cut P g w p h =
    let d = (P - g) * w / P in
    let e : P - g + g ≡ P = omega arith in
    let f : (P - g) * w + g * w ≡ w * P = sym (add-mul (P - g) g w) ∙ ap (λ (x : ℕ). x * w) e ∙ mul_comm P w in
    let k : (d + 1) * P ≡ d * P + P = add-mul d 1 P ∙ ap (λ (x : ℕ). d * P + x) (one-mul P) in
    let l : d * P ≤ (P - g) * w = div-mul-le_self ((P - g) * w) P in
    let n : (P - g) * w < d * P + P = lt-div-mul-add p in
    record { under = omega arith; above = omega arith }

module _ (P t u d g w : ℕ) (W : 0 < w) (few : t ≤ w) (e : u + t * d / w ≡ t) (c : Cut P g w d) where
  whole : u * (w * P) + t * d / w * (w * P) ≡ t * (w * P)
  whole = sym (add-mul u (t * d / w) (w * P)) ∙ ap (λ (x : ℕ). x * (w * P)) e

  -- what t * d / w stands for, times w * P
  off : t * d / w * (w * P) ≡ t * d / w * w * P
  off = sym (mul_assoc (t * d / w) w P)

  cut_up : t * g ≤ u * P
  cut_up =
      let a : t * d / w * w * P ≤ t * d * P = mul-le-mul_right P (div-mul-le_self (t * d) w) in
      let b : t * (d * P + g * w) ≤ t * (w * P) = mul-le-mul_left t c.under in
      let f : t * (d * P + g * w) ≡ t * d * P + t * g * w = mul-add t (d * P) (g * w) ∙ ap (λ (x : ℕ). x + t * (g * w)) (sym (mul_assoc t d P)) ∙ ap (λ (x : ℕ). t * d * P + x) (sym (mul_assoc t g w)) in
      let k : u * (w * P) ≡ u * P * w = ap (λ (x : ℕ). u * x) (mul_comm w P) ∙ sym (mul_assoc u P w) in
      le_of_mul-le-mul_right {k = w} (omega (arith, whole, off)) W

  cut_down : u * P ≤ t * g + 2 * P
  cut_down =
      let a : t * d * P ≤ (t * d / w * w + w) * P = mul-le-mul_right P (le_of_lt (lt-div-mul-add {a = t * d} {b = w} W)) in
      let a' : (t * d / w * w + w) * P ≡ t * d / w * w * P + w * P = add-mul (t * d / w * w) w P in
      let b : t * (w * P) ≤ t * ((d + 1) * P + g * w) = mul-le-mul_left t c.above in
      let f : t * ((d + 1) * P + g * w) ≡ t * d * P + t * P + t * g * w = expand in
      let s : t * P ≤ w * P = mul-le-mul_right P few in
      let k : u * (w * P) ≡ u * P * w = ap (λ (x : ℕ). u * x) (mul_comm w P) ∙ sym (mul_assoc u P w) in
      let l : (t * g + 2 * P) * w ≡ t * g * w + 2 * (w * P) = add-mul (t * g) (2 * P) w ∙ ap (λ (x : ℕ). t * g * w + x) (mul_assoc 2 P w ∙ ap (λ (x : ℕ). 2 * x) (mul_comm P w)) in
      le_of_mul-le-mul_right {k = w} (omega (arith, whole, off)) W
    where
      expand : t * ((d + 1) * P + g * w) ≡ t * d * P + t * P + t * g * w
      expand =
          mul-add t ((d + 1) * P) (g * w)
          ∙ ap (λ (x : ℕ). t * x + t * (g * w)) (add-mul d 1 P ∙ ap (λ (x : ℕ). d * P + x) (one-mul P))
          ∙ ap (λ (x : ℕ). x + t * (g * w)) (mul-add t (d * P) P ∙ ap (λ (x : ℕ). x + t * P) (sym (mul_assoc t d P)))
          ∙ ap (λ (x : ℕ). t * d * P + t * P + x) (sym (mul_assoc t g w))

-- ---- two cuts, one after the other
module _ (P t u e x y g h : ℕ) (pos : 0 < P) (less : h ≤ P) where
  two_up : x * P ≤ t * g → t * g ≤ u * P → y * P ≤ x * h → u * h ≤ e * P → y ≤ e
  two_up a b c d =
      le_of_mul-le-mul_right {k = P}
      (le_trans c (le_trans (mul-le-mul_right h (le_of_mul-le-mul_right {k = P} (le_trans a b) pos)) d))
      pos

  two_down : t * g ≤ (x + 8) * P → u * P ≤ t * g + 2 * P → x * h ≤ (y + 8) * P → e * P ≤ u * h + 2 * P → e ≤ y + 20
  two_down a b c d =
      let f : (x + 10) * P ≡ (x + 8) * P + 2 * P = ap (λ (z : ℕ). z * P) (ten x) ∙ add-mul (x + 8) 2 P in
      let first : u ≤ x + 10 = le_of_mul-le-mul_right {k = P} (omega arith) pos in
      let i : u * h ≤ (x + 10) * h = mul-le-mul_right h first in
      let j : (x + 10) * h ≡ x * h + 10 * h = add-mul x 10 h in
      let k : 10 * h ≤ 10 * P = mul-le-mul_left 10 less in
      let l : (y + 20) * P ≡ (y + 8) * P + 12 * P = ap (λ (z : ℕ). z * P) (twenty y) ∙ add-mul (y + 8) 12 P in
      le_of_mul-le-mul_right {k = P} (omega arith) pos
    where
      ten : (x : ℕ) → x + 10 ≡ x + 8 + 2
      ten x = omega arith

      twenty : (y : ℕ) → y + 20 ≡ y + 8 + 12
      twenty y = omega arith

-- ---- where the table's parts are taken off, one after the other

module _ (xs ys zs : List ℕ) (ly : length ys ≡ 8) (lz : length zs ≡ 8) (sy : small ys ≡ true) (sz : small zs ≡ true) (a r : ℕ) where
  by_parts : falling_from (xs ++ (ys ++ zs)) a r ≡ falling_from zs a (falling_from ys (a / 2 ^ 8) (falling_from xs (a / 2 ^ 16) r))
  by_parts =
      let e : length (ys ++ zs) ≡ 16 = length-append ys zs ∙ omega arith in
      falling-append xs (ys ++ zs) a r ∙ rw (e, falling-append ys zs a (falling_from xs (a / 2 ^ 16) r), lz)

  module _ (t u e d f : ℕ) (it : t ≡ falling_from xs (a / 2 ^ 16) r) (few : t ≤ 2 ^ 32) (fewer : u ≤ 2 ^ 32) (id : d ≡ taken_off ys (2 ^ 40) (a / 2 ^ 8 % 2 ^ 8)) (iu : u + t * d / 2 ^ 40 ≡ t)
      (if : f ≡ taken_off zs (2 ^ 48) (a % 2 ^ 8)) (ie : e + u * f / 2 ^ 48 ≡ u) where
    abbrev x : ℕ
    x = falling_from ys (a / 2 ^ 8) t

    abbrev y : ℕ
    y = falling_from zs a x

    abbrev g : ℕ
    g = product_from ys (a / 2 ^ 8)

    abbrev h : ℕ
    h = product_from zs a

    g_most : g ≤ 2 ^ 256
    g_most = subst (λ (n : ℕ). g ≤ scale n) ly (product_most ys sy (a / 2 ^ 8))

    h_most : h ≤ 2 ^ 256
    h_most = subst (λ (n : ℕ). h ≤ scale n) lz (product_most zs sz a)

    first : Within x t g (2 ^ 256) 8
    first = subst (λ (n : ℕ). Within x t g (scale n) n) ly (within ys sy (a / 2 ^ 8) t)

    second : Within y x h (2 ^ 256) 8
    second = subst (λ (n : ℕ). Within y x h (scale n) n) lz (within zs sz a x)

    cut_one : Cut (2 ^ 256) g (2 ^ 40) d
    cut_one = subst (Cut (2 ^ 256) g (2 ^ 40)) (sym (id ∙ one)) (cut (2 ^ 256) g (2 ^ 40) (lit< tt) g_most)
      where
        one : taken_off ys (2 ^ 40) (a / 2 ^ 8 % 2 ^ 8) ≡ (2 ^ 256 - g) * 2 ^ 40 / 2 ^ 256
        one = unfold taken_off in rw (product_last (a / 2 ^ 8) 8 ys (le_of_eq ly))

    cut_two : Cut (2 ^ 256) h (2 ^ 48) f
    cut_two = subst (Cut (2 ^ 256) h (2 ^ 48)) (sym (if ∙ two)) (cut (2 ^ 256) h (2 ^ 48) (lit< tt) h_most)
      where
        two : taken_off zs (2 ^ 48) (a % 2 ^ 8) ≡ (2 ^ 256 - h) * 2 ^ 48 / 2 ^ 256
        two = unfold taken_off in rw (product_last a 8 zs (le_of_eq lz))

    close : (y ≤ e) × (e ≤ y + 20)
    close =
        let p = cut_up (2 ^ 256) t u d g (2 ^ 40) (lit< tt) (le_trans few (lit≤ tt)) iu cut_one in
        let q = cut_up (2 ^ 256) u e f h (2 ^ 48) (lit< tt) (le_trans fewer (lit≤ tt)) ie cut_two in
        let v = cut_down (2 ^ 256) t u d g (2 ^ 40) (lit< tt) (le_trans few (lit≤ tt)) iu cut_one in
        let w = cut_down (2 ^ 256) u e f h (2 ^ 48) (lit< tt) (le_trans fewer (lit≤ tt)) ie cut_two in (
          two_up (2 ^ 256) t u e x y g h (lit< tt) h_most first.up p second.up q,
          two_down (2 ^ 256) t u e x y g h (lit< tt) h_most first.down v second.down w,
        )

    close_by : (falling_from (xs ++ (ys ++ zs)) a r ≤ e) × (e ≤ falling_from (xs ++ (ys ++ zs)) a r + 20)
    close_by = rw (by_parts, ← it) close

-- ---- and of the table itself

abbrev firsts : List ℕ
firsts = take 8 table

abbrev seconds : List ℕ
seconds = take 8 (drop 8 table)

abbrev thirds : List ℕ
thirds = drop 16 table

split : table ≡ firsts ++ (seconds ++ thirds)
split = rw table_is

firsts_small : small firsts ≡ true
unfolding small
firsts_small = rw table_is

seconds_small : small seconds ≡ true
unfolding small
seconds_small = rw table_is

thirds_small : small thirds ≡ true
unfolding small
thirds_small = rw table_is

seconds_eight : length seconds ≡ 8
seconds_eight = rw table_is

thirds_eight : length thirds ≡ 8
thirds_eight = rw table_is

scale_pos : (m : ℕ) → 0 < scale m
scale_pos zero = omega arith
scale_pos (suc m) = omega (arith, scale_pos m)

falling_less : (cs : List ℕ) → small cs ≡ true → (a r : ℕ) → falling_from cs a r ≤ r
falling_less cs h a r = le_of_mul-le-mul_right {k = scale (length cs)} (le_trans (within cs h a r).up (mul-le-mul_left r (product_most cs h a))) (scale_pos (length cs))

abbrev at_first : List ℕ
at_first = entries (taken_first table) 256 0

abbrev at_second : List ℕ
at_second = entries (taken_off seconds (2 ^ 40)) 256 0

abbrev at_third : List ℕ
at_third = entries (taken_off thirds (2 ^ 48)) 256 0

module _ (i : ℕ) (h : i < 256) where
  first_entry : get_or estimates i 0 ≡ taken_first table i
  unfolding estimates estimates_from
  first_entry = get_or-append at_first (at_second ++ at_third) 0 i (subst (λ (n : ℕ). i < n) (sym (entries-length (taken_first table) 256 0)) h) ∙ entry_at (taken_first table) 256 0 i h ∙ ap (taken_first table) (zero-add i)

  second_entry : get_or estimates (i + 256) 0 ≡ taken_off seconds (2 ^ 40) i
  unfolding estimates estimates_from
  second_entry =
      let e : i + 256 ≡ length at_first + i = ap (λ (n : ℕ). i + n) (sym (entries-length (taken_first table) 256 0)) ∙ add_comm i (length at_first) in
      ap (λ (n : ℕ). get_or (at_first ++ (at_second ++ at_third)) n 0) e ∙ get_or-append-add at_first (at_second ++ at_third) i 0
      ∙ get_or-append at_second at_third 0 i (subst (λ (n : ℕ). i < n) (sym (entries-length (taken_off seconds (2 ^ 40)) 256 0)) h)
      ∙ entry_at (taken_off seconds (2 ^ 40)) 256 0 i h ∙ ap (taken_off seconds (2 ^ 40)) (zero-add i)

  third_entry : get_or estimates (i + 512) 0 ≡ taken_off thirds (2 ^ 48) i
  unfolding estimates estimates_from
  third_entry =
      let e : i + 512 ≡ length at_first + (length at_second + i) = rw (entries-length (taken_first table) 256 0, entries-length (taken_off seconds (2 ^ 40)) 256 0) (omega arith) in
      ap (λ (n : ℕ). get_or (at_first ++ (at_second ++ at_third)) n 0) e ∙ get_or-append-add at_first (at_second ++ at_third) (length at_second + i) 0
      ∙ get_or-append-add at_second at_third i 0
      ∙ entry_at (taken_off thirds (2 ^ 48)) 256 0 i h ∙ ap (taken_off thirds (2 ^ 48)) (zero-add i)

-- what the first entry leaves
pub first_left : (i : ℕ) → i < 256 → (get_or estimates i 0 ≤ 2 ^ 32) × (2 ^ 32 - get_or estimates i 0 ≡ falling_from firsts i (2 ^ 32))
unfolding taken_first
first_left i h =
    let l = falling_less firsts firsts_small i (2 ^ 32) in
    rw (first_entry i h) (omega arith, omega arith)

pub near : (a t u e d f : ℕ) → a < 2 ^ 24 → t ≡ 2 ^ 32 - get_or estimates (a / 2 ^ 16) 0 → u ≤ 2 ^ 32 → d ≡ get_or estimates (a / 2 ^ 8 % 2 ^ 8 + 256) 0 → u + t * d / 2 ^ 40 ≡ t
    → f ≡ get_or estimates (a % 2 ^ 8 + 512) 0 → e + u * f / 2 ^ 48 ≡ u → (falling a ≤ e) × (e ≤ falling a + 20)
unfolding falling
near a t u e d f A it fewer id iu if ie =
    let l = first_left (a / 2 ^ 16) (omega arith) in
    rw split
    (close_by firsts seconds thirds seconds_eight thirds_eight seconds_small thirds_small a (2 ^ 32) t u e d f (it ∙ l.1) (omega arith) fewer (id ∙ second_entry (a / 2 ^ 8 % 2 ^ 8) (omega arith)) iu
    (if ∙ third_entry (a % 2 ^ 8) (omega arith)) ie)

-- the later digits, behind what the first entry leaves
pub later : (a : ℕ) → a < 2 ^ 24 → falling_from (drop 8 table) a (2 ^ 32 - get_or estimates (a / 2 ^ 16) 0) ≡ falling a
unfolding falling
later a A =
    let e : length (drop 8 table) ≡ 16 = rw table_is in
    let f : table ≡ firsts ++ drop 8 table = rw table_is in
    ap (falling_from (drop 8 table) a) ((first_left (a / 2 ^ 16) (omega arith)).1 ∙ ap (λ (n : ℕ). falling_from firsts (a / 2 ^ n) (2 ^ 32)) (sym e))
    ∙ sym (ap (λ (cs : List ℕ). falling_from cs a (2 ^ 32)) f ∙ falling-append firsts (drop 8 table) a (2 ^ 32))
