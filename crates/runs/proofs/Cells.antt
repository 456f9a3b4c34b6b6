-- An exponential's samples by two products: where no midpoint lies between these, the sample is what the higher one rounds to. Assumes nothing.
use Rattle.std.proofs.Common.{◌≡◌, ℕ, ◌+◌, ◌-◌, ◌*◌, ◌/◌, ◌%◌, ◌^◌, ◌<◌, T, sym, refl, ap, ◌∙◌, subst, arith}
use lib.Ieee.{Float, binary64, fits, mul, of_bits}
use lib.Ieee.Bits.{to_bits-lt}
use lib.Ieee.Fits.{mul-fits}
use Rattle.rounding_laws.specs.Cut.{plain_cut}
use Rattle.decays.specs.Cell.{product, Middle}
use Rattle.decays.proofs.Products.{product_range, product_mono}
use Rattle.runs.specs.Placed.{InGrown, Grows, Celled, Ordered, OneCell, Grew}

leaves : (h : ℕ) → h < 2 ^ 64 → h % 2 ^ 63 < 1149 * 2 ^ 52 → h < 2 ^ 64 - 2 ^ 28
leaves h l m = omega arith

module _ (from : Float) (b n h l : ℕ) (y : Float) (fit : T (fits binary64 from)) (m : Middle from) (g : InGrown n) (c : Celled from n h l y) where
  pub ordered : Ordered h l
  ordered =
      subst (λ (k : ℕ). Ordered k l) (sym c.0)
      (subst (λ (k : ℕ). Ordered (product from n) k) (sym c.1)
      (product_mono from n m g.0 g.1, leaves (product from n) (to_bits-lt binary64 (mul binary64 from (of_bits binary64 n)) (mul-fits binary64 from (of_bits binary64 n))) (product_range from n fit m g.0 g.1).1))

  pub told : Grows b n → OneCell h l → Grew from b y
  told w o x t =
      let r = product_range from n fit m g.0 g.1 in
      c.2 ∙ ap (λ (k : ℕ). of_bits binary64 (plain_cut k)) c.0
      ∙ (w.1 x t).tells from (plain_cut (product from n)) m.fine
      (record {
        lo = r.0;
        hi = r.1;
        apart = subst (λ (k : ℕ). (k + 2 ^ 28) % 2 ^ 29 ≡ 0 → ⊥) c.1 o.0;
        same = subst (λ (k : ℕ). (product from (n - 41943040) + 2 ^ 28) / 2 ^ 29 ≡ (k + 2 ^ 28) / 2 ^ 29) c.0 (subst (λ (k : ℕ). (k + 2 ^ 28) / 2 ^ 29 ≡ (h + 2 ^ 28) / 2 ^ 29) c.1 o.1);
        cut = refl;
      })
