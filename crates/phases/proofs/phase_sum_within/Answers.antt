-- `phases::phase_sum_within` meets its contract: the phase by its pattern (`proofs/Phase.antt`), and its sum. Assumes nothing.
use borrow.Author.Rules.{rules}
use mathlib.Core.Path.{◌≡◌, sym, ap, ◌∙◌, subst}
use Prim.Native.Nat.{ℕ, ◌*◌, ◌/◌, ◌%◌, ◌^◌, ◌≤◌, ◌<◌}
use native.Mathlib.Nat.{le_trans}
use native.Mathlib.Omega.{arith}
use lib.Dec.{T}
use lib.Ieee.{Float, binary32, binary64, of_bits, to_bits, fits}
use lib.Ieee.Bits.{to_bits-of_bits}
use Rattle.rules.specs.Numbers.{narrowed, fused}
use Rattle.phases.specs.Once.{Once, Served}
use Rattle.phases.proofs.Phase.{cut, cut_small, cut_nan, phase_is, phase_nan, phase_fits}
use Rattle.phases.proofs.phase_sum_within.Goals as goal
use Rattle.phases.proofs.phase_sum_within.Goals.{Start}

held : (c : Start) → T (fits binary64 c.args.x)
held c = subst T (sym c.well_formed.1.0.1) tt

cut_field : (b x : ℕ) → b ≤ 1023 * 2 ^ 52 → x ≤ b → x / 2 ^ 52 ≤ cut b % 2 ^ 63 / 2 ^ 52
cut_field b x hi h = go (b / 2 ^ 29) (cut b) (cut_small b hi) (omega arith) (omega arith)
  where
    go : (d n : ℕ) → n ≤ 1023 * 2 ^ 52 → d * 2 ^ 29 ≤ n → x / 2 ^ 52 ≤ d / 2 ^ 23 → x / 2 ^ 52 ≤ n % 2 ^ 63 / 2 ^ 52
    go d n l g k = omega arith

module _ (a : Start) where
  abbrev b : ℕ
  b = to_bits binary64 a.args.x

  abbrev phase : Float
  phase = of_bits binary64 (cut b)

  abbrev o : Once a.args.a a.args.c a.args.bx
  o = a.requires.once.0

  abbrev least : 898 * 2 ^ 52 ≤ b
  least = le_trans o.first a.requires.once.1.0

  abbrev most : b ≤ 1023 * 2 ^ 52
  most = a.requires.once.1.1

  is : phase ≡ narrowed a.args.x
  is = phase_is a.args.x (held a) least most

  bits : to_bits binary64 phase ≡ cut b
  bits = to_bits-of_bits binary64 (cut b) (wider (cut b) (cut_small b most)) (phase_nan a.args.x (held a) least most)
    where
      wider : (n : ℕ) → n ≤ 1023 * 2 ^ 52 → n < 2 ^ 64
      wider n h = omega arith

  served : Served a.args.a a.args.c phase
  served =
      record {
        bx = a.args.bx;
        once = o;
        fit = phase_fits a.args.x (held a) least most;
        from = subst (λ (n : ℕ). a.args.bx / 2 ^ 52 ≤ n % 2 ^ 63 / 2 ^ 52) (sym bits) (cut_field b a.args.bx most a.requires.once.1.0);
        upto = subst (λ (n : ℕ). n ≤ 1023 * 2 ^ 52) (sym bits) (cut_small b most);
      }

pub float_to_bits-b : goal.float_to_bits-b
float_to_bits-b c = c.requires.once.1.2

pub overflow_add-q : goal.overflow_add-q
overflow_add-q c = search rules

pub overflow_add-q-2 : goal.overflow_add-q-2
overflow_add-q-2 c = search rules

pub float_from_bits-q : goal.float_from_bits-q
float_from_bits-q c = cut_nan c.args.x (held c) (least c) (most c)

pub sum_once-requires : goal.sum_once-requires
sum_once-requires c = record {
  t = c.requires.t;
  served = served c;
}

pub returns : goal.returns
returns c = let s = (goal.at.returns c).Start in c.sum_once.ensures ∙ ap (λ (v : Float). fused binary32 c.args.a v c.args.c) (is s)
