-- `mix_parts` meets its contract: after each part the first i places are mixed. Assumes nothing.
use mathlib.Core.Path.{◌≡◌, ap, subst, ◌∙◌}
use Prim.Native.Nat.{ℕ, ◌+◌, ◌-◌, ◌≤◌, ◌<◌}
use native.Mathlib.Omega.{arith}
use lib.ListN.{length}
use borrow.Rule.Slice.PartMut.{mid_len, put_mid}
use Rattle.block.specs.Asked.{mixed_in}
use Rattle.block.proofs.Parts.{Mixing, none_mixed, mixing_length, values_there, part-mixed, all-mixed, smaller_of, mixed_long, mixed_there, part_input}
use Rattle.block.proofs.mix_parts.Goals as goal
use Rattle.block.proofs.mix_parts.Goals.{After-min-in-loop-i, After-mix_part}

module _ (c : After-min-in-loop-i) where
  kept : length c.loop-i.output ≡ length c.args.output.now
  kept = mixing_length _ _ (mixed_long c.args.bounds c.args.input.now c.args.output.now c.requires) c.loop-i.invariant

  some : c.loop-i.i < c.min-e.result
  some = omega (arith, c.min-e.ensures, c.loop-i-test.true)

  within : c.min-e.result ≤ length c.args.output.now
  within = omega (arith, c.min-e.ensures)

pub loop-i-init : goal.loop-i-init
loop-i-init c = none_mixed _ _ (mixed_long c.args.bounds c.args.input.now c.args.output.now c.requires)

pub mix_part-requires : goal.mix_part-requires
mix_part-requires c =
    let k = (goal.at.mix_part-requires c).After-min-in-loop-i in
    let a = c.args in
    let e : ℕ = c.min-e.result in
    let many = mid_len c.loop-i.i e c.loop-i.output (omega (arith, kept k, within k)) in
    (omega (arith, many, c.min-e.ensures), rw many (part_input a.input.now _ c.loop-i.i e c.requires (some k) (within k) (smaller_of c.min.ensures) (smaller_of c.min-in-loop-i.ensures)).fits)

-- a part more
mixed_more : (c : After-mix_part)
    → Mixing (mixed_in c.args.bounds c.args.input.now c.args.output.now) c.args.output.now c.min-e.result (put_mid c.loop-i.i (c.min-e.result - c.loop-i.i) c.loop-i.output c.mix_part.new.output)
mixed_more c =
    let a = c.args in
    let o = a.output.now in
    let ys = mixed_in a.bounds a.input.now o in
    let i : ℕ = c.loop-i.i in
    let e : ℕ = c.min-e.result in
    let some : i < e = omega (arith, c.min-e.ensures, c.loop-i-test.true) in
    let within : e ≤ length o = omega (arith, c.min-e.ensures) in
    let there : i + (e - i) ≡ e = omega (arith, some) in
    let many : length ys ≡ length o = mixed_long a.bounds a.input.now o c.requires in
    let is = c.mix_part.ensures
    ∙ ap (mixed_in a.bounds _) (values_there ys o many c.loop-i.invariant (e - i))
    ∙ mixed_there a.bounds a.input.now o c.requires i e some within (smaller_of c.min.ensures) (smaller_of c.min-in-loop-i.ensures) in
    rw there at (part-mixed ys o many c.loop-i.invariant (e - i) (omega (arith, within)) c.mix_part.new.output is)

pub loop-i-preserved : goal.loop-i-preserved
loop-i-preserved c =
    let a = c.args in
    let e : c.min-e.result ≡ c.loop-i.i + 128 = omega (arith, c.min-e.ensures) in
    subst
    (λ (k : ℕ). Mixing (mixed_in a.bounds a.input.now a.output.now) a.output.now k (put_mid c.loop-i.i (c.min-e.result - c.loop-i.i) c.loop-i.output c.mix_part.new.output))
    e
    (mixed_more (goal.at.loop-i-preserved c).After-mix_part)

pub returns : goal.returns
returns c = all-mixed _ _ (mixed_long c.args.bounds c.args.input.now c.args.output.now c.requires) c.loop-i.invariant c.loop-i-test.false

pub returns-2 : goal.returns-2
returns-2 c =
    let a = c.args in
    all-mixed _ _ (mixed_long a.bounds a.input.now a.output.now c.requires) (mixed_more (goal.at.returns-2 c).After-mix_part) (omega (arith, c.min-e.ensures))
