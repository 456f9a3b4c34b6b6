-- What the contract of the block settles: its samples lie within the range, its steps are those of the rules' walk, a ramp of no length leaves its end value, refused
-- nothing changes, and two results that it allows are the same. Assumes nothing.
use Rattle.std.proofs.Common.{Result, Ok, Err}
use mathlib.Core.Path.{◌≡◌, refl, sym, ap, subst, ◌∙◌}
use mathlib.Core.Bool.{true, false}
use mathlib.Core.List.{List, ◌∷◌}
use Prim.Native.Nat.{◌≤◌}
use lib.ListN.{length, take, drop}
use lib.Ieee.{Float}
use Rattle.rules.specs.declared.Event.{Event}
use Rattle.rules.specs.declared.Refusal.{Refusal}
use Rattle.rules.specs.Numbers.{plus_zero, is_finite, is_zero}
use Rattle.rules.specs.Queue.{attached}
use Rattle.rules.specs.Block.{Param, Call, Answer, infos_of, rendered, answer_of, answered_as, verdict_of, answered}
use Rattle.laws.proofs.Within.{AllWithin}
use Rattle.laws.proofs.Ramps.{Ramp, ramp_of_no_length as leaves-end, HeadAtItsEnd, waits_at_its_end as leaves-at-its-end}
use Rattle.laws.proofs.Answers.{answer_is, refused_block, samples_within, output_rest, output_length, at_most_129}
use Rattle.param.specs.declared.AudioParam.{AudioParam}
use Rattle.param.specs.declared.Processed.{Processed}
use Rattle.param.specs.Param.{param_of, struct_of, SoundParam}
use Rattle.param.specs.Processed.{Processes}
use Rattle.param.proofs.Calls.{whole, struct_back}

-- ---- two results

same : {a b : Processed} → a.verdict ≡ b.verdict → a.param ≡ b.param → a.steps ≡ b.steps → a.current ≡ b.current → a.one ≡ b.one → a ≡ b
same v p n c o = rw (v, p, n, c, o)

pub processes_settled : {p : AudioParam} {store after left : List Float} {c : Call} {r s : Processed} {output written : List Float} → Processes p store c r output after
    → Processes p store c s written left → (r ≡ s) × (output ≡ written) × (after ≡ left)
processes_settled a b = (
  same (a.verdict ∙ sym b.verdict) (a.param ∙ sym b.param) (a.steps ∙ sym b.steps) (a.current ∙ sym b.current) (a.one ∙ sym b.one),
  a.written ∙ sym b.written,
  a.left ∙ sym b.left,
)

module _ {p : AudioParam} {store after : List Float} {c : Call} {r : Processed} {output : List Float} (a : Processes p store c r output after) where
  -- the verdict is the lowest of the rows that apply
  pub verdict_is : r.verdict ≡ verdict_of (param_of p) store c
  unfolding answered
  verdict_is = a.verdict ∙ go (verdict_of (param_of p) store c)
    where
      go : (v : Result Unit Refusal) → (answered_as v (param_of p) store c).verdict ≡ v
      go (Ok _) = unfold answered_as answer_of in refl
      go (Err why) = unfold answered_as in refl

  -- ---- refused

  pub refused_keeps : {why : Refusal} → SoundParam p → r.verdict ≡ Err why
      → (r ≡ record { verdict = Err why; param = p; steps = 0; current = plus_zero; one = false }) × (output ≡ c.output) × (after ≡ store)
  refused_keeps {why} s h =
      let is = refused_block (param_of p) store c why (sym verdict_is ∙ h) in (
        same h (a.param ∙ ap (λ (x : Answer). struct_of x.param) is ∙ sym (whole p s)) (a.steps ∙ ap (λ (x : Answer). x.steps) is) (a.current ∙ ap (λ (x : Answer). x.current) is) (a.one ∙ ap (λ (x : Answer). x.one_valued) is),
        a.written ∙ ap (λ (x : Answer). x.output) is,
        a.left ∙ ap (λ (x : Answer). x.store) is,
      )

  -- ---- answered

  module _ (h : r.verdict ≡ Ok tt) where
    fine : verdict_of (param_of p) store c ≡ Ok tt
    fine = sym verdict_is ∙ h

    -- each of the count samples lies within minimum and maximum
    pub within : SoundParam p → AllWithin p.bounds (take c.count output)
    within s = rw a.written (samples_within (param_of p) store c fine s.sound)

    -- behind them the output is as it was
    pub rest_kept : drop c.count output ≡ drop c.count c.output
    rest_kept = rw a.written (output_rest (param_of p) store c fine)

    pub length-kept : length output ≡ length c.output
    length-kept = rw a.written (output_length (param_of p) store c fine)

    -- 02, C-18: a ramp filed at the very time of the step before it, where that time is the block's end, leaves its end value, a number
    pub ramp_of_no_length : SoundParam p → (u v t : Float) (e : Event) (rest : List Event) → (param_of p).queue ≡ Event.Step u t ∷ e ∷ rest
        → Ramp (record { time = t; value = u }) v t e → is_zero t ≡ false → (infos_of p.rate c).next ≡ t → (r.param.intrinsic ≡ v) × (is_finite v ≡ true)
    ramp_of_no_length s u v t e rest waits ramp z is =
        let left = leaves-end (param_of p) s.sound u v t e rest waits ramp z store c fine is in
        (ap (λ (x : AudioParam). x.intrinsic) a.param ∙ left.0, left.1)

    -- and whatever was before: where a ramp of no length waits first after the block, the intrinsic value is its end value
    pub waits_at_its_end : HeadAtItsEnd (param_of r.param).queue r.param.last r.param.intrinsic
    waits_at_its_end =
        subst (λ (q : Param). HeadAtItsEnd q.queue q.last q.intrinsic) (sym (ap param_of a.param ∙ struct_back _)) (leaves-at-its-end (param_of p) store c fine)

    -- the steps are those of the rules' own walk
    pub steps_are : r.steps ≡ (rendered (infos_of p.rate c) p.intrinsic p.last (attached (param_of p).queue store)).walk.steps
    unfolding answer_of
    steps_are = a.steps ∙ ap (λ (x : Answer). x.steps) (answer_is (param_of p) store c fine)

  -- and at most 129, refused or not
  pub steps_few : SoundParam p → r.steps ≤ 129
  steps_few s = rw a.steps (at_most_129 (param_of p) store c s.sound)
