-- `runs::target_told` meets its contract. Assumes nothing.
use Rattle.std.proofs.Common.{◌≡◌, true, ℕ, ◌+◌, ◌-◌, ◌*◌, ◌/◌, ◌^◌, ◌≤◌, length, sym, ◌∙◌, subst, arith, eqb-true}
use lib.Ieee.{Float}
use Rattle.std.specs.Prelude.{Option, Some, None, IfSome}
use Rattle.std.specs.Option.{unwrap_or}
use Rattle.samples.specs.At.{target_at}
use Rattle.phases.specs.Once.{Once}
use Rattle.runs.specs.Rising.{Rises}
use Rattle.runs.specs.Passes.{begun}
use Rattle.runs.proofs.Begun.{run-begun, none_before}
use Rattle.runs.proofs.Later.{not_before}
use Rattle.runs.proofs.target_told.Goals as goal

-- from a whole power of two on
once_cut : (a c : Float) (o : Option ℕ) (bx few : ℕ) → bx ≡ unwrap_or o 0 → IfSome o (Once a c) → few ≤ 124 → few + bx / 2 ^ 52 ≡ 1022 → Once a c ((1022 - few) * 2 ^ 52)
once_cut a c None bx few u w f e = absurd (omega arith)
once_cut a c (Some from) bx few u w f e = go (subst (Once a c) (sym u) w)
  where
    cut : (b few : ℕ) → few + b ≡ 1022 → (1022 - few) * 2 ^ 52 / 2 ^ 52 ≡ b
    cut b few e = omega arith

    first : (few : ℕ) → few ≤ 124 → 898 * 2 ^ 52 ≤ (1022 - few) * 2 ^ 52
    first few f = omega arith

    go : Once a c bx → Once a c ((1022 - few) * 2 ^ 52)
    go o = record { high = o.high; grid = o.grid; few = o.few; over = o.over; over_c = o.over_c; least = o.least; most = o.most; first = first few f; room = subst (λ (n : ℕ). o.high + 1017 ≤ o.grid + n) (sym (cut (bx / 2 ^ 52) few e)) o.room; third = o.third }

pub target_shown-requires : goal.target_shown-requires
target_shown-requires c =
    let f = c.few_from-few in
    record {
      out_len_bound = (c.requires.out_len_bound, f.ensures, λ e. once_cut _ _ c.once_from.result c.unwrap_or-b.result f.result c.unwrap_or-b.ensures c.once_from.ensures f.ensures (eqb-true _ _ e));
    }

pub returns-then-start_time-times : goal.returns-then-start_time-times
returns-then-start_time-times c = λ t v.
    let a = c.args in
    let r : Rises a.start_time a.constant a.times.first a.times.period = record { steady = c.is_steady_for.ensures c.if-is_steady_for.true; started = c.is_begun.ensures c.if-is_begun.true } in
    let begins : begun a.start_time a.times.period (length a.out.now) a.times.first ≡ true =
    none_before a.start_time a.times.period (length a.out.now) a.times.first
    (not_before a.start_time a.constant a.times.first a.times.period r.steady.start_plain.2 r.started.time_plain.2 r.steady.period_plain.2 r) in
    c.target_shown.ensures t
    ∙ sym (run-begun a.start_time a.times.period v (target_at a.start_time a.constant a.line.«c» a.line.a) (length a.out.now) a.times.first begins)
