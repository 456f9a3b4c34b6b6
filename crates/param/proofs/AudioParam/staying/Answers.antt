-- `staying` meets its contract. Assumes nothing.
use mathlib.Core.Path.{◌≡◌, sym, ap, ◌∙◌}
use Prim.Native.Nat.{ℕ}
use native.Mathlib.Omega.{arith}
use lib.ListN.{drop}
use Rattle.timeline.specs.Timeline.{made}
use Rattle.curves.proofs.Calls.{consumed_events, untouched_part}
use Rattle.param.specs.Param.{param_of}
use Rattle.param.proofs.Plays.{gives}
use Rattle.param.proofs.AudioParam.staying.Goals as goal

pub numbers_waiting-requires : goal.numbers_waiting-requires
numbers_waiting-requires c = (c.requires.0, omega (arith, c.requires.1))

pub zero_behind-requires : goal.zero_behind-requires
zero_behind-requires c = omega (arith, c.numbers_waiting.ensures, c.requires.1)

pub returns : goal.returns
returns c =
    let a = c.args in
    let q = (param_of a.self).queue in
    let o = a.part.now in
    let n : a.played.at ≡ 0 = c.requires.2 in
    gives a.self a.infos a.played a.self.timeline _
    (record {
      queue = c.requires.0.clean ∙ ap made (ap (λ (k : ℕ). drop k q) (sym n) ∙ consumed_events q o c.requires.1 a.played.at);
      part = c.zero_behind.ensures ∙ untouched_part q o c.requires.1 a.played.at c.numbers_waiting.result c.numbers_waiting.ensures n;
    })
    c.replace_peek-timeline.ensures c.after.ensures
