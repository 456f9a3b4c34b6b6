-- What is seen of a call from outside is what it costs by the rules. Assumes nothing.
use Rattle.std.proofs.Common.{Result, Ok, Err}
use Rattle.rules.specs.declared.Refusal.{Refusal}
use mathlib.Core.Path.{◌≡◌, refl, ap}
use mathlib.Core.List.{List}
use Prim.Native.Nat.{suc, ◌+◌, ◌-◌}
use native.Mathlib.Omega.{arith}
use lib.Ieee.{Float}
use Rattle.rules.specs.Block.{Param, Command, Called, called, Call, Answer, verdict_of, answer_of, answered}
use Rattle.laws.specs.Sound.{Sound}
use Rattle.laws.proofs.Answers.{refused_block, answer_is}
use Rattle.costs.specs.declared.Totals.{Totals}
use Rattle.costs.specs.Costs.{waiting_in, once_answered, storing, cancelling, command_cost, block_cost}
use Rattle.costs.specs.Seen.{command_seen, block_seen}
use Rattle.costs.proofs.Costs.{Does, stores, cancels, command_does, Plays, block_plays}

does_seen : (p : Param) (r : Called) (t : Totals) → Does p r t → command_seen (waiting_in p) (waiting_in r.param) ≡ t
unfolding command_seen storing cancelling
does_seen p r t (stores h) =
    let more : waiting_in r.param - waiting_in p ≡ once_answered r.verdict = omega (arith, h.0) in
    let none : waiting_in p - waiting_in r.param ≡ 0 = omega (arith, h.0) in
    rw (more, none)
does_seen p r t (cancels h) = let none : waiting_in r.param - waiting_in p ≡ 0 = omega (arith, h.0) in rw none

pub command_seen_lem : (p : Param) (store : List Float) (c : Command) → Sound p
    → command_seen (waiting_in p) (waiting_in (called p store c).param) ≡ command_cost p (called p store c) c
command_seen_lem p store c s = does_seen p (called p store c) _ (command_does p store c s)

plays_seen : (p : Param) (a : Answer) → Plays p a → a.verdict ≡ Ok tt
    → block_seen a.verdict a.steps (waiting_in p) (waiting_in a.param) ≡ block_cost a
unfolding block_seen block_cost once_answered
plays_seen p a h e =
    let steps : a.steps ≡ 1 + (a.finished + a.turned) = rw e at h.steps in
    let finished : waiting_in p - waiting_in a.param ≡ a.finished = omega (arith, h.finished) in
    let turned : a.steps - suc a.finished ≡ a.turned = omega arith in
    rw (e, finished, turned)

pub block_seen_lem : (p : Param) (store : List Float) (c : Call)
    → block_seen (answered p store c).verdict (answered p store c).steps (waiting_in p) (waiting_in (answered p store c).param) ≡ block_cost (answered p store c)
block_seen_lem p store c = go (verdict_of p store c) refl
  where
    go : (v : Result Unit Refusal) → verdict_of p store c ≡ v
        → block_seen (answered p store c).verdict (answered p store c).steps (waiting_in p) (waiting_in (answered p store c).param) ≡ block_cost (answered p store c)
    go (Ok _) e = plays_seen p (answered p store c) (block_plays p store c) (unfold answer_of in ap (λ (a : Answer). a.verdict) (answer_is p store c e))
    go (Err r) e = rw (refused_block p store c r e) (unfold block_seen block_cost once_answered in refl)
