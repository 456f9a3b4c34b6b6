-- The events of a schedule file are calls on a parameter just made, each of which stored one: so that what a load counts is what they cost. Assumes nothing.
use Rattle.std.proofs.Common.{Result, Ok, Err}
use Rattle.rules.specs.declared.Refusal.{Refusal}
use mathlib.Core.Path.{◌≡◌, refl, sym, ap, ◌∙◌, subst}
use mathlib.Core.Bool.{Bool, true, false, cond, not, ◌&&◌}
use mathlib.Core.List.{List, [], ◌∷◌, ◌++◌}
use Prim.Native.Nat.{ℕ, zero, suc, ◌+◌, ◌-◌}
use native.Mathlib.Omega.{arith}
use lib.Dec.{eqb}
use lib.ListN.{length, drop}
use lib.Ieee.{Float}
use Rattle.rules.specs.declared.Bounds.{Bounds}
use Rattle.rules.specs.declared.AutomationRate.{AutomationRate}
use Rattle.rules.specs.declared.AutomationRate.TheVariants as Rate
use Rattle.rules.specs.Refusals.{lowest, making_rows}
use Rattle.rules.specs.Block.{Param, made, step, linear, exponential, target, curve, Called, called}
use Rattle.laws.specs.Sound.{Sound}
use Rattle.laws.proofs.Kept.{made-fresh, made_sound, called_sound}
use Rattle.costs.specs.declared.Totals.{Totals}
use Rattle.costs.specs.Costs.{Asked, command, left, left_by_all, waiting_in, once_answered, storing, command_cost, cost_of, plus, totals}
use Rattle.costs.specs.Seen.{command_seen}
use Rattle.costs.proofs.Costs.{one_more_left, one_more_costs}
use Rattle.costs.proofs.Seen.{command_seen_lem}
use Rattle.words.specs.Words.{single_at, double_at, singles_at}
use Rattle.card.specs.declared.Fault.{Fault}
use Rattle.card.specs.Card.{tag_of, is_tag, is_range, is_wrong, is_misplaced, is_whole, is_accepted, numbers_in, bounds_in, event_in, time_of, is_out_of_turn, Reader, refused_by, ranged_as, taken_as, event_turn, contents_turn, field_turn, Reading, stopped, taken, fed, begun, end_turn, at_end, read, field_length}
use Rattle.desk.specs.Desk.{events_stored}
use Rattle.desk.proofs.Turns.{no_range}

-- a parameter that was made so and has had these calls, each of which stored an event
pub record Scheduled (p : Param) : Type 0 where
  pub bounds : Bounds
  pub rate : AutomationRate
  pub edition : ℕ
  pub calls : List Asked
  pub param : p ≡ left_by_all (made bounds rate edition) calls
  pub totals : totals (made bounds rate edition) calls ≡ events_stored (waiting_in p)
  pub sound : Sound p

just_made : (b : Bounds) (r : AutomationRate) (n : ℕ) {p : Param} → made b r n ≡ p → Scheduled p
unfolding left_by_all totals
just_made b r n {p} e =
    let none : waiting_in p ≡ 0 = ap waiting_in (sym e ∙ made-fresh b r n) in
    record { bounds = b; rate = r; edition = n; calls = []; param = sym e; totals = rw none; sound = subst Sound e (made_sound b r n) }

-- ---- one event more

-- a field's event is a call that schedules
event_costs : (bs : List ℕ) (p : Param) (r : Called) → command_cost p r (event_in bs) ≡ storing r.verdict
unfolding event_in command_cost
event_costs bs p r = go (eqb (tag_of bs) 1) (eqb (tag_of bs) 2) (eqb (tag_of bs) 3) (eqb (tag_of bs) 4)
  where
    go : (a b c d : Bool)
        → command_cost p r
        (cond a (step (single_at bs 3) (double_at bs 7))
        (cond b (linear (single_at bs 3) (double_at bs 7))
        (cond c (exponential (single_at bs 3) (double_at bs 7))
        (cond d (target (single_at bs 3) (double_at bs 7) (double_at bs 15)) (curve (double_at bs 3) (double_at bs 11) (singles_at bs 19 (numbers_in bs)))))))
        ≡ storing r.verdict
    go true b c d = refl
    go false true c d = refl
    go false false true d = refl
    go false false false true = refl
    go false false false false = refl

module _ (bs : List ℕ) (p : Param) (store : List Float) (k : Scheduled p) (e : (called p store (event_in bs)).verdict ≡ Ok tt) where
  abbrev after : Param
  after = (called p store (event_in bs)).param

  costs_one : command_cost p (called p store (event_in bs)) (event_in bs) ≡ events_stored 1
  unfolding storing once_answered
  costs_one = event_costs bs p (called p store (event_in bs)) ∙ ap storing e

  waits_one : waiting_in after ≡ waiting_in p + 1
  unfolding command_seen
  waits_one =
      let seen : waiting_in after - waiting_in p ≡ 1 = ap (λ (t : Totals). t.stored) (command_seen_lem p store (event_in bs) k.sound ∙ costs_one) in
      omega (arith, seen)

  one_event_more : Scheduled after
  unfolding left cost_of plus
  one_event_more =
      let first : Param = made k.bounds k.rate k.edition in
      let a : Asked = command store (event_in bs) in
      record {
        bounds = k.bounds;
        rate = k.rate;
        edition = k.edition;
        calls = k.calls ++ (a ∷ []);
        param = ap (λ (q : Param). left q a) k.param ∙ sym (one_more_left first k.calls a);
        totals =
            one_more_costs first k.calls a
            ∙ ap (λ (q : Param). plus (totals first k.calls) (cost_of q a)) (sym k.param)
            ∙ ap (plus (totals first k.calls)) costs_one
            ∙ ap (λ (t : Totals). plus t (events_stored 1)) k.totals
            ∙ ap events_stored (sym waits_one);
        sound = called_sound p store k.sound (event_in bs);
      }

-- ---- a field, the fields of a part, the file

module _ (bs : List ℕ) (r : Reader) (k : Scheduled r.param) where
  range_scheduled : (v : Result Unit Refusal) → Scheduled (ranged_as v bs r).param
  unfolding ranged_as
  range_scheduled (Ok _) = just_made (bounds_in bs) r.rate r.edition refl
  range_scheduled (Err why) = k

  event_scheduled : Scheduled (event_turn (event_in bs) bs r).param
  unfolding event_turn taken_as
  event_scheduled = go (is_out_of_turn r.before (event_in bs)) (called r.param r.store (event_in bs)).verdict refl
    where
      go : (o : Bool) (v : Result Unit Refusal) → (called r.param r.store (event_in bs)).verdict ≡ v
          → Scheduled (cond o (refused_by Fault.OutOfTurn r) (taken_as v (called r.param r.store (event_in bs)) (time_of (event_in bs)) bs r)).param
      go true v e = k
      go false (Ok _) e = one_event_more bs r.param r.store k e
      go false (Err why) e = k

  contents_scheduled : Scheduled (contents_turn bs r).param
  unfolding contents_turn
  contents_scheduled = go (is_range bs)
    where
      go : (b : Bool) → Scheduled (cond b (ranged_as (lowest (making_rows (bounds_in bs) r.edition)) bs r) (event_turn (event_in bs) bs r)).param
      go true = range_scheduled (lowest (making_rows (bounds_in bs) r.edition))
      go false = event_scheduled

  field-scheduled : Scheduled (field_turn bs r).param
  unfolding field_turn
  field-scheduled = go (not (is_tag (tag_of bs))) (is_wrong bs) (is_misplaced r.ranged bs) (not (is_whole bs))
    where
      go : (a b c d : Bool)
          → Scheduled
          (cond a (refused_by Fault.UnknownTag r)
          (cond b (refused_by Fault.WrongLength r) (cond c (refused_by Fault.Misplaced r) (cond d (refused_by Fault.CutShort r) (contents_turn bs r))))
          ).param
      go true b c d = k
      go false true c d = k
      go false false true d = k
      go false false false true = k
      go false false false false = contents_scheduled

taken-scheduled : (n : ℕ) (bs : List ℕ) (r : Reader) → Scheduled r.param → Scheduled (taken n bs r).reader.param
unfolding taken
taken-scheduled zero bs r k = k
taken-scheduled (suc n) bs r k = go (is_accepted r.verdict && is_whole bs) (taken-scheduled n (drop (field_length bs) bs) (field_turn bs r) (field-scheduled bs r k))
  where
    go : (b : Bool) → Scheduled (taken n (drop (field_length bs) bs) (field_turn bs r)).reader.param
        → Scheduled (cond b (taken n (drop (field_length bs) bs) (field_turn bs r)) (stopped bs r)).reader.param
    go true more = more
    go false more = k

end_scheduled : (bs : List ℕ) (r : Reader) → Scheduled r.param → Scheduled (end_turn bs r).param
unfolding end_turn
end_scheduled [] r k = go r.ranged
  where
    go : (b : Bool) → Scheduled (cond b r (refused_by Fault.Misplaced r)).param
    go true = k
    go false = k
end_scheduled (b ∷ bs) r k = field-scheduled (b ∷ bs) r k

pub read-scheduled : (rate : AutomationRate) (n : ℕ) (file : List ℕ) → Scheduled (read rate n file).param
unfolding read fed at_end is_accepted
read-scheduled rate n file = go (fed (begun rate n) file) (taken-scheduled (length file) file _ (just_made _ Rate.A 1 no_range))
  where
    ends : (s : Reading) (b : Bool) → Scheduled s.reader.param → Scheduled (cond b (end_turn s.rest s.reader) s.reader).param
    ends s true k = end_scheduled s.rest s.reader k
    ends s false k = k

    go : (s : Reading) → Scheduled s.reader.param → Scheduled (at_end s).param
    go s k = ends s (is_accepted s.reader.verdict) k
