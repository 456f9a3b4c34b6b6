-- What a desk keeps are the totals of a session of calls on a parameter just made that left its parameter, so that C-20's sums hold of them. Assumes nothing.
use Rattle.card.specs.declared.Fault.{Fault}
use Rattle.std.proofs.Common.{Ok, Result, Err}
use mathlib.Core.Path.{◌≡◌, refl, sym, ap, ◌∙◌}
use mathlib.Core.Bool.{Bool, true, false, cond}
use mathlib.Core.List.{List, [], ◌∷◌, ◌++◌}
use Rattle.std.specs.Prelude.{Option, None, Some}
use Prim.Native.Nat.{ℕ, ◌<◌}
use lib.ListN.{length, take}
use lib.Dec.{eqb}
use lib.Ieee.{Float}
use Rattle.rules.specs.declared.Bounds.{Bounds}
use Rattle.rules.specs.declared.AutomationRate.{AutomationRate}
use Rattle.rules.specs.declared.AutomationRate.TheVariants as Rate
use Rattle.rules.specs.Block.{Param, made, Command}
use Rattle.rules.specs.Block as rule
use Rattle.calls.specs.Language.{Said}
use Rattle.calls.specs.declared.Call.{Call}
use Rattle.costs.specs.declared.Totals.{Totals}
use Rattle.costs.specs.Costs.{Asked, command, block, left, left_by_all, waiting_in, cost_of, plus, totals, Sums}
use Rattle.costs.proofs.Costs.{one_more_left, one_more_costs, session_sums}
use Rattle.tally.specs.Tally.{largest, capped, kept}
use Rattle.tally.proofs.Kept.{kept-plus, kept_sums}
use Rattle.rules.specs.Numbers.{store_length}
use Rattle.card.specs.Card.{Reader, read, Loaded, loaded, loaded_as, bad_store}
use Rattle.desk.specs.Desk.{Table, unread, making, asked, lending, poking, playing, marks, stating, saving, loaded_turn, loading_by, loading, answer_of, said_turn, table_of, unmade_desk}
use Rattle.param.proofs.Calls.{struct_back}
use Rattle.desk.proofs.Turns.{no_range}
use Rattle.desk.proofs.Events.{Scheduled, read-scheduled}

-- a table with a parameter that was made so and has had these calls
pub record Counts (t : Table) : Type 0 where
  pub bounds : Bounds
  pub rate : AutomationRate
  pub edition : ℕ
  pub calls : List Asked
  pub param : t.param ≡ left_by_all (made bounds rate edition) calls
  pub totals : t.totals ≡ kept (totals (made bounds rate edition) calls)

-- ---- a call more

module _ (t u : Table) (k : Counts t) where
  one_more : (a : Asked) → u.param ≡ left t.param a → u.totals ≡ kept (plus t.totals (cost_of t.param a)) → Counts u
  one_more a p c =
      let first : Param = made k.bounds k.rate k.edition in
      record {
        bounds = k.bounds;
        rate = k.rate;
        edition = k.edition;
        calls = k.calls ++ (a ∷ []);
        param = p ∙ ap (λ (q : Param). left q a) k.param ∙ sym (one_more_left first k.calls a);
        totals =
            c
            ∙ ap (λ (x : Totals). kept (plus x (cost_of t.param a))) k.totals
            ∙ kept-plus (totals first k.calls) (cost_of t.param a)
            ∙ ap (λ (q : Param). kept (plus (totals first k.calls) (cost_of q a))) k.param
            ∙ ap kept (sym (one_more_costs first k.calls a));
      }

  -- a line that is no call of the parameter
  same : u.param ≡ t.param → u.totals ≡ t.totals → Counts u
  same p c = record { bounds = k.bounds; rate = k.rate; edition = k.edition; calls = k.calls; param = p ∙ k.param; totals = c ∙ k.totals }

asked_counts : (c : Command) (t : Table) → Counts t → Counts (asked c t).table
unfolding asked left cost_of
asked_counts c t k = one_more t (asked c t).table k (command (take t.lent t.store) c) refl refl

playing_counts : (time period : Float) (count : ℕ) (input output : List Float) (t : Table) → Counts t → Counts (playing time period count input output t).table
unfolding playing left cost_of
playing_counts time period count input output t k =
    one_more t (playing time period count input output t).table k
    (block (take t.lent t.store) (record { time = time; period = period; count = count; input = input; output = output })) refl refl

making_counts : (b : Bounds) (r : AutomationRate) (n : ℕ) (t : Table) → Counts (making b r n t).table
unfolding making left_by_all totals
making_counts b r n t = record { bounds = b; rate = r; edition = n; calls = []; param = refl; totals = unfold kept capped in refl }

-- what a reader's end gives, by whether the store is lent and by its verdict
abbrev given_by : Reader → Table → Bool → Result Unit Fault → Loaded
given_by r t b v =
    cond b (loaded_as v r t.param (take store_length t.store)) (record { says = bad_store; param = t.param; store = take store_length t.store })

-- a file's events are counted as the calls that they are
loading_counts : (r : Reader) (t : Table) → Counts t → Scheduled r.param → Counts (loading_by r t).table
unfolding loading_by loaded_turn loaded loaded_as
loading_counts r t k Made-so = go (eqb (length (take store_length t.store)) store_length) r.verdict
  where
    go : (b : Bool) (v : Result Unit Fault) → Counts (loaded_turn (given_by r t b v).says.verdict (given_by r t b v) t).table
    go true (Ok _) =
        record {
          bounds = Made-so.bounds;
          rate = Made-so.rate;
          edition = Made-so.edition;
          calls = Made-so.calls;
          param = Made-so.param;
          totals = ap kept (sym Made-so.totals);
        }
    go true (Err f) = k
    go false v = k

-- ---- every line

pub said_counts : (call : Call) (numbers : List Float) (file : List ℕ) (t : Table) → Counts t → Counts (answer_of call numbers file t).table
unfolding answer_of unread lending poking stating saving loading
said_counts Call.Nothing numbers file t k = k
said_counts (Call.Make b rate n) numbers file t k = making_counts b rate n t
said_counts (Call.Set v) numbers file t k = asked_counts (rule.set v) t k
said_counts (Call.Step v u) numbers file t k = asked_counts (rule.step v u) t k
said_counts (Call.Linear v u) numbers file t k = asked_counts (rule.linear v u) t k
said_counts (Call.Exponential v u) numbers file t k = asked_counts (rule.exponential v u) t k
said_counts (Call.Target v u c) numbers file t k = asked_counts (rule.target v u c) t k
said_counts (Call.Curve u d n) numbers file t k = asked_counts (rule.curve u d (take n numbers)) t k
said_counts (Call.Cancel u) numbers file t k = asked_counts (rule.cancel u) t k
said_counts (Call.Hold u) numbers file t k = asked_counts (rule.hold u) t k
said_counts (Call.Block by u p n o i) numbers file t k = playing_counts u p n (take i numbers) (marks o) t k
said_counts (Call.Lend n) numbers file t k = same t _ k refl refl
said_counts (Call.Poke i v) numbers file t k = same t _ k refl refl
said_counts Call.State numbers file t k = k
said_counts Call.Save numbers file t k = k
said_counts (Call.Load part n rate edition) numbers file t k = loading_counts (read rate edition (take n file)) t k (read-scheduled rate edition (take n file))

pub line_counts : (o : Option Said) (t : Table) → Counts t → Counts (said_turn o t).table
unfolding said_turn unread
line_counts None t k = k
line_counts (Some s) t k = said_counts s.0 s.1 s.2 t k

-- before the first `make`
pub first_counts : (s : List Float) → Counts (table_of unmade_desk s)
unfolding left_by_all totals
first_counts s =
    record {
      bounds = _;
      rate = Rate.A;
      edition = 1;
      calls = [];
      param = struct_back _ ∙ sym no_range;
      totals = unfold kept capped in refl;
    }

-- ---- so the sums hold of what it keeps, while no counter stands at its end

pub desk_sums : (t : Table) → Counts t → t.totals.steps < largest → t.totals.stored < largest → Sums t.totals (waiting_in t.param)
desk_sums t k steps stored =
    let first : Param = made k.bounds k.rate k.edition in
    rw (k.totals, k.param) (kept_sums (session_sums k.bounds k.rate k.edition k.calls) (rw k.totals at steps) (rw k.totals at stored))
