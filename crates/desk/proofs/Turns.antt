-- From what the parameter's calls ensure to what a session's calls ensure. Assumes nothing.
use mathlib.Core.Path.{◌≡◌, refl, sym, ap, ◌∙◌, subst}
use mathlib.Core.Bool.{true, false}
use mathlib.Core.List.{List, [], ◌∷◌, ◌++◌}
use Prim.Native.Nat.{ℕ, ◌+◌, ◌≤◌}
use native.Mathlib.Omega.{arith}
use lib.ListN.{length, take, drop, replicate, take-append-drop}
use lib.Count.{count_trailing_zeros}
use lib.Ieee.{Float, binary32, of_bits, of_fields, odd, lt, eq, le}
use Rattle.rules.specs.declared.Bounds.{Bounds}
use Rattle.rules.specs.declared.AutomationRate.{AutomationRate}
use Rattle.rules.specs.declared.AutomationRate.TheVariants as Rate
use Rattle.rules.specs.Numbers.{plus_zero, is_finite}
use Rattle.rules.specs.Refusals.{lowest, all_finite, are_bounds, making_rows}
use Rattle.rules.specs.Block.{Param, made, made_as, Command, Called, called}
use Rattle.rules.specs.Block as rule
use Rattle.laws.proofs.Answers.{unlent}
use Rattle.text.specs.Put.{Put}
use Rattle.text.proofs.Writing.{put_same, put_then}
use Rattle.answers.specs.Answers.{verdict_text}
use Rattle.calls.specs.declared.Call.{Call}
use Rattle.calls.specs.declared.Renderer.{Renderer}
use Rattle.costs.specs.declared.Totals.{Totals}
use Rattle.costs.specs.Costs.{waiting_in, nothing, plus, command_cost}
use Rattle.costs.specs.Seen.{command_seen}
use Rattle.costs.proofs.Seen.{command_seen_lem}
use Rattle.tally.specs.Tally.{kept}
use Rattle.param.specs.declared.AudioParam.{AudioParam}
use Rattle.param.specs.declared.Outcome.{Outcome}
use Rattle.param.specs.Param.{param_of, struct_of, nothing_made, SoundParam, Makes, Answers}
use Rattle.param.proofs.Calls.{whole, struct_back}
use Rattle.desk.specs.declared.Desk.{Desk}
use Rattle.desk.specs.declared.Answered.{Answered}
use Rattle.desk.specs.Desk.{Table, Turn, desk_of, after_command, table_of, Told, SoundDesk, Spoken, making, asked, answer_of, with_newline, InRange, is_scheduling}

-- ---- a call that is not lent the store

-- it does the same whatever the store is, and leaves it
abbrev pub Storeless : Command → Type 0
Storeless c = (p : Param) (s : List Float) → called p s c ≡ record { verdict = (called p [] c).verdict; param = (called p [] c).param; store = s }

pub storeless_set : (v : Float) → Storeless (rule.set v)
unfolding called
storeless_set v p s = unlent _ p s _

pub storeless_step : (v t : Float) → Storeless (rule.step v t)
unfolding called
storeless_step v t p s = unlent _ p s _

pub storeless_linear : (v t : Float) → Storeless (rule.linear v t)
unfolding called
storeless_linear v t p s = unlent _ p s _

pub storeless_exponential : (v t : Float) → Storeless (rule.exponential v t)
unfolding called
storeless_exponential v t p s = unlent _ p s _

pub storeless_target : (v t c : Float) → Storeless (rule.target v t c)
unfolding called
storeless_target v t c p s = unlent _ p s _

-- ---- what was told

told_sound : {d : Desk} (p : AudioParam) (lent : ℕ) (totals : Totals) → d ≡ desk_of p lent totals → SoundParam p → lent ≤ 8192 → SoundDesk d
told_sound p lent totals e s h = subst SoundDesk (sym e) (record { param = s; lent = h })

-- what is seen of a command is what it costs
counted : (c : Command) (d : Desk) (store : List Float) (o : Outcome) → SoundDesk d → o.param ≡ struct_of (called (param_of d.param) store c).param
    → after_command d o.param ≡ kept (plus d.totals (command_cost (param_of d.param) (called (param_of d.param) store c) c))
counted c d store o ok e =
    let p : Param = param_of d.param in
    ap (λ (q : Param). kept (plus d.totals (command_seen (waiting_in p) (waiting_in q)))) (ap param_of e ∙ struct_back (called p store c).param)
    ∙ ap (λ (u : Totals). kept (plus d.totals u)) (command_seen_lem p store c ok.param.sound)

module _ (c : Command) (d : Desk) (s : List Float) (l : List ℕ) (at : ℕ) (o : Outcome) (t : Answered) (l' : List ℕ) (ok : SoundDesk d)
    (told : Told o d.lent (after_command d o.param) l at t l') where
  -- lent the store
  pub lent : (after : List Float) → Answers d.param (take d.lent s) c o after → Spoken 41999 (asked c) d s l at t (after ++ drop d.lent s) l'
  unfolding asked
  lent after a =
      record {
        param = ap (λ (x : Desk). x.param) told.0 ∙ a.param;
        lent = ap (λ (x : Desk). x.lent) told.0;
        store = ap (λ (x : List Float). x ++ drop d.lent s) a.left;
        totals = ap (λ (x : Desk). x.totals) told.0 ∙ counted c d (take d.lent s) o ok a.param;
        text = put_same (ap verdict_text a.verdict) told.1;
        sound = told_sound o.param d.lent _ told.0 a.sound ok.lent;
        room = omega (arith, told.2);
      }

  -- not lent it
  pub alone : Storeless c → Answers d.param [] c o [] → Spoken 41999 (asked c) d s l at t s l'
  unfolding asked
  alone same a =
      let e : called (param_of d.param) (take d.lent s) c ≡ _ = same (param_of d.param) (take d.lent s) in
      let left : o.param ≡ struct_of (called (param_of d.param) (take d.lent s) c).param = a.param ∙ ap (λ (x : Called). struct_of x.param) (sym e) in
      record {
        param = ap (λ (x : Desk). x.param) told.0 ∙ left;
        lent = ap (λ (x : Desk). x.lent) told.0;
        store = sym (ap (λ (x : Called). x.store ++ drop d.lent s) e ∙ take-append-drop d.lent s);
        totals = ap (λ (x : Desk). x.totals) told.0 ∙ counted c d (take d.lent s) o ok left;
        text = put_same (ap verdict_text (a.verdict ∙ ap (λ (x : Called). x.verdict) (sym e))) told.1;
        sound = told_sound o.param d.lent _ told.0 a.sound ok.lent;
        room = omega (arith, told.2);
      }

-- ---- making

pub made-spoken : (b : Bounds) (rate : AutomationRate) (n : ℕ) (o : Outcome) (s s' : List Float) (l : List ℕ) (at : ℕ) (t : Answered) (l' : List ℕ) → length s ≡ 8192
    → s' ≡ replicate (length s) plus_zero → Makes b rate n o → Told o 4096 nothing l at t l' → (d : Desk) → Spoken 41999 (making b rate n) d s l at t s' l'
unfolding making
made-spoken b rate n o s s' l at t l' long zeroed a told d =
    record {
      param = ap (λ (x : Desk). x.param) told.0 ∙ a.param;
      lent = ap (λ (x : Desk). x.lent) told.0;
      store = zeroed ∙ ap (λ (n : ℕ). replicate n plus_zero) long;
      totals = ap (λ (x : Desk). x.totals) told.0;
      text = put_same (ap verdict_text a.verdict) told.1;
      sound = told_sound o.param 4096 _ told.0 a.sound (omega arith);
      room = omega (arith, told.2);
    }

-- ---- a call that leaves the parameter: how many are lent, the store after it, and its text

pub said : {most : ℕ} (turn : Table → Turn) (d : Desk) (s : List Float) {l : List ℕ} {at : ℕ} {t : Answered} {l' : List ℕ} (n : ℕ) (s' : List Float) (x : List ℕ)
    → SoundDesk d → t.desk ≡ desk_of d.param n d.totals → n ≤ 8192
    → turn (table_of d s) ≡ record { table = record { param = param_of d.param; lent = n; store = s'; totals = d.totals }; text = x } → Put l at x l' t.next → t.next ≤ at + most
    → Spoken most turn d s l at t s' l'
said turn d s {t = t} n s' x ok e h is put-text near =
    record {
      param = ap (λ (y : Desk). y.param) e ∙ whole d.param ok.param ∙ ap (λ (y : Turn). struct_of y.table.param) (sym is);
      lent = ap (λ (y : Desk). y.lent) e ∙ ap (λ (y : Turn). y.table.lent) (sym is);
      store = ap (λ (y : Turn). y.table.store) (sym is);
      totals = ap (λ (y : Desk). y.totals) e ∙ ap (λ (y : Turn). y.table.totals) (sym is);
      text = put_same (ap (λ (y : Turn). y.text) (sym is)) put-text;
      sound = told_sound d.param n _ e ok.param h;
      room = near;
    }

-- ---- before the first `make`

-- the range 1 to 0 is none
pub no_range : made (record { min = of_bits binary32 1065353216; default = of_bits binary32 0; max = of_bits binary32 0 }) Rate.A 1 ≡ nothing_made
unfolding made made_as lowest making_rows are_bounds all_finite is_finite le lt eq of_bits of_fields odd count_trailing_zeros
no_range = refl

-- ---- the call that was read

pub by_call : {call this : Call} (numbers : List Float) (file : List ℕ) {d : Desk} {s : List Float} {l : List ℕ} {at : ℕ} {r : Answered} {s' : List Float} {l' : List ℕ}
    → call ≡ this → Spoken 41999 (answer_of this numbers file) d s l at r s' l' → Spoken 41999 (answer_of call numbers file) d s l at r s' l'
by_call numbers file {d} {s} {l} {at} {r} {s'} {l'} e spoken = subst (λ (x : Call). Spoken 41999 (answer_of x numbers file) d s l at r s' l') (sym e) spoken

pub ranged : {call this : Call} → call ≡ this → InRange call → InRange this
ranged e h = subst InRange e h

-- ---- the calls that change the waiting events

-- a call that is none of the others is one of them
pub is_scheduling-others : (call : Call)
    → (call ≡ Call.Nothing → ⊥)
    → ((b : Bounds) (rate : AutomationRate) (n : ℕ) → call ≡ Call.Make b rate n → ⊥)
    → ((by : Renderer) (t : Float) (p : Float) (n : ℕ) (o : ℕ) (i : ℕ) → call ≡ Call.Block by t p n o i → ⊥)
    → ((n : ℕ) → call ≡ Call.Lend n → ⊥)
    → ((i : ℕ) (v : Float) → call ≡ Call.Poke i v → ⊥)
    → (call ≡ Call.State → ⊥)
    → (call ≡ Call.Save → ⊥)
    → ((part : ℕ) (n : ℕ) (rate : AutomationRate) (edition : ℕ) → call ≡ Call.Load part n rate edition → ⊥)
    → is_scheduling call ≡ true
unfolding is_scheduling
is_scheduling-others Call.Nothing no_nothing no_make no_block no_lend no_poke no_state no_save no_load = absurd (no_nothing refl)
is_scheduling-others (Call.Make b rate n) no_nothing no_make no_block no_lend no_poke no_state no_save no_load = absurd (no_make b rate n refl)
is_scheduling-others (Call.Set v) no_nothing no_make no_block no_lend no_poke no_state no_save no_load = refl
is_scheduling-others (Call.Step v t) no_nothing no_make no_block no_lend no_poke no_state no_save no_load = refl
is_scheduling-others (Call.Linear v t) no_nothing no_make no_block no_lend no_poke no_state no_save no_load = refl
is_scheduling-others (Call.Exponential v t) no_nothing no_make no_block no_lend no_poke no_state no_save no_load = refl
is_scheduling-others (Call.Target v t k) no_nothing no_make no_block no_lend no_poke no_state no_save no_load = refl
is_scheduling-others (Call.Curve t d n) no_nothing no_make no_block no_lend no_poke no_state no_save no_load = refl
is_scheduling-others (Call.Cancel t) no_nothing no_make no_block no_lend no_poke no_state no_save no_load = refl
is_scheduling-others (Call.Hold t) no_nothing no_make no_block no_lend no_poke no_state no_save no_load = refl
is_scheduling-others (Call.Block by t p n o i) no_nothing no_make no_block no_lend no_poke no_state no_save no_load = absurd (no_block by t p n o i refl)
is_scheduling-others (Call.Lend n) no_nothing no_make no_block no_lend no_poke no_state no_save no_load = absurd (no_lend n refl)
is_scheduling-others (Call.Poke i v) no_nothing no_make no_block no_lend no_poke no_state no_save no_load = absurd (no_poke i v refl)
is_scheduling-others Call.State no_nothing no_make no_block no_lend no_poke no_state no_save no_load = absurd (no_state refl)
is_scheduling-others Call.Save no_nothing no_make no_block no_lend no_poke no_state no_save no_load = absurd (no_save refl)
is_scheduling-others (Call.Load part n rate edition) no_nothing no_make no_block no_lend no_poke no_state no_save no_load = absurd (no_load part n rate edition refl)

-- a call that is none of them is another
pub is_scheduling-theirs : (call : Call)
    → ((v : Float) → call ≡ Call.Set v → ⊥)
    → ((v : Float) (t : Float) → call ≡ Call.Step v t → ⊥)
    → ((v : Float) (t : Float) → call ≡ Call.Linear v t → ⊥)
    → ((v : Float) (t : Float) → call ≡ Call.Exponential v t → ⊥)
    → ((v : Float) (t : Float) (k : Float) → call ≡ Call.Target v t k → ⊥)
    → ((t : Float) (d : Float) (n : ℕ) → call ≡ Call.Curve t d n → ⊥)
    → ((t : Float) → call ≡ Call.Cancel t → ⊥)
    → ((t : Float) → call ≡ Call.Hold t → ⊥)
    → is_scheduling call ≡ false
unfolding is_scheduling
is_scheduling-theirs Call.Nothing no_set no_step no_linear no_exponential no_target no_curve no_cancel no_hold = refl
is_scheduling-theirs (Call.Make b rate n) no_set no_step no_linear no_exponential no_target no_curve no_cancel no_hold = refl
is_scheduling-theirs (Call.Set v) no_set no_step no_linear no_exponential no_target no_curve no_cancel no_hold = absurd (no_set v refl)
is_scheduling-theirs (Call.Step v t) no_set no_step no_linear no_exponential no_target no_curve no_cancel no_hold = absurd (no_step v t refl)
is_scheduling-theirs (Call.Linear v t) no_set no_step no_linear no_exponential no_target no_curve no_cancel no_hold = absurd (no_linear v t refl)
is_scheduling-theirs (Call.Exponential v t) no_set no_step no_linear no_exponential no_target no_curve no_cancel no_hold = absurd (no_exponential v t refl)
is_scheduling-theirs (Call.Target v t k) no_set no_step no_linear no_exponential no_target no_curve no_cancel no_hold = absurd (no_target v t k refl)
is_scheduling-theirs (Call.Curve t d n) no_set no_step no_linear no_exponential no_target no_curve no_cancel no_hold = absurd (no_curve t d n refl)
is_scheduling-theirs (Call.Cancel t) no_set no_step no_linear no_exponential no_target no_curve no_cancel no_hold = absurd (no_cancel t refl)
is_scheduling-theirs (Call.Hold t) no_set no_step no_linear no_exponential no_target no_curve no_cancel no_hold = absurd (no_hold t refl)
is_scheduling-theirs (Call.Block by t p n o i) no_set no_step no_linear no_exponential no_target no_curve no_cancel no_hold = refl
is_scheduling-theirs (Call.Lend n) no_set no_step no_linear no_exponential no_target no_curve no_cancel no_hold = refl
is_scheduling-theirs (Call.Poke i v) no_set no_step no_linear no_exponential no_target no_curve no_cancel no_hold = refl
is_scheduling-theirs Call.State no_set no_step no_linear no_exponential no_target no_curve no_cancel no_hold = refl
is_scheduling-theirs Call.Save no_set no_step no_linear no_exponential no_target no_curve no_cancel no_hold = refl
is_scheduling-theirs (Call.Load part n rate edition) no_set no_step no_linear no_exponential no_target no_curve no_cancel no_hold = refl

-- ---- its newline

pub newline : {turn this : Table → Turn} {d : Desk} {s : List Float} {l l₁ : List ℕ} {at : ℕ} {r : Answered} {s' : List Float} {l' : List ℕ} {next : ℕ}
    → turn ≡ this → Spoken 41999 turn d s l at r s' l₁ → Put l₁ r.next (10 ∷ []) l' next → at + 42000 ≤ length l
    → Spoken 42000 (with_newline this) d s l at (record { desk = r.desk; next = next }) s' l'
unfolding with_newline
newline {turn} {this} {d} {s} {l} {l₁} {at} {r} {s'} {l'} {next} e spoken p room =
    let k : Spoken 41999 this d s l at r s' l₁ = subst (λ (f : Table → Turn). Spoken 41999 f d s l at r s' l₁) e spoken in
    record {
      param = k.param;
      lent = k.lent;
      store = k.store;
      totals = k.totals;
      text = put_then k.text p (omega (arith, k.room));
      sound = k.sound;
      room = omega (arith, k.room, p.place);
    }
