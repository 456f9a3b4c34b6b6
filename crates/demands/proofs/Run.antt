-- Any list of results, each of which meets the contract for what the one before left, is what the rules schedule and play; so demand 3 is the code's, and
-- that no event lies inside a curve before the first block. Assumes nothing.
use Rattle.std.proofs.Common.{Ok}
use mathlib.Core.Path.{◌≡◌, refl, sym, ap, ◌∙◌}
use mathlib.Core.Bool.{Bool, true, false}
use mathlib.Core.List.{List, [], map}
use Prim.Native.Nat.{ℕ}
use lib.ListN.{length, take, drop}
use lib.Ieee.{Float}
use Rattle.rules.specs.declared.Bounds.{Bounds}
use Rattle.rules.specs.declared.AutomationRate.{AutomationRate}
use Rattle.rules.specs.Numbers.{store_length}
use Rattle.rules.specs.Block.{Param, Call, Command, set, step, linear, exponential, target, curve, cancel, hold, called, made}
use Rattle.laws.specs.Apart.{are_apart}
use Rattle.laws.proofs.Tests.{never}
use Rattle.laws.proofs.Answers.{unlent}
use Rattle.param.specs.declared.AudioParam.{AudioParam}
use Rattle.param.specs.declared.Outcome.{Outcome}
use Rattle.param.specs.Param.{param_of, struct_of, SoundParam, Makes, Restores}
use Rattle.param.proofs.Calls.{struct_back, struct_sound}
use Rattle.param.proofs.Settled.{restores_own}
use Rattle.playing.specs.Play.{State, waiting, begun, scheduled, asked, answer_to, played, apart, told}
use Rattle.playing.specs.Demand.{behind, while_two_wait, resumed, Holds, PlayedTheSame}
use Rattle.playing.specs.Results.{Results, last_left}
use Rattle.playing.proofs.Schedules.{nothing_inside}
use Rattle.playing.proofs.Demand.{demand_3}
use Rattle.playing.proofs.Results.{results_scheduled, results_played, results_the_same}
use Rattle.demands.specs.Run.{Held, state_of, Done, left_by_done, called_by, is_lent, DoneAs, MeetsCall, Block, left_by_block, answer_by, MeetsBlock}

-- what the contracts require of what is passed on
abbrev pub Fine : Held → Type 0
Fine h = SoundParam h.param

pub back : {p : AudioParam} {q : Param} → p ≡ struct_of q → param_of p ≡ q
back {p} {q} e = ap param_of e ∙ struct_back q

-- ---- scheduling and cancelling

-- by what is called
unlent_call : (p : Param) (store : List Float) (c : Command) → is_lent c ≡ false
    → called p store c ≡ record { verdict = (called p [] c).verdict; param = (called p [] c).param; store = store }
unfolding called is_lent
unlent_call p store (set v) h = unlent _ p store _
unlent_call p store (step v t) h = unlent _ p store _
unlent_call p store (linear v t) h = unlent _ p store _
unlent_call p store (exponential v t) h = unlent _ p store _
unlent_call p store (target v t c) h = unlent _ p store _
unlent_call p store (curve t d xs) h = never (sym h)
unlent_call p store (cancel c) h = never (sym h)
unlent_call p store (hold c) h = never (sym h)

settled_as : (b : Bool) (h : Held) (c : Command) (r : Done) → is_lent c ≡ b → DoneAs b h c r → (called_by r ≡ asked (state_of h) c) × Fine (left_by_done r)
unfolding asked
settled_as true h c r e a = (rw (a.verdict, back a.param, a.left), a.sound)
settled_as false h c r e (a, kept) =
    (rw (unlent_call (param_of h.param) h.store c e, a.verdict, back a.param, kept), a.sound)

pub call_settled : (h : Held) (c : Command) (r : Done) → Fine h → MeetsCall h c r → (called_by r ≡ asked (state_of h) c) × Fine (left_by_done r)
call_settled h c r ok m = settled_as (is_lent c) h c r refl m

-- ---- blocks

pub block_settled : (h : Held) (c : Call) (r : Block) → Fine h → MeetsBlock h c r → (answer_by r ≡ answer_to (state_of h) c) × Fine (left_by_block r)
unfolding answer_to
block_settled h c r ok m =
    let a = m.contract in
    (rw (a.verdict, back a.param, a.left, a.written, a.steps, a.current, a.one, m.finished, m.turned), a.sound)

-- the results of blocks are what the rules play
pub code_plays : {h : Held} {cs : List Call} {rs : List Block} → Fine h → Results left_by_block MeetsBlock h cs rs → map answer_by rs ≡ played (state_of h) cs
code_plays ok = results_played state_of left_by_block Fine answer_by MeetsBlock (λ r. refl) block_settled ok

-- the results of calls leave what the rules schedule
pub code_schedules : {h : Held} {cs : List Command} {rs : List Done} → Fine h → Results left_by_done MeetsCall h cs rs
    → (state_of (last_left left_by_done h rs) ≡ scheduled (state_of h) cs) × Fine (last_left left_by_done h rs)
code_schedules ok = results_scheduled state_of left_by_done Fine called_by MeetsCall (λ r. refl) call_settled ok

-- a parameter just made is the rules' one
code_begins : {b : Bounds} {rate : AutomationRate} {n : ℕ} {o : Outcome} → Makes b rate n o → (store : List Float)
    → state_of (record { param = o.param; store = store }) ≡ begun b rate n store
unfolding begun
code_begins makes store = rw (back makes.param)

-- ---- before the first block no event lies inside a curve (02, C-14)

pub nothing_inside_of_code : {b : Bounds} {rate : AutomationRate} {n : ℕ} {o : Outcome} → Makes b rate n o → (store : List Float) {xs : List Command} {ds : List Done}
    → Results left_by_done MeetsCall (record { param = o.param; store = store }) xs ds
    → are_apart (param_of (last_left left_by_done (record { param = o.param; store = store }) ds).param).queue ≡ true
nothing_inside_of_code {b} {rate} {n} {o} makes store {xs} {ds} results =
    let is : state_of (last_left left_by_done (record { param = o.param; store = store }) ds) ≡ scheduled (begun b rate n store) xs =
    (code_schedules makes.sound results).0 ∙ ap (λ (s : State). scheduled s xs) (code_begins makes store) in
    ap (λ (s : State). are_apart s.param.queue) is ∙ nothing_inside b rate n store xs

-- ---- demand 3 of the code

-- Two schedules given to two parameters made alike, ds and es what their calls gave. Both are played over the blocks `all`, with the results rs and us; cs are the blocks
-- before the first after which fewer than two shared events wait. There the first's state with the second's later events behind the shared ones makes a parameter:
-- `from_parts` answers with that very struct. Lent any store that holds its curves' numbers first, it is played over the rest, with the results vs. Then rs and us agree
-- over cs, waiting events apart, and over the rest vs is us.
module _ (b : Bounds) (rate : AutomationRate) (n : ℕ) (one other : List Float) (long : length one ≡ store_length) (long' : length other ≡ store_length) (o : Outcome) (makes : Makes b rate n o)
    (xs ys : List Command) (ds es : List Done)
    (first : Results left_by_done MeetsCall (record { param = o.param; store = one }) xs ds)
    (second : Results left_by_done MeetsCall (record { param = o.param; store = other }) ys es) where
  abbrev x : Held
  x = last_left left_by_done (record { param = o.param; store = one }) ds

  abbrev y : Held
  y = last_left left_by_done (record { param = o.param; store = other }) es

  x_is : state_of x ≡ scheduled (begun b rate n one) xs
  x_is = (code_schedules makes.sound first).0 ∙ ap (λ (s : State). scheduled s xs) (code_begins makes one)

  y_is : state_of y ≡ scheduled (begun b rate n other) ys
  y_is = (code_schedules makes.sound second).0 ∙ ap (λ (s : State). scheduled s ys) (code_begins makes other)

  pub code_plays_the_same : (m : ℕ) → take m (waiting (state_of x)) ≡ take m (waiting (state_of y)) → (all : List Call)
      → PlayedTheSame m (state_of x) (state_of y) all (while_two_wait (behind m (state_of x)) (state_of x) all)
  code_plays_the_same m agree all =
      rw (x_is, y_is) (demand_3 b rate n one other long long' xs ys m (rw (x_is, y_is) at agree) all)

  -- the first resumed as the second
  abbrev pub resumed_param : ℕ → List Call → AudioParam
  resumed_param m cs = struct_of (resumed m (state_of x) (state_of y) cs).param

  pub demand_3_of_code : (m : ℕ) → take m (waiting (state_of x)) ≡ take m (waiting (state_of y)) → (all : List Call)
      → let cs = while_two_wait (behind m (state_of x)) (state_of x) all in
      (r : Outcome) → Restores (resumed_param m cs) r → (store : List Float) → Holds (waiting (resumed m (state_of x) (state_of y) cs)) store
      → (rs us vs : List Block) → Results left_by_block MeetsBlock x all rs → Results left_by_block MeetsBlock y all us
      → Results left_by_block MeetsBlock (record { param = r.param; store = store }) (drop (length cs) all) vs
      → (r ≡ record { verdict = (Ok tt); param = resumed_param m cs })
      × (map apart (take (length cs) (map answer_by rs)) ≡ map apart (take (length cs) (map answer_by us)))
      × (map told (drop (length cs) (map answer_by us)) ≡ map told (map answer_by vs))
  demand_3_of_code m agree all r restores store holds rs us vs rx ry rz =
      let cs : List Call = while_two_wait (behind m (state_of x)) (state_of x) all in
      let same : PlayedTheSame m (state_of x) (state_of y) all cs = code_plays_the_same m agree all in
      let ok : SoundParam (resumed_param m cs) = struct_sound (resumed m (state_of x) (state_of y) cs).param same.sound in
      let gives : r ≡ record { verdict = (Ok tt); param = resumed_param m cs } = restores_own ok restores in
      let is : r.param ≡ resumed_param m cs = ap (λ (o : Outcome). o.param) gives in
      let heard =
      results_the_same
      state_of
      left_by_block
      Fine
      answer_by
      MeetsBlock
      (λ r. refl)
      block_settled
      same
      store
      holds
      (ap (λ (p : Param). record { param = p; store = store }) (back is))
      (code_schedules makes.sound first).1
      (code_schedules makes.sound second).1
      (rw is ok)
      rx
      ry
      rz in
      (gives, heard.0, heard.1)
