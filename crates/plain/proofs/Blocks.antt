-- A block by looks: what a look at a parameter finds, the sample at a place, and what the block says and leaves. Assumes nothing.
use Rattle.std.proofs.Common.{Option, None, Ok}
use Rattle.rules.specs.declared.Finished.{Finished}
use mathlib.Core.Path.{◌≡◌, refl, sym, ap, subst, ◌∙◌}
use mathlib.Core.Bool.{Bool, true, false, cond}
use mathlib.Core.List.{List, [], ◌∷◌}
use Prim.Native.Nat.{ℕ, ◌<◌}
use native.Mathlib.Omega.{arith}
use native.Mathlib.Nat.{le_trans}
use lib.Dec.{leb}
use lib.ListN.{length, get_or, get_or-replicate}
use borrow.Author.Tests.{le-leb}
use lib.Ieee.{Float, nan}
use Rattle.rules.specs.declared.AutomationRate.{AutomationRate}
use Rattle.rules.specs.declared.AutomationRate.TheVariants as Rate
use Rattle.rules.specs.declared.BlockInfos.{BlockInfos}
use Rattle.rules.specs.Numbers.{plus_zero}
use Rattle.rules.specs.Queue.{Waiting, head_of, attached}
use Rattle.rules.specs.Refusals.{fits_count}
use Rattle.rules.specs.Mix.{mixed, first_of as first_in, spread, inputs}
use Rattle.rules.specs.Walk as rule
use Rattle.rules.specs.Block.{Call, infos_of, rests_for, walk_from, values_before, rendered_as, rendered, says_one, verdict_of}
use Rattle.laws.proofs.Places.{samples_count}
use Rattle.laws.proofs.Within.{mixed-length}
use Rattle.laws.proofs.Rows.{ceiling_most}
use Rattle.laws.proofs.Answers.{inputs-length}
use Rattle.timeline.specs.Timeline.{first_of}
use Rattle.timeline.specs.Heads.{with_head}
use Rattle.timeline.proofs.Heads.{head_attached}
use Rattle.mix.specs.Mixed.{over}
use Rattle.mix.proofs.Writes.{mixed_at, any_default}
use Rattle.block.specs.Asked.{written}
use Rattle.block.proofs.Mixes.{writes}
use Rattle.param.specs.declared.AudioParam.{AudioParam}
use Rattle.param.specs.declared.Processed.{Processed}
use Rattle.param.specs.Param.{param_of}
use Rattle.param.specs.Processed.{Playable, played, Gives, Processes}
use Rattle.param.proofs.Plays.{plays}
use Rattle.plain.specs.declared.Look.{Look}
use Rattle.plain.specs.declared.Looked.{Looked}
use Rattle.plain.specs.Seen.{filled_of, seen, unwalked, counted_as, ended_as, Walks, block_of, samples_of, place_for, Lookable, Looks}

pub lookable : {p : AudioParam} {f : BlockInfos} {input output store : List Float} → Playable p f input output store → Lookable p f store
lookable {p} g = record { param = g.param; some = g.fits.some; few = le_trans g.few (ceiling_most (param_of p).edition); room = g.room }

-- ---- a look

pub place_inside : (f : BlockInfos) (place : ℕ) → place < f.count → place_for f.rate place < f.count
place_inside f place h = go f.rate
  where
    go : (r : AutomationRate) → place_for r place < f.count
    go Rate.A = h
    go Rate.K = omega arith

-- before the first head, by the rate
module _ (f : BlockInfos) (place : ℕ) (v : Float) (l : Option Finished) where
  unfoldable by_rate : AutomationRate → Look
  by_rate r =
      record {
        infos = f;
        place = place_for r place;
        found = get_or (values_before r v) (place_for r place) plus_zero;
        filled = filled_of r f.count (length (values_before r v));
        intrinsic = v;
        last = l;
        steps = 0;
      }

  pub begun_a : f.rate ≡ Rate.A
      → ◌≡◌ {A = Look} (record { infos = f; place = place; found = plus_zero; filled = 0; intrinsic = v; last = l; steps = 0 })
      (seen f (place_for f.rate place) (walk_from v l (values_before f.rate v) 0))
  unfolding by_rate seen filled_of values_before
  begun_a r = sym (ap by_rate r)

  pub begun_k : f.rate ≡ Rate.K
      → ◌≡◌ {A = Look} (record { infos = f; place = 0; found = v; filled = f.count; intrinsic = v; last = l; steps = 0 })
      (seen f (place_for f.rate place) (walk_from v l (values_before f.rate v) 0))
  unfolding by_rate seen filled_of values_before
  begun_k r = sym (ap by_rate r)

-- one that no head was taken of has not walked
pub not_walked : (f : BlockInfos) (n : ℕ) (v : Float) (l : Option Finished) {look : Look} → look ≡ seen f n (walk_from v l (values_before f.rate v) 0)
    → look ≡ seen look.infos look.place (unwalked look)
unfolding seen
not_walked f n v l e = rw e

module _ (p : AudioParam) (f : BlockInfos) (store : List Float) (place : ℕ) where
  abbrev n : ℕ
  n = place_for f.rate place

  abbrev v : Float
  v = (param_of p).intrinsic

  abbrev l : Option Finished
  l = (param_of p).last

  abbrev ws : List Waiting
  ws = attached (param_of p).queue store

  -- before the first head
  abbrev first : rule.Walk
  first = walk_from v l (values_before f.rate v) 0

  -- of one value
  rest_value : (r : AutomationRate) (k : ℕ)
      → cond (leb (filled_of r k (length (values_before r v))) (place_for r place)) v (get_or (values_before r v) (place_for r place) plus_zero) ≡ v
  unfolding filled_of values_before
  rest_value Rate.A k = rw (le-leb 0 place (omega arith))
  rest_value Rate.K k = go (leb k 0)
    where
      go : (b : Bool) → cond b v v ≡ v
      go true = refl
      go false = refl

  pub rests : {look : Look} → look ≡ seen f n first → rests_for f (first_of (param_of p).queue) ≡ true → place < f.count → Looks p f store place (ended_as (counted_as look) 0 None)
  unfolding rendered rendered_as with_head seen
  rests e h few =
      let r : rests_for f (head_of ws) ≡ true = ap (rests_for f) (head_attached (param_of p).queue store) ∙ h in
      rw r
      (record {
        place = ap (λ (x : Look). x.place) e;
        found = ap (λ (x : Look). cond (leb x.filled x.place) x.intrinsic x.found) e ∙ rest_value f.rate f.count
            ∙ sym (get_or-replicate f.count n v plus_zero (place_inside f place few));
        intrinsic = ap (λ (x : Look). x.intrinsic) e;
        last = ap (λ (x : Look). x.last) e;
        steps = ap (λ (x : Look). (counted_as x).steps) e;
        queue = refl;
      })

  -- walked
  pub walks : {look : Look} → look ≡ seen f n first → rests_for f (first_of (param_of p).queue) ≡ false → {r : Looked}
      → Walks look.infos look.place (unwalked look) (param_of p).queue store r → Looks p f store place r
  unfolding rendered rendered_as seen
  walks e h {r} g =
      let b : rests_for f (head_of ws) ≡ false = ap (rests_for f) (head_attached (param_of p).queue store) ∙ h in
      rw b (subst (λ (x : Look). Walks x.infos x.place (unwalked x) (param_of p).queue store r) e g)

-- ---- the sample at a place

first_at : (xs : List Float) → get_or xs 0 plus_zero ≡ first_in xs
unfolding first_in
first_at [] = refl
first_at (x ∷ xs) = refl

module _ (count place : ℕ) (h : place < count) where
  value_at : (r : AutomationRate) (vs : List Float) → length (spread r count vs) ≡ count → get_or vs (place_for r place) plus_zero ≡ get_or (spread r count vs) place nan
  unfolding spread
  value_at Rate.A vs l = sym (any_default vs place (omega arith))
  value_at Rate.K vs l = first_at vs ∙ sym (get_or-replicate count place (first_in vs) nan h)

  -- silence, or the input there
  pub silent_at : (r : AutomationRate) (xs : List Float) → length xs ≡ 0 → plus_zero ≡ get_or (inputs r count xs) place nan
  unfolding inputs
  silent_at r [] z = sym (get_or-replicate count place plus_zero nan h)
  silent_at r (x ∷ xs) z = absurd (omega arith)

  pub input_at : (r : AutomationRate) (xs : List Float) → 0 < length xs → get_or xs (place_for r place) nan ≡ get_or (inputs r count xs) place nan
  unfolding inputs spread first_in
  input_at r [] z = absurd (omega arith)
  input_at Rate.A (x ∷ xs) z = refl
  input_at Rate.K (x ∷ xs) z = sym (get_or-replicate count place x nan h)

module _ (p : AudioParam) (f : BlockInfos) (input store : List Float) (fits : fits_count input f.count ≡ true) where
  inputs_many : length (inputs f.rate f.count input) ≡ f.count
  inputs_many = inputs-length f.rate f.count input fits

  values_many : length (spread f.rate f.count (block_of p f store).walk.values) ≡ f.count
  values_many = samples_count f (param_of p).intrinsic (param_of p).last (attached (param_of p).queue store)

  pub samples_many : length (samples_of p f input store) ≡ f.count
  samples_many = mixed-length (param_of p).bounds _ _ (inputs_many ∙ sym values_many) ∙ values_many

  pub sample_is : (place : ℕ) → place < f.count → {r : Looked} → Looks p f store place r → {x : Float} → x ≡ get_or (inputs f.rate f.count input) place nan
      → mixed (param_of p).bounds x r.look.found ≡ get_or (samples_of p f input store) place plus_zero
  sample_is place h g e =
      rw (g.found ∙ value_at f.count place h f.rate (block_of p f store).walk.values values_many, e)
      (mixed_at (param_of p).bounds _ _ place (omega (arith, inputs_many)) (omega (arith, values_many)))

  pub all-written : (output : List Float) {out : List Float} → out ≡ over (samples_of p f input store) output
      → out ≡ written (param_of p).bounds f input (block_of p f store).walk.values output
  all-written output o = writes (param_of p).bounds f input (block_of p f store).walk.values output o refl samples_many

-- ---- what the block says and leaves

pub carries : (p : AudioParam) (f : BlockInfos) (store : List Float) → Lookable p f store → {looked : Looked} → Looks p f store 0 looked → (c : Call) → f ≡ infos_of (param_of p).rate c
    → verdict_of (param_of p) store c ≡ Ok tt → {one : Bool} → one ≡ says_one (param_of p).rate (rests_for f (first_of (param_of p).queue)) c.input → (out : List Float)
    → out ≡ written (param_of p).bounds f c.input (block_of p f store).walk.values c.output → {r : Processed} {after : List Float}
    → Gives p f (record { intrinsic = looked.look.intrinsic; last = looked.look.last; at = looked.at; head = looked.head; steps = looked.look.steps; one = one }) store r after
    → Processes p store c r out after
unfolding rendered
carries p f store g looks c asked fine one out o gives =
    let is : block_of p f store ≡ played p f (rests_for f (first_of (param_of p).queue)) store =
    ap (λ (b : Bool). rendered_as b f (param_of p).intrinsic (param_of p).last (attached (param_of p).queue store)) (ap (rests_for f) (head_attached (param_of p).queue store)) in
    plays p store c g.param refl fine asked
    (record {
      queue = looks.queue ∙ ap (λ (x : rule.Walked). x.queue) is;
      intrinsic = looks.intrinsic ∙ ap (λ (x : rule.Walked). x.walk.intrinsic) is;
      last = looks.last ∙ ap (λ (x : rule.Walked). x.walk.last) is;
      steps = looks.steps ∙ ap (λ (x : rule.Walked). x.walk.steps) is;
      one = one;
      samples = o ∙ ap (λ (x : rule.Walked). written (param_of p).bounds f c.input x.walk.values c.output) is;
    })
    gives
