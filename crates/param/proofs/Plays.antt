-- What a block's events leave, and what the whole block answers by that. Assumes nothing.
use Rattle.std.proofs.Common.{Option, Some, None, Result, Ok, Err}
use mathlib.Core.Path.{◌≡◌, refl, sym, ap, ◌∙◌}
use mathlib.Core.Bool.{Bool, true, false}
use mathlib.Core.List.{List, [], ◌∷◌, ◌++◌}
use Prim.Native.Nat.{ℕ, ◌≤◌}
use native.Mathlib.Omega.{arith}
use native.Mathlib.Nat.{le_trans}
use lib.ListN.{length, take, drop, set, replicate, length-drop}
use lib.Seq.{length-take-le, take-append-le, drop_at}
use lib.Ieee.{Float}
use Rattle.rules.specs.declared.Bounds.{Bounds}
use Rattle.rules.specs.declared.AutomationRate.{AutomationRate}
use Rattle.rules.specs.declared.AutomationRate.TheVariants as Rate
use Rattle.rules.specs.declared.BlockInfos.{BlockInfos}
use Rattle.rules.specs.declared.Event.{Event}
use Rattle.rules.specs.declared.Refusal.{Refusal}
use Rattle.rules.specs.Numbers.{ceiling_of, most_events, store_length}
use Rattle.rules.specs.Queue.{Waiting, head_of, events_of, lengths_of, attached}
use Rattle.rules.specs.Walk as Rules
use Rattle.rules.specs.Block.{Call, Answer, infos_of, rests_for, walk_from, values_before, rendered_as, rendered, says_one, output_of, answer_of, verdict_of, answered}
use Rattle.laws.proofs.Places.{FilledSoFar, walk_fills}
use Rattle.laws.proofs.Events.{events_attached, events_drop}
use Rattle.laws.proofs.Kept.{answered_sound}
use Rattle.laws.proofs.Rows.{Played as Given, ceiling_most}
use Rattle.laws.proofs.Answers.{given, answer_is, refused_block}
use Rattle.timeline.specs.declared.AudioParamEventTimeline.{AudioParamEventTimeline}
use Rattle.timeline.specs.Timeline.{Neat, made, waiting, first_of, head_as}
use Rattle.timeline.specs.Heads.{waiting_as, with_head}
use Rattle.timeline.proofs.Heads.{head_attached}
use Rattle.timeline.proofs.Laws.{waits_of, neat_of, count}
use Rattle.curves.specs.Curves.{packed_in, Leaves}
use Rattle.curves.proofs.Calls.{packed-whole, leaves_replaced}
use Rattle.automation.specs.declared.Walked.{Walked}
use Rattle.automation.specs.Walked.{Walks}
use Rattle.block.specs.Asked.{Given as FilledFor, written}
use Rattle.param.specs.declared.AudioParam.{AudioParam}
use Rattle.param.specs.declared.Processed.{Processed}
use Rattle.param.specs.declared.process.Played.{Played}
use Rattle.param.specs.Param.{param_of, struct_of, SoundParam}
use Rattle.param.specs.Processed.{length_of_head, unplayed, afterwards, Playable, played, Plays, Gives, Processes}
use Rattle.param.proofs.Calls.{whole, struct_sound}

-- ---- the numbers of a queue of one event at most

pub head_alone : (es : List Event) → length es ≤ 1 → length_of_head (first_of es) ≡ lengths_of es
unfolding length_of_head first_of lengths_of
head_alone [] h = refl
head_alone (e ∷ []) h = omega arith
head_alone (e ∷ f ∷ es) h = absurd (omega arith)

-- ---- the queue behind a walk

-- what is left is a queue
pub left_neat : (q r : AudioParamEventTimeline) (n : ℕ) {part after : List Float} → Neat q → Leaves r part after (drop n (attached (waiting q) part)) → Neat r
left_neat q r n {part} h l =
    let e : events_of (drop n (attached (waiting q) part)) ≡ drop n (waiting q) = events_drop n (attached (waiting q) part) ∙ ap (drop n) (events_attached (waiting q) part) in
    let f : q.len ≤ most_events = h.few in
    let m : length (waiting q) ≡ q.len = count q h in
    let d : length (drop n (waiting q)) ≤ most_events = rw length-drop (omega arith) in
    neat_of r (drop n (waiting q)) (l.queue ∙ ap made e) d

-- its head is what it has become
pub leaves_head : (h : Option Event) (q r : AudioParamEventTimeline) (ws : List Waiting) {before after : List Float} → Leaves q before after ws
    → r ≡ made (head_as h (waiting q)) → Leaves r before after (with_head h ws)
unfolding with_head head_as events_of
leaves_head None q r ws l f = record { queue = f ∙ ap made (waits_of q (events_of ws) l.queue); part = l.part }
leaves_head (Some e) q r [] l f = record { queue = f ∙ ap (λ (es : List Event). made (set es 0 e)) (waits_of q [] l.queue); part = l.part }
leaves_head (Some e) q r (w ∷ ws) {before} {after} l f = leaves_replaced q r before after w (waiting_as e w.numbers) ws l refl f

-- what is given back by that queue
pub gives : (p : AudioParam) (f : BlockInfos) (l : Played) (q t : AudioParamEventTimeline) {r : Processed} {part after : List Float} → Leaves q part after (drop l.at (attached (param_of p).queue part))
    → t ≡ made (head_as l.head (waiting q)) → r ≡ afterwards p f t l → Gives p f l part r after
gives p f l q t {r} leaves e is =
    let same : r.param.timeline ≡ t = ap (λ (x : Processed). x.param.timeline) is in
    record { given = is ∙ ap (λ (x : AudioParamEventTimeline). afterwards p f x l) (sym same); leaves = rw same (leaves_head l.head q t _ leaves e) }

-- ---- a block's events

before_few : (count : ℕ) (r : AutomationRate) (v : Float) → FilledSoFar r count (length (values_before r v))
unfolding values_before
before_few count Rate.A v = omega arith
before_few count Rate.K v = refl

module _ (p : AudioParam) (f : BlockInfos) (input output part : List Float) {one : Bool} {out : List Float} where
  -- none of them reaches into it
  pub rests : out ≡ written p.bounds f input (replicate f.count p.intrinsic) output → one ≡ says_one p.rate true input
      → Plays p f true input output part (record { intrinsic = p.intrinsic; last = p.last; at = 0; head = None; steps = 1; one = one }) out
  unfolding rendered_as with_head
  rests o e = record { queue = refl; intrinsic = refl; last = refl; steps = refl; one = e; samples = o }

  -- they are walked
  module _ {b c : List Float} {done : Walked} (w : Walks f (walk_from p.intrinsic p.last (values_before f.rate p.intrinsic) 0) (param_of p).queue part b done c) where
    pub walks : out ≡ written p.bounds f input (take done.walk.filled c) output → one ≡ says_one p.rate false input
        → Plays p f false input output part
        (record { intrinsic = done.walk.intrinsic; last = done.walk.last; at = done.at; head = done.head; steps = done.walk.steps; one = one })
        out
    unfolding rendered_as
    walks o e =
        record {
          queue = w.queue;
          intrinsic = ap (λ (x : Rules.Walk). x.intrinsic) w.walk;
          last = ap (λ (x : Rules.Walk). x.last) w.walk;
          steps = ap (λ (x : Rules.Walk). x.steps) w.walk;
          one = e;
          samples = o ∙ rw (← w.walk);
        }

-- a walk fills the block
pub walk_given : (p : AudioParam) (f : BlockInfos) (part : List Float) {b c : List Float} {done : Walked}
    → Walks f (walk_from p.intrinsic p.last (values_before f.rate p.intrinsic) 0) (param_of p).queue part b done c → FilledFor f (take done.walk.filled c)
walk_given p f part w = rw (ap (λ (x : Rules.Walk). x.values) w.walk) (walk_fills f _ _ (before_few f.count f.rate p.intrinsic))

-- its values stand in the output, in front of what was behind the block
pub values_stand : (n : ℕ) (c rest : List Float) → n ≤ length c → take (length (take n c)) (c ++ rest) ≡ take n c
values_stand n c rest h = rw (length-take-le n c h) (take-append-le n c rest h)

pub behind-same : (b : Bounds) (f : BlockInfos) (input vs c output : List Float) → length c ≡ f.count → written b f input vs (c ++ drop f.count output) ≡ written b f input vs output
unfolding written
behind-same b f input vs c output h = rw (drop_at c (drop f.count output) f.count h)

-- ---- the block

module _ (p : AudioParam) (store : List Float) (c : Call) (s : SoundParam p) where
  -- by what the rules answer
  pub processes : {r : Processed} {out left : List Float} (a : Answer) → answered (param_of p) store c ≡ a → r.verdict ≡ a.verdict → r.param ≡ struct_of a.param
      → r.steps ≡ a.steps → r.current ≡ a.current → r.one ≡ a.one_valued → out ≡ a.output → left ≡ a.store → Processes p store c r out left
  processes {r} a is v q n i o out left =
      record {
        verdict = rw is v;
        param = rw is q;
        steps = rw is n;
        current = rw is i;
        one = rw is o;
        written = rw is out;
        left = rw is left;
        sound = rw (q ∙ ap (λ (x : Answer). struct_of x.param) (sym is)) (struct_sound (answered (param_of p) store c).param (answered_sound (param_of p) store s.sound c));
      }

  pub refuses : {v : Result Unit Refusal} {why : Refusal} → v ≡ verdict_of (param_of p) store c → v ≡ Err why
      → {r : Processed} → r ≡ unplayed p v → Processes p store c r c.output store
  refuses {v} {why} e h is = rw is (processes _ (refused_block (param_of p) store c why (sym e ∙ h)) h (whole p s) refl refl refl refl refl)

  module _ {v : Result Unit Refusal} (e : v ≡ verdict_of (param_of p) store c) (h : v ≡ Ok tt) where
    abbrev infos : BlockInfos
    infos = infos_of p.rate c

    fine : verdict_of (param_of p) store c ≡ Ok tt
    fine = sym e ∙ h

    asked_for : Given (ceiling_of p.edition) p.block store c.time c.period c.count c.input c.output
    asked_for = given (param_of p) store c fine

    pub few : c.count ≤ 1024
    few = le_trans asked_for.few (ceiling_most p.edition)

    module _ {f : BlockInfos} (is : f ≡ infos_of p.rate c) where
      pub playable : Playable p f c.input c.output store
      unfolding infos_of
      playable =
          let r : lengths_of (param_of p).queue ≤ store_length = s.sound.waiting.room in
          let l : length store ≡ store_length = asked_for.lent in
          rw is
          (record {
            param = s;
            fits = record { some = asked_for.some; room = asked_for.room; lent = asked_for.input_fits };
            few = asked_for.few;
            room = omega arith;
          })

      pub plays : {l : Played} {r : Processed} {out left : List Float} → Plays p f (rests_for f (first_of (param_of p).queue)) c.input c.output store l out
          → Gives p f l store r left → Processes p store c r out left
      unfolding answer_of output_of written infos_of rendered
      plays {l} {r} {out} {left} g gives =
          let q = r.param.timeline in
          let leaves = gives.leaves in
          let ws = attached (param_of p).queue store in
          let t = rests_for infos (first_of (param_of p).queue) in
          let here : t ≡ rests_for infos (head_of ws) = ap (rests_for infos) (sym (head_attached (param_of p).queue store)) in
          let done : played p infos t store ≡ rendered infos p.intrinsic p.last ws = rw here in
          let g' : Plays p infos t c.input c.output store l out = rw is at g in
          let is-given : r ≡ afterwards p infos q l = (rw is at gives).given in
          let queue : q ≡ made (events_of (played p infos t store).queue) = leaves.queue ∙ ap (λ (xs : List Waiting). made (events_of xs)) g'.queue in
          processes
          (answer_of (param_of p) ws c (rendered infos p.intrinsic p.last ws))
          (answer_is (param_of p) store c fine)
          (ap (λ (x : Processed). x.verdict) is-given)
          (rw (← done) (ap (λ (x : Processed). x.param) is-given ∙ rw (queue, g'.intrinsic, g'.last)))
          (rw (← done) (ap (λ (x : Processed). x.steps) is-given ∙ g'.steps))
          (ap (λ (x : Processed). x.current) is-given)
          (rw (← here) (ap (λ (x : Processed). x.one) is-given ∙ g'.one))
          (rw (← done, g'.samples))
          (rw (← done) (leaves.part ∙ ap (packed_in (length store)) g'.queue ∙ packed-whole store _ asked_for.lent))
