-- What an answer rests on: the parameter without its queue, and the events that wait with their numbers. Assumes nothing.
use Rattle.std.proofs.Common.{Result, Ok, Err}
use mathlib.Core.Path.{◌≡◌, refl, sym, ap, ◌∙◌}
use mathlib.Core.List.{List, []}
use native.Mathlib.Omega.{arith}
use lib.ListN.{length}
use Rattle.rules.specs.declared.Refusal.{Refusal}
use Rattle.rules.specs.Numbers.{store_length}
use Rattle.rules.specs.Queue.{Waiting, events_of}
use Rattle.rules.specs.Walk.{Walked}
use Rattle.rules.specs.Block.{Param, Call, Answer, with_queue, answer_of, verdict_of, rendered, infos_of}
use Rattle.laws.specs.Fits.{AllFit}
use Rattle.laws.specs.Sound.{Sound}
use Rattle.laws.proofs.Events.{events_length, events_attached}
use Rattle.laws.proofs.Store.{attached_fits}
use Rattle.laws.proofs.Kept.{answered_sound}
use Rattle.laws.proofs.Answers.{refused_block, answer_is, block_reads_back, block_store}
use Rattle.playing.specs.Play.{State, waiting, loaded, tidied, answer_to, after}

-- the parameter, waiting events apart
abbrev pub bare : State → Param
bare s = with_queue [] s.param

-- a parameter as the calls leave it, and a store of 4,096 numbers
pub record SoundState (s : State) : Type 0 where
  pub sound : Sound s.param
  pub long : length s.store ≡ store_length

pub queue_is : (s : State) → events_of (waiting s) ≡ s.param.queue
unfolding waiting
queue_is s = events_attached s.param.queue s.store

pub queue_length : (s : State) → length s.param.queue ≡ length (waiting s)
queue_length s = ap length (sym (queue_is s)) ∙ events_length (waiting s)

pub waiting_fit : (s : State) → SoundState s → AllFit (waiting s)
unfolding waiting
waiting_fit s h = attached_fits s.param.queue s.store (omega (arith, h.sound.waiting.room, h.long))

-- ---- a block

pub by_verdict : (v : Result Unit Refusal) {T : Type 0} → (v ≡ Ok tt → T) → ((why : Refusal) → v ≡ Err why → T) → T
by_verdict (Ok _) f g = f refl
by_verdict (Err why) f g = g why refl

abbrev pub walk_over : Param → List Waiting → Call → Walked
walk_over p ws c = rendered (infos_of p.rate c) p.intrinsic p.last ws

-- what an answered block says of such a parameter
abbrev pub said_over : Param → List Waiting → Call → Answer
said_over p ws c = answer_of p ws c (walk_over p ws c)

module _ (s : State) (c : Call) where
  module _ (fine : verdict_of s.param s.store c ≡ Ok tt) where
    pub answered_is : answer_to s c ≡ answer_of (bare s) (waiting s) c (walk_over (bare s) (waiting s) c)
    unfolding answer_to answer_of waiting
    answered_is = answer_is s.param s.store c fine

    -- what waits after it
    pub answered_waits : SoundState s → waiting (after s c) ≡ (walk_over (bare s) (waiting s) c).queue
    unfolding answer_to after waiting
    answered_waits h = block_reads_back s.param s.store c fine h.sound

    -- its store is as every answered call leaves it
    pub answered_tidy : SoundState s → tidied (after s c) ≡ after s c
    unfolding tidied after loaded answer_of
    answered_tidy h = ap (loaded (after s c).param) (answered_waits h) ∙ rw answered_is

  pub refused_leaves : (why : Refusal) → verdict_of s.param s.store c ≡ Err why → after s c ≡ s
  unfolding after answer_to
  refused_leaves why e = rw (refused_block s.param s.store c why e)

  pub after_sound : SoundState s → SoundState (after s c)
  unfolding after answer_to
  after_sound h =
      record {
        sound = answered_sound s.param s.store h.sound c;
        long =
            by_verdict
            (verdict_of s.param s.store c)
            (λ e. block_store s.param s.store c e h.sound)
            (λ why e. rw (refused_block s.param s.store c why e) h.long);
      }
