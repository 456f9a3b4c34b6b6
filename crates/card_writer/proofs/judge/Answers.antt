-- `judge` meets its contract. Assumes nothing.
use mathlib.Core.Path.{sym, ap, ◌∙◌}
use Rattle.laws.specs.Sound.{has_played}
use Rattle.card_writer.proofs.Judging.{judged_store, judged-played, judged_events}
use Rattle.card_writer.proofs.judge.Goals as goal

pub returns-then-store-ne-STORE : goal.returns-then-store-ne-STORE
returns-then-store-ne-STORE c = judged_store _ _ c.if-store-ne-STORE.true

pub returns-then-has_played : goal.returns-then-has_played
returns-then-has_played c = judged-played _ _ c.if-store-ne-STORE.false (sym (c.has_played.ensures ∙ ap has_played c.last_block_time.ensures) ∙ c.if-has_played.true)

pub returns : goal.returns
returns c =
    c.judge_events.ensures ∙ judged_events _ _ c.if-store-ne-STORE.false (sym (c.has_played.ensures ∙ ap has_played c.last_block_time.ensures) ∙ c.if-has_played.false)
