-- `open` meets its contract. Assumes nothing.
use Rattle.card_coding.proofs.Calls.{begins_no_card, begins_no_numbers, begins}
use Rattle.card_coding.proofs.open.Goals as goal
use Rattle.card_coding.proofs.open.Goals.{then-card-ne-LENGTH-via-then-card-ne-LENGTH, then-card-ne-LENGTH-via-else-card-ne-LENGTH+then-numbers-ne-STORE}

pub returns-then-card-ne-LENGTH : goal.returns-then-card-ne-LENGTH
returns-then-card-ne-LENGTH c =
    elim c.then-card-ne-LENGTH.branch [
      | then-card-ne-LENGTH-via-then-card-ne-LENGTH w ↦ begins_no_card _ _ _ _ w.if-card-ne-LENGTH.true
      | then-card-ne-LENGTH-via-else-card-ne-LENGTH+then-numbers-ne-STORE w ↦ begins_no_numbers _ _ _ _ w.if-numbers-ne-STORE.true
    ]

pub returns : goal.returns
returns c = begins _ _ _ _ c.open-r.ensures c.put_card.ensures c.if-card-ne-LENGTH.false c.if-numbers-ne-STORE.false
