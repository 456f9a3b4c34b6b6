-- `CardReader::finish` meets its contract. Assumes nothing.
use mathlib.Core.Path.{◌≡◌, sym, ◌∙◌}
use mathlib.Core.List.{List, append-nil}
use native.Mathlib.Nat.{zero-add}
use native.Mathlib.Omega.{arith}
use lib.ListN.{length, drop_of_length-le}
use lib.Seq.{take-length, paste}
use lib.Ieee.{Float}
use Rattle.refusals.proofs.Rows.{found}
use Rattle.card_reader.proofs.Ends.{loads_bad, loads_good, loads_refused}
use Rattle.card_reader.proofs.CardReader.finish.Goals as goal

-- as many numbers over all of a store
pasted : (store numbers : List Float) → length store ≡ length numbers → paste store 0 numbers (length numbers) ≡ numbers
pasted store numbers long = rw (take-length numbers, zero-add (length numbers), drop_of_length-le store {i = length numbers} (omega arith)) (append-nil numbers)

pub returns-then-store-ne-STORE : goal.returns-then-store-ne-STORE
returns-then-store-ne-STORE c = loads_bad c.requires.2 c.if-store-ne-STORE.true

pub returns-then-is_accepted : goal.returns-then-is_accepted
returns-then-is_accepted c =
    let ends = c.end-r.ensures in
    let long = c.if-store-ne-STORE.false in
    loads_good c.requires.2 c.end-r.result _ ends.reader long ends.sound (found c.is_accepted.ensures c.if-is_accepted.true)
    (c.write.ensures ∙ pasted _ _ (long ∙ sym ends.sound.long))

pub returns-else-is_accepted : goal.returns-else-is_accepted
returns-else-is_accepted c =
    loads_refused c.requires.2 c.end-r.result _ c.end-r.ensures.reader c.if-store-ne-STORE.false (found c.is_accepted.ensures c.if-is_accepted.false)
