-- 02, C-14: events of which none lies inside another that is a curve. So is a queue before the first block (playing's `nothing_inside`); later a target that snaps at
-- a block's end can leave its step at the very start of a curve, ahead of it.
use Rattle.std.specs.Prelude.{Bool, true, not, ◌&&◌, List, [], ◌∷◌}
use Rattle.rules.specs.declared.Event.{Event}
use Rattle.rules.specs.Queue.{filed_under, covers}
use Rattle.laws.specs.Sound.{all}

-- neither is filed inside the other
unfoldable pub is_apart : Event → Event → Bool
is_apart e d = not (covers (filed_under e) d) && not (covers (filed_under d) e)

unfoldable pub are_apart : List Event → Bool
are_apart [] = true
are_apart (e ∷ es) = all (is_apart e) es && are_apart es
