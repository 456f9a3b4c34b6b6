-- The cases of the definitions, by the tests that lead to them. Assumes nothing.
use mathlib.Core.Path.{◌≡◌, refl}
use mathlib.Core.Bool.{Bool, true, false, cond}
use mathlib.Core.List.{List}
use Rattle.std.specs.Prelude.{None, Some}
use Prim.Native.Nat.{ℕ, ◌+◌, ◌-◌, ◌≤◌}
use native.Mathlib.Omega.{arith}
use lib.Arith.{lt_of_le-ne}
use lib.Dec.{eqb}
use lib.ListN.{length, take, drop, length-take, length-drop}
use borrow.Author.Tests.{eqb-false}
use Rattle.text.specs.Put.{put}
use Rattle.lines.specs.declared.Lines.{Lines}
use Rattle.lines.specs.declared.Line.{Line}
use Rattle.lines.specs.declared.Taken.{Taken}
use Rattle.scan.specs.Bytes.{slice}
use Rattle.text.proofs.Splitting.{index_le}
use Rattle.text.proofs.Writing.{length-put}
use Rattle.lines.specs.Lines.{Within, LineIn, line_end, next_of, last_of, is_long, left_of, moved_of}

-- ---- what is taken lies in the buffer, and less is left

end_in : (buf : List ℕ) (l : Lines) → Within buf l → (l.from ≤ line_end buf l) × (line_end buf l ≤ l.to)
unfolding slice
end_in buf l w = (omega arith, omega (arith, index_le 10 (drop l.from (take l.to buf)), length-drop l.from (take l.to buf), length-take l.to buf, w.ordered, w.inside))

abbrev next_by : List ℕ → Lines → Bool → Taken
next_by buf l b = cond b (record { line = None; lines = l }) (record { line = Some (cond l.long Line.Long (Line.At l.from (line_end buf l))); lines = record { from = line_end buf l + 1; to = l.to; long = false } })

-- where the line goes on, nothing is taken; else the line and its newline, which is some; the bytes end where they ended
pub next_in : (buf : List ℕ) (l : Lines) → Within buf l → LineIn buf (next_of buf l).line × Within buf (next_of buf l).lines × (l.from ≤ (next_of buf l).lines.from) × ((next_of buf l).lines.to ≡ l.to) × ((next_of buf l).lines.from ≡ l.from → (next_of buf l).line ≡ None)
next_in buf l w = by_end (end_in buf l w) (eqb (line_end buf l) l.to) refl
  where
    taken : (e : (l.from ≤ line_end buf l) × (line_end buf l ≤ l.to)) (g : Bool) → LineIn buf (Some (cond g Line.Long (Line.At l.from (line_end buf l))))
    taken e true = tt
    taken e false = (e.0, omega (arith, e.1, w.inside))

    by_end : (e : (l.from ≤ line_end buf l) × (line_end buf l ≤ l.to)) (b : Bool) → eqb (line_end buf l) l.to ≡ b → LineIn buf (next_by buf l b).line × Within buf (next_by buf l b).lines × (l.from ≤ (next_by buf l b).lines.from) × ((next_by buf l b).lines.to ≡ l.to) × ((next_by buf l b).lines.from ≡ l.from → (next_by buf l b).line ≡ None)
    by_end e true t = (tt, w, omega arith, refl, λ q. refl)
    by_end e false t = (taken e l.long, record { ordered = omega (arith, e.1, lt_of_le-ne e.1 (eqb-false (line_end buf l) l.to t)); inside = w.inside }, omega (arith, e.0), refl, λ q. absurd (omega (arith, e.0, q)))

pub last_in_lem : (buf : List ℕ) (l : Lines) → Within buf l → LineIn buf (last_of l)
last_in_lem buf l w = by_long l.long (eqb l.from l.to)
  where
    by_long : (g b : Bool) → LineIn buf (cond g (Some Line.Long) (cond b None (Some (Line.At l.from l.to))))
    by_long true b = tt
    by_long false true = tt
    by_long false false = (w.ordered, w.inside)

-- what is left lies in front, and leaves room
abbrev unread : List ℕ → Lines → List ℕ
unread buf l = take (l.to - l.from) (drop l.from buf)

room_for : (buf : List ℕ) (l : Lines) → Within buf l → 0 + length (unread buf l) ≤ length buf
room_for buf l w = simp (length-take, length-drop) (omega (arith, w.ordered, w.inside))

pub left_in : (buf : List ℕ) (l : Lines) → Within buf l → Within (moved_of buf l) (left_of buf l)
left_in buf l w = by_long (is_long buf l)
  where
    by_long : (g : Bool) → Within (cond g buf (put buf 0 (unread buf l))) (cond g (record { from = 0; to = 0; long = true }) (record { from = 0; to = l.to - l.from; long = false }))
    by_long true = record { ordered = omega arith; inside = omega arith }
    by_long false = record { ordered = omega arith; inside = omega (arith, w.inside, length-put buf 0 (unread buf l) (room_for buf l w)) }
