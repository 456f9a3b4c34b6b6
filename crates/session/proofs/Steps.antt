-- A session from line to line: what was said, one thing behind another. Assumes nothing.
use mathlib.Core.Path.{◌≡◌, refl, sym, ap, ◌∙◌, subst}
use mathlib.Core.List.{List}
use Rattle.std.specs.Prelude.{Option}
use Prim.Native.Nat.{ℕ, suc, ◌+◌, ◌≤◌}
use native.Mathlib.Omega.{arith}
use lib.ListN.{length}
use lib.Ieee.{Float}
use Rattle.rules.specs.Block.{Param}
use Rattle.costs.specs.declared.Totals.{Totals}
use Rattle.text.proofs.Writing.{put-nothing, put_same, put_then}
use Rattle.param.specs.Param.{param_of, struct_of}
use Rattle.param.proofs.Calls.{struct_back}
use Rattle.lines.specs.declared.Lines.{Lines}
use Rattle.lines.specs.declared.Line.{Line}
use Rattle.lines.specs.declared.Taken.{Taken}
use Rattle.lines.specs.Lines.{next_of}
use Rattle.desk.specs.declared.Desk.{Desk}
use Rattle.desk.specs.declared.Answered.{Answered}
use Rattle.desk.specs.Desk.{Table, Turn, table_of, SoundDesk, Spoken}
use Rattle.desk.proofs.Turns.{said}
use Rattle.session.specs.Session.{next_turn, and_then, lines_left, lines_turn, Through}

-- ---- the line that was taken

pub by_next : (input : List ℕ) {line this : Option Line} {d : Desk} {s : List Float} {l : List ℕ} {at : ℕ} {r : Answered} {s' : List Float} {l' : List ℕ}
    → line ≡ this → Spoken 42000 (next_turn input this) d s l at r s' l' → Spoken 42000 (next_turn input line) d s l at r s' l'
by_next input {d = d} {s} {l} {at} {r} {s'} {l'} e spoken = subst (λ (o : Option Line). Spoken 42000 (next_turn input o) d s l at r s' l') (sym e) spoken

-- ---- one thing said behind another

same-table : {p q : Param} {n m : ℕ} {s t : List Float} {a b : Totals} → p ≡ q → n ≡ m → s ≡ t → a ≡ b
    → ◌≡◌ {A = Table} (record { param = p; lent = n; store = s; totals = a }) (record { param = q; lent = m; store = t; totals = b })
same-table e f g h = rw (e, f, g, h)

-- what is at hand once it is said
said_table : {most : ℕ} {turn : Table → Turn} {d : Desk} {s : List Float} {l : List ℕ} {at : ℕ} {r : Answered} {s' : List Float} {l' : List ℕ}
    → Spoken most turn d s l at r s' l' → table_of r.desk s' ≡ (turn (table_of d s)).table
said_table k = same-table (ap param_of k.param ∙ struct_back _) k.lent k.store k.totals

then_said : {m n : ℕ} (most : ℕ) {f g : Table → Turn} {d : Desk} {s s₁ s' : List Float} {l l₁ l' : List ℕ} {at : ℕ} {r r' : Answered}
    → Spoken m f d s l at r s₁ l₁ → Spoken n g r.desk s₁ l₁ r.next r' s' l' → r.next ≤ length l → r'.next ≤ at + most → Spoken most (and_then f g) d s l at r' s' l'
unfolding and_then
then_said most {g = g} a b h near =
    let e = said_table a in
    record {
      param = b.param ∙ ap (λ (t : Table). struct_of (g t).table.param) e;
      lent = b.lent ∙ ap (λ (t : Table). (g t).table.lent) e;
      store = b.store ∙ ap (λ (t : Table). (g t).table.store) e;
      totals = b.totals ∙ ap (λ (t : Table). (g t).table.totals) e;
      text = put_then a.text (put_same (ap (λ (t : Table). (g t).text) e) b.text) h;
      sound = b.sound;
      room = near;
    }

-- ---- the lines that are answered

pub none_answered : (input : List ℕ) (d : Desk) (l : Lines) (n : ℕ) (store : List Float) (out : List ℕ) → SoundDesk d → Through input d l n store out d l n store out
unfolding lines_turn lines_left
none_answered input d l n store out ok =
    record { count = 0; spoken = said _ _ _ d.lent _ _ ok refl ok.lent refl (put-nothing _ _) (omega arith); left = refl }

pub one_answered : {input : List ℕ} {d d₁ : Desk} {l l₁ : Lines} {n n₁ : ℕ} {s s₁ s' : List Float} {out out₁ out' : List ℕ} {t : Taken} {r : Answered}
    → Through input d l n s out d₁ l₁ n₁ s₁ out₁ → t ≡ next_of input l₁ → Spoken 42000 (next_turn input t.line) d₁ s₁ out₁ n₁ r s' out'
    → n₁ ≤ length out → r.next ≤ length out → Through input d l n s out r.desk t.lines r.next s' out'
unfolding lines_turn lines_left
one_answered {input} {d₁ = d₁} {n₁ = n₁} {s₁ = s₁} {s'} {out} {out₁} {out'} {t} {r} k e spoken h near =
    let taken = e ∙ ap (next_of input) k.left in
    record {
      count = suc k.count;
      spoken =
          then_said (length out) k.spoken
          (subst (λ (x : Taken). Spoken 42000 (next_turn input x.line) d₁ s₁ out₁ n₁ r s' out') taken spoken)
          h (omega (arith, near));
      left = ap (λ (x : Taken). x.lines) taken;
    }
