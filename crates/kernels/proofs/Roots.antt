-- "The integer square root" is one, and the table by it. Assumes nothing.
use mathlib.Core.Path.{◌≡◌, refl}
use mathlib.Core.Bool.{Bool, true, false, cond}
use mathlib.Core.List.{List, [], ◌∷◌}
use Prim.Native.Nat.{ℕ, zero, suc, ◌+◌, ◌*◌, ◌^◌, ◌≤◌, ◌<◌}
use native.Mathlib.Omega.{arith}
use native.Mathlib.Nat.{pow-suc}
use lib.Dec.{leb}
use borrow.Author.Tests.{leb-true, leb-false}
use Rattle.rules.specs.Kernels.{root_from, root, table, table_from}

pub root_from_lem : (k r x : ℕ) → r * r ≤ x → x < (r + 2 ^ k) * (r + 2 ^ k) → (root_from k r x * root_from k r x ≤ x) × (x < (root_from k r x + 1) * (root_from k r x + 1))
unfolding root_from
root_from_lem zero r x l h = (l, h)
root_from_lem (suc k) r x l h = go (leb ((r + 2 ^ k) * (r + 2 ^ k)) x) refl (λ s. root_from_lem k s x)
  where
    whole : r + 2 ^ k + 2 ^ k ≡ r + 2 ^ suc k
    whole = omega (arith, pow-suc 2 k)

    go : (b : Bool) → leb ((r + 2 ^ k) * (r + 2 ^ k)) x ≡ b
        → ((s : ℕ) → s * s ≤ x → x < (s + 2 ^ k) * (s + 2 ^ k) → (root_from k s x * root_from k s x ≤ x) × (x < (root_from k s x + 1) * (root_from k s x + 1)))
        → (root_from k (cond b (r + 2 ^ k) r) x * root_from k (cond b (r + 2 ^ k) r) x ≤ x)
        × (x < (root_from k (cond b (r + 2 ^ k) r) x + 1) * (root_from k (cond b (r + 2 ^ k) r) x + 1))
    go true e more = more (r + 2 ^ k) (leb-true ((r + 2 ^ k) * (r + 2 ^ k)) x e) (rw whole h)
    go false e more = more r l (leb-false ((r + 2 ^ k) * (r + 2 ^ k)) x e)

pub root_is : (x : ℕ) → x < 2 ^ 64 → (root x * root x ≤ x) × (x < (root x + 1) * (root x + 1))
unfolding root
root_is x h = root_from_lem 32 0 x (omega arith) h

-- c_1 to c_24, as the code writes them
abbrev pub roots : List ℕ
roots = 3037000499 ∷ 3611622602 ∷ 3938502375 ∷ 4112874772 ∷ 4202935002 ∷ 4248701964 ∷ 4271771996 ∷ 4283353945 ∷ 4289156689 ∷ 4292061009 ∷ 4293513906 ∷ 4294240539 ∷ 4294603902 ∷ 4294785595 ∷ 4294876444 ∷ 4294921869 ∷ 4294944582 ∷ 4294955938 ∷ 4294961616 ∷ 4294964455 ∷ 4294965875 ∷ 4294966585 ∷ 4294966940 ∷ 4294967117 ∷ []

pub table_is : table ≡ roots
unfolding table table_from root root_from
table_is = refl
