-- The table by which a falling power is estimated: three parts of 256 numbers, for eight digits each.
use Rattle.std.specs.Prelude.{cond, List, [], ◌∷◌, ◌++◌, ℕ, zero, suc, ◌-◌, ◌*◌, ◌/◌, ◌%◌, ◌^◌, eqb, length, take, drop}
use Rattle.rules.specs.Kernels.{table, falling_from}

-- what the digits of a multiply by, not floored: c_j for a set one, 2 ^ 32 for another
unfoldable pub product_from : List ℕ → ℕ → ℕ
product_from [] a = 1
product_from (c ∷ cs) a = cond (eqb (a / 2 ^ length cs % 2) 1) c (2 ^ 32) * product_from cs a

-- what the first eight digits take off 2 ^ 32
unfoldable pub taken_first : List ℕ → ℕ → ℕ
taken_first cs i = 2 ^ 32 - falling_from (take 8 cs) i (2 ^ 32)

-- what eight later digits take off 1, in parts of w, floored
unfoldable pub taken_off : List ℕ → ℕ → ℕ → ℕ
taken_off cs w i = (2 ^ 256 - product_from cs i) * w / 2 ^ 256

-- f j, f (j + 1), .. : k of them
unfoldable pub entries : (ℕ → ℕ) → ℕ → ℕ → List ℕ
entries f zero j = []
entries f (suc k) j = f j ∷ entries f k (suc j)

-- by c_1 to c_24
unfoldable pub estimates_from : List ℕ → List ℕ
estimates_from cs =
    entries (taken_first cs) 256 0 ++ (entries (taken_off (take 8 (drop 8 cs)) (2 ^ 40)) 256 0 ++ entries (taken_off (drop 16 cs) (2 ^ 48)) 256 0)

unfoldable pub estimates : List ℕ
estimates = estimates_from table
