-- Document 01, "Arithmetic to be built": falling power and log, over whole numbers.
use Rattle.std.specs.Prelude.{cond, List, [], ◌∷◌, ℕ, zero, suc, ◌+◌, ◌*◌, ◌/◌, ◌%◌, ◌^◌, leb, eqb, length}

-- "N = 2^24"
abbrev pub parts : ℕ
parts = 2 ^ 24

-- the largest number of k binary digits, with r's digits before them, whose square is at most x
unfoldable pub root_from : ℕ → ℕ → ℕ → ℕ
root_from zero r x = r
root_from (suc k) r x = root_from k (cond (leb ((r + 2 ^ k) * (r + 2 ^ k)) x) (r + 2 ^ k) r) x

-- "the integer square root", of an x below 2 ^ 64
unfoldable pub root : ℕ → ℕ
root x = root_from 32 0 x

-- "c_j = the integer square root of c_(j−1) × 2^32": c_1 to c_k, where c is c_0
unfoldable pub table_from : ℕ → ℕ → List ℕ
table_from zero c = []
table_from (suc k) c = let next = root (c * 2 ^ 32) in next ∷ table_from k next

-- "c_0 = 2^31 .. j to 24"
unfoldable pub table : List ℕ
table = table_from 24 (2 ^ 31)

-- "for each set bit of a, the highest standing for j = 1 and taken first, multiply by c_j and divide by 2^32, floored"
unfoldable pub falling_from : List ℕ → ℕ → ℕ → ℕ
falling_from [] a r = r
falling_from (c ∷ cs) a r = falling_from cs a (cond (eqb (a / 2 ^ length cs % 2) 1) (r * c / 2 ^ 32) r)

-- r(a), for 0 ≤ a < N: "start at 2^32"
unfoldable pub falling : ℕ → ℕ
falling a = falling_from table a (2 ^ 32)

-- k digits more behind those of a: "square, divide by 2^31, floor; at 2^32 or more the digit is 1 and it is halved, floored; else 0"
unfoldable pub log_from : ℕ → ℕ → ℕ → ℕ
log_from zero m a = a
log_from (suc k) m a =
    let square = m * m / 2 ^ 31 in
    let digit = leb (2 ^ 32) square in
    log_from k (cond digit (square / 2) square) (2 * a + cond digit 1 0)

-- a, for m from 2^31 to 2^32 - 1: "Twenty-four times"
unfoldable pub log : ℕ → ℕ
log m = log_from 24 m 0
