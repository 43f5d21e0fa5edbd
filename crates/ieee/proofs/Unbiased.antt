-- Columns and rows as signed numbers, and as floats. Assumes nothing.
use Rattle.std.proofs.Common.{◌≡◌, ℕ, ◌+◌, ◌^◌, ◌<◌, ◌≤◌, ℤ, pos, ◌+ℤ◌, ◌-ℤ◌, ap, ◌∙◌, arith, w64, SFits, to_z}
use mir.ValLaws.{to_z_pos}
use Rattle.ieee.specs.Whole.{unbias}
use Rattle.ieee.proofs.Integers.{add_parts, less_parts, same_int, unbias_parts, unbias_mag}

-- what the code computes of a column, in two's complement
pub column_back : (n : ℕ) → n ≤ 2 ^ 32 → to_z w64 n -ℤ pos 2147483648 ≡ unbias n
column_back n h =
    let k : n < 2 ^ 63 = omega arith in
    let a = less_parts (pos n) (pos 2147483648) in
    let b = unbias_parts n in
    ap (λ (z : ℤ). z -ℤ pos 2147483648) (to_z_pos w64 n k) ∙ same_int (pos n -ℤ pos 2147483648) (unbias n) (omega arith)

pub column_fits : (n : ℕ) → n ≤ 2 ^ 32 → SFits w64 (unbias n)
column_fits n h = let m = unbias_mag n (2 ^ 31) (omega arith) (omega arith) in record { sfits = omega arith }

-- the next column
pub column_next : (n i : ℕ) → unbias (n + i) ≡ unbias n +ℤ pos i
column_next n i =
    let a = unbias_parts n in
    let b = unbias_parts (n + i) in
    let s = add_parts (unbias n) (pos i) in
    same_int (unbias (n + i)) (unbias n +ℤ pos i) (omega arith)
