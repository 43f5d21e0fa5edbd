-- For replayed vectors: what the words of a line mean: digits, patterns, floats and signed numbers. Definitions only.
use Rattle.std.specs.Prelude.{ℕ, suc, ◌+◌, ◌-◌, ◌*◌, ◌%◌, ◌^◌, cond, ◌&&◌, List, [], ◌∷◌, length, take, drop, ℤ, pos, negsuc, from_bits, is_nan, nat_le, nat_lt, to_bits, Float}
use Rattle.std.specs.Float.{binary64}

-- a hexadecimal digit of lower case; any other byte counts as 0
unfoldable pub digit_of : ℕ → ℕ
digit_of b = cond (nat_le 97 b && nat_le b 102) (b - 97 + 10) (cond (nat_le 48 b && nat_le b 57) (b - 48) 0)

-- the number v with the digits after it, of which the last sixteen count
unfoldable pub hex : ℕ → List ℕ → ℕ
hex v [] = v
hex v (b ∷ l) = hex (v % 2 ^ 60 * 16 + digit_of b) l

-- the sixteen digits from a place on; 0 where the line ends before
unfoldable pub pattern_at : List ℕ → ℕ → ℕ
pattern_at l from = cond (nat_le (from + 16) (length l)) (hex 0 (take 16 (drop from l))) 0

-- the float of a pattern
abbrev pub float_of : ℕ → Float
float_of n = from_bits binary64 n

unfoldable pub pattern_of : Float → ℕ
pattern_of x = cond (is_nan x) 9221120237041090560 (to_bits binary64 x)

-- two's complement
unfoldable pub signed_of : ℤ → ℕ
signed_of (pos n) = n
signed_of (negsuc n) = 2 ^ 64 - suc n

-- the number that has it
unfoldable pub integer_of : ℕ → ℤ
integer_of n = cond (nat_lt n (2 ^ 63)) (pos n) (negsuc (2 ^ 64 - 1 - n))
