-- Between functions: the 5 by 5 cells around a cell as words of bits, and what is read off them at once for every cell. Definitions only.
use Rattle.std.specs.Prelude.{ℕ, zero, suc, ◌+◌, ◌*◌, ◌/◌, ◌%◌, ◌<◌, ◌≡◌, Bool, cond, List, [], ◌∷◌, ◌++◌, eqb}
use Rattle.std.specs.Int.Bits.{bit_and, bit_or, bit_xor}
use Rattle.model.specs.Cell.{W}
use Rattle.model.specs.Maps.{has}

-- bit i of n
unfoldable pub on : ℕ → ℕ → Bool
on n zero = eqb (n % 2) 1
on n (suc i) = on (n / 2) i

-- bit 5 * i + j says whether the key i columns and j rows further than `low` is in C
abbrev pub Sees : ℕ → List ℕ → ℕ → Type 0
Sees n C low = (i j : ℕ) → i < 5 → j < 5 → on n (5 * i + j) ≡ has (low + (i * W + j)) C

-- n without the bits of m
abbrev pub without : ℕ → ℕ → ℕ
without n m = bit_xor n (bit_and n m)

-- ---- the neighbour a column to the left is 5 bits lower, the one below it 1 bit
unfoldable pub southwests : ℕ → ℕ
southwests n = without n (bit_or (bit_or (n * 32) (n * 2)) (n * 64))

unfoldable pub southeasts : ℕ → ℕ
southeasts n = without n (bit_or (bit_or (n / 32) (n * 2)) (n / 16))

unfoldable pub northwests : ℕ → ℕ
northwests n = without n (bit_or (bit_or (n * 32) (n / 2)) (n * 16))

unfoldable pub northeasts : ℕ → ℕ
northeasts n = without n (bit_or (bit_or (n / 32) (n / 2)) (n / 64))

-- the cells of n, with those above and below them
abbrev pub stacked : ℕ → ℕ
stacked n = bit_or (bit_or (n / 2) n) (n * 2)

-- the cells of n, with all neighbours
unfoldable pub beside : ℕ → ℕ
beside n = bit_or (bit_or (stacked n / 32) (stacked n)) (stacked n * 32)

-- the bits at which one of four pairs differs, but for those of m
unfoldable pub differing : ℕ → ℕ → ℕ → ℕ → ℕ → ℕ → ℕ → ℕ → ℕ → ℕ
differing a a' b b' c c' d d' m = without (bit_or (bit_or (bit_or (bit_xor a a') (bit_xor b b')) (bit_xor c c')) (bit_xor d d')) m

abbrev pub digit : ℕ → ℕ → ℕ
digit n i = cond (on n i) 1 0

-- the status as a number, of four words at one bit
unfoldable pub status_at : ℕ → ℕ → ℕ → ℕ → ℕ → ℕ
status_at sw se nw ne c = digit sw c + 2 * digit se c + 4 * digit nw c + 8 * digit ne c

-- ---- the nine cells of a window that have all their neighbours in it

-- the d-th of them
abbrev pub inner_cell : ℕ → ℕ → ℕ
inner_cell low d = low + (W + 1) + (d / 3 * W + d % 3)

-- its bit
abbrev pub inner_bit : ℕ → ℕ
inner_bit d = 6 + (d / 3 * 5 + d % 3)

-- what f gives at 0, 1, .., n - 1
unfoldable pub gathered : {A : Type 0} → (ℕ → List A) → ℕ → List A
gathered f zero = []
gathered f (suc n) = gathered f n ++ f n

-- the d-th with its status, if its bit is set
abbrev pub picked_at : ℕ → ℕ → ℕ → ℕ → ℕ → ℕ → ℕ → List (ℕ × ℕ)
picked_at low n sw se nw ne d = cond (on n (inner_bit d)) ((inner_cell low d, status_at sw se nw ne (inner_bit d)) ∷ []) []
