-- A cell (x, y) as one key, (x + 2 ^ 31) * 2 ^ 32 + (y + 2 ^ 31), so that keys are ordered by x, then y; its neighbours, and distances. Definitions only.
use Rattle.std.specs.Prelude.{ℕ, ◌+◌, ◌-◌, ◌*◌, ◌/◌, ◌%◌, Bool, true, false, ◌&&◌, List, [], ◌∷◌, leb, ℤ}
use Rattle.ieee.specs.Whole.{biased, unbias}

-- keys from one column to the next
abbrev pub W : ℕ
W = 4294967296

-- the column of x = 0, and the row of y = 0
abbrev pub origin : ℕ
origin = 2147483648

abbrev pub col : ℕ → ℕ
col k = k / W

abbrev pub row : ℕ → ℕ
row k = k % W

abbrev pub x_of : ℕ → ℤ
x_of k = unbias (col k)

abbrev pub y_of : ℕ → ℤ
y_of k = unbias (row k)

-- a coordinate beyond what a key can hold is brought to the nearer end, where no cell is ever occupied (proofs/KeyLaws.antt)
unfoldable pub key : ℤ → ℤ → ℕ
key x y = biased x * W + biased y

-- ---- the four diagonal directions, in bit order (occupancy/mod.rs, `Corner`)
pub data Dir : Type 0 where
  SW SE NW NE : Dir

abbrev pub opp : Dir → Dir
opp SW = NE
opp SE = NW
opp NW = SE
opp NE = SW

-- s cells along each axis (`Cell::shifted`)
abbrev pub move : ℕ → Dir → ℕ → ℕ
move s SW b = b - (s * W + s)
move s SE b = b + s * W - s
move s NW b = b + s - s * W
move s NE b = b + (s * W + s)

-- the neighbours (i, 0) and (0, j) of a cell, (i, j) being the direction
abbrev pub side_x : Dir → ℕ → ℕ
side_x SW b = b - W
side_x SE b = b + W
side_x NW b = b - W
side_x NE b = b + W

abbrev pub side_y : Dir → ℕ → ℕ
side_y SW b = b - 1
side_y SE b = b - 1
side_y NW b = b + 1
side_y NE b = b + 1

-- the direction of the signs, each 'is it above zero'
abbrev pub dir_of : Bool → Bool → Dir
dir_of false false = SW
dir_of true false = SE
dir_of false true = NW
dir_of true true = NE

-- the cell and its eight neighbours: i from -1 to 1, then j (sparse_grid.rs, `change_cells`)
abbrev pub around : ℕ → List ℕ
around k = (k - W - 1) ∷ (k - W) ∷ (k - W + 1) ∷ (k - 1) ∷ k ∷ (k + 1) ∷ (k + W - 1) ∷ (k + W) ∷ (k + W + 1) ∷ []

-- the eight, in the order of mod.rs, `secondary_cardinal_directions`
abbrev pub eight : ℕ → List ℕ
eight k = (k - W - 1) ∷ (k - W) ∷ (k - W + 1) ∷ (k - 1) ∷ (k + 1) ∷ (k + W - 1) ∷ (k + W) ∷ (k + W + 1) ∷ []

-- how far apart two columns, or two rows, are
abbrev pub apart : ℕ → ℕ → ℕ
apart a b = (a - b) + (b - a)

-- the reach of a shift (RULES 1.4)
abbrev pub reach : ℕ → ℕ
reach s = s - 1

-- a lies within the reach of b on both axes (mod.rs, `update_corners`)
unfoldable pub within : ℕ → ℕ → ℕ → Bool
within s a b = leb (apart (col a) (col b)) (reach s) && leb (apart (row a) (row b)) (reach s)
