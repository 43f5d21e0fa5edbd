-- The limits (RULES 3.1), each named once. Definitions only.
use Rattle.std.specs.Prelude.{ℕ, ◌+◌, ◌-◌, ◌*◌, ◌/◌, false, negsuc, Float}
use Rattle.std.specs.Float.{fin}
use Rattle.ieee.specs.Constants.{pow2}

-- cell size: 1/1024 to 65,536
abbrev pub least_size : Float
least_size = fin false 1 (negsuc 9)

abbrev pub most_size : Float
most_size = pow2 16

-- the shift of an accepted radius
abbrev pub max_shift : ℕ
max_shift = 64

-- entries of a batch, and its numbers: column, row and occupied of each entry
abbrev pub max_batch : ℕ
max_batch = 256

abbrev pub max_numbers : ℕ
max_numbers = 3 * max_batch

-- batch coordinates, from -1,048,576 to 1,048,576; visibility and neighbour questions may go 64 further
abbrev pub max_coordinate : ℕ
max_coordinate = 1048576

abbrev pub beyond : ℕ
beyond = 64

-- occupied cells, and points
abbrev pub max_cells : ℕ
max_cells = 1024

abbrev pub max_points : ℕ
max_points = 64

-- places of the table of pairs: a row for each point
abbrev pub pair_places : ℕ
pair_places = max_points * max_points

-- query coordinates, widths and radii
abbrev pub max_query : Float
max_query = pow2 40

-- ---- what a lent output needs: places for confirmed changes, corner changes, occupied or corner cells, other cells, pairs
abbrev pub need_confirmed : ℕ
need_confirmed = max_batch

abbrev pub need_corners : ℕ
need_corners = 9 * max_batch

abbrev pub need_cells : ℕ
need_cells = max_cells

abbrev pub need_others : ℕ
need_others = max_points

abbrev pub need_pairs : ℕ
need_pairs = max_points * (max_points - 1) / 2

-- bytes of the longest field of a map file: a tag, a length of two bytes, and nine bytes for each entry of a batch
abbrev pub need_window : ℕ
need_window = 3 + 9 * max_batch

-- bytes of a listing: its first line, and a line for each point and each pair
abbrev pub first_room : ℕ
first_room = 256

abbrev pub line_room : ℕ
line_room = 80

abbrev pub need_listing : ℕ
need_listing = first_room + line_room * (max_points + need_pairs)
