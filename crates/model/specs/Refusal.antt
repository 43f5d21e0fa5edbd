-- Refusals 1 to 9, their one order, and runs with refused operations among them (RULES 4). Definitions only.
use Rattle.std.specs.Prelude.{ℕ, zero, suc, ◌+◌, Bool, true, false, not, cond, ◌&&◌, ◌||◌, List, [], ◌∷◌, eqb, ltb, length, ℤ, pos, nat_abs, Float}
use Rattle.std.specs.Int.Signed.{le_z, lt_z}
use Rattle.std.specs.Float.{nan, inf, fin}
use Rattle.std.specs.Float.Ieee.{le}
use Rattle.ieee.specs.Constants.{nought}
use Rattle.ieee.specs.Pick.{abs_f}
use Rattle.ieee.specs.Whole.{ceil_z}
use Rattle.ieee.specs.Yard.{shift_f}
use Rattle.model.specs.Limits.{least_size, most_size, max_shift, max_batch, max_coordinate, beyond, max_cells, max_points, max_query}
use Rattle.model.specs.Plane.{Pt}
use Rattle.model.specs.Shape.{Question, point, square, circle, sweep}
use Rattle.model.specs.Map.{Map, Entry, Op, batch, radius, fresh, next}

-- ---- the order, in one place
abbrev pub order : List ℕ
order = 9 ∷ 1 ∷ 2 ∷ 3 ∷ 4 ∷ 5 ∷ 6 ∷ 7 ∷ 8 ∷ []

-- what a call is judged by: the numbers that concern it, each with whether it is due; one that is not named is not due, one that is named twice is due if either says so
abbrev pub Dues : Type 0
Dues = List (ℕ × Bool)

unfoldable pub is_due : ℕ → Dues → Bool
is_due n [] = false
is_due n (d ∷ l) = let r = is_due n l in cond (eqb n d.0) (r || d.1) r

unfoldable pub first_due : List ℕ → Dues → ℕ
first_due [] d = 0
first_due (n ∷ ns) d = let r = first_due ns d in cond (is_due n d) n r

-- the first number of the order that is due; 0 is done
unfoldable pub verdict : Dues → ℕ
verdict d = first_due order d

-- ---- 9: a lent buffer is shorter than its fixed need; each with its length, then its need
unfoldable pub short : List (ℕ × ℕ) → Bool
short [] = false
short (b ∷ l) = ltb b.0 b.1 || short l

-- ---- 1 and 2: cell size and radius
abbrev pub finite : Float → Bool
finite nan = false
finite (inf s) = false
finite (fin s m e) = true

unfoldable pub bad_size : Float → Bool
bad_size c = not (finite c && le least_size c && le c most_size)

-- minus zero passes
unfoldable pub bad_radius : Float → Float → Bool
bad_radius c r = not (finite r && le nought r && le_z (ceil_z (shift_f c r)) (pos max_shift))

-- ---- 3, 4 and 5: a batch
abbrev pub before : Entry → Entry → Bool
before a b = lt_z a.x b.x || (le_z a.x b.x && lt_z a.y b.y)

unfoldable pub unsorted : List Entry → Bool
unsorted [] = false
unsorted (a ∷ []) = false
unsorted (a ∷ b ∷ l) = not (before a b) || unsorted (b ∷ l)

abbrev pub off_map : ℕ → ℤ → Bool
off_map most z = ltb most (nat_abs z)

unfoldable pub outside : List Entry → Bool
outside [] = false
outside (e ∷ l) = off_map max_coordinate e.x || off_map max_coordinate e.y || outside l

-- ---- 6 and 7: room
abbrev pub crowded : Map → Bool
crowded m = ltb max_cells (length m.cells)

abbrev pub packed : Map → Bool
packed m = ltb max_points (length m.layer.points)

-- ---- 8: query numbers
unfoldable pub bad_number : Float → Bool
bad_number z = not (finite z && le (abs_f z) max_query)

unfoldable pub bad_length : Float → Bool
bad_length z = bad_number z || not (le nought z)

abbrev pub bad_point : Pt → Bool
bad_point p = bad_number p.x || bad_number p.y

unfoldable pub bad_question : Question → Bool
bad_question (point p) = bad_point p
bad_question (square p w) = bad_point p || bad_length w
bad_question (circle p r) = bad_point p || bad_length r
bad_question (sweep p q w) = bad_point p || bad_point q || bad_length w

-- ---- each call names the numbers that concern it: the lent buffers, the map handed in, and the state afterwards are judged together
-- opening
unfoldable pub refuse_open : List (ℕ × ℕ) → Float → Float → ℕ
refuse_open lent c r = verdict ((9, short lent) ∷ (1, bad_size c) ∷ (2, bad_radius c r) ∷ [])

-- a call that leaves the map as it is: what each of them is judged by, and what this one is besides
unfoldable pub refuse_asking : List (ℕ × ℕ) → Map → Dues → ℕ
refuse_asking lent m more =
    verdict ((9, short lent) ∷ (1, bad_size m.size) ∷ (2, bad_radius m.size m.layer.radius) ∷ (6, crowded m) ∷ (7, packed m) ∷ more)

-- a list, or whether one cell is occupied
abbrev pub refuse_list : List (ℕ × ℕ) → Map → ℕ
refuse_list lent m = refuse_asking lent m []

-- visibility from a cell, or its neighbours
abbrev pub refuse_cell : List (ℕ × ℕ) → Map → ℤ → ℤ → ℕ
refuse_cell lent m x y = refuse_asking lent m ((5, off_map (max_coordinate + beyond) x || off_map (max_coordinate + beyond) y) ∷ [])

-- a question of four shapes
abbrev pub refuse_question : List (ℕ × ℕ) → Map → Question → ℕ
refuse_question lent m q = refuse_asking lent m ((8, bad_question q) ∷ [])

-- an operation that would leave m'
unfoldable pub judge : List (ℕ × ℕ) → Op → Map → Map → ℕ
judge lent (batch l) m m' =
    verdict
    ((9, short lent)
    ∷ (1, bad_size m.size)
    ∷ (2, bad_radius m.size m.layer.radius)
    ∷ (3, ltb max_batch (length l))
    ∷ (4, unsorted l)
    ∷ (5, outside l)
    ∷ (6, crowded m || crowded m')
    ∷ (7, packed m || packed m')
    ∷ [])
judge lent (radius r) m m' =
    verdict
    ((9, short lent)
    ∷ (1, bad_size m.size)
    ∷ (2, bad_radius m.size m.layer.radius || bad_radius m.size r)
    ∷ (6, crowded m)
    ∷ (7, packed m || packed m')
    ∷ [])

-- ---- runs; here every lent buffer is long enough
unfoldable pub refusal : Op → Map → ℕ
refusal o m = judge [] o m (next o m)

-- a refused call leaves the map as it was
abbrev pub unless : ℕ → Map → Map → Map
unless zero m' m = m'
unless (suc n) m' m = m

unfoldable pub step : Op → Map → Map
step o m = let m' = next o m in unless (judge [] o m m') m' m

unfoldable pub run : List Op → Map → Map
run [] m = m
run (o ∷ os) m = run os (step o m)

-- the numbers that the operations of a run are answered with
unfoldable pub refusals : List Op → Map → List ℕ
refusals [] m = []
refusals (o ∷ os) m = refusal o m ∷ refusals os (step o m)

-- what a refused opening gives is all zero, and so refused with 1 ever after
abbrev pub nothing : Map
nothing = fresh nought nought

unfoldable pub opened : Float → Float → Map
opened c r = unless (refuse_open [] c r) (fresh c r) nothing
