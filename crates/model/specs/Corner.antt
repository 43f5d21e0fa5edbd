-- Corners of occupied cells, their statuses, and the visible quadrant (RULES 1.3, 1.7; occupancy/mod.rs, `CornerStatus`). Definitions only.
use Rattle.std.specs.Prelude.{ℕ, ◌+◌, Bool, false, not, cond, ◌&&◌, ◌||◌, List, [], ◌∷◌, eqb, ltb}
use Rattle.std.specs.Bool.{beq}
use Rattle.model.specs.Maps.{has}
use Rattle.model.specs.Cell.{Dir, SW, SE, NW, NE, col, row, move, side_x, side_y, dir_of}

-- a status: one bit for each direction
pub record Bits : Type 0 where
  pub sw : Bool
  pub se : Bool
  pub nw : Bool
  pub ne : Bool

abbrev pub zero4 : Bits
zero4 = record { sw = false; se = false; nw = false; ne = false }

abbrev pub bit : Dir → Bits → Bool
bit SW b = b.sw
bit SE b = b.se
bit NW b = b.nw
bit NE b = b.ne

abbrev pub set_bit : Dir → Bool → Bits → Bits
set_bit SW v b = record { sw = v; se = b.se; nw = b.nw; ne = b.ne }
set_bit SE v b = record { sw = b.sw; se = v; nw = b.nw; ne = b.ne }
set_bit NW v b = record { sw = b.sw; se = b.se; nw = v; ne = b.ne }
set_bit NE v b = record { sw = b.sw; se = b.se; nw = b.nw; ne = v }

-- `is_corner`
abbrev pub any_bit : Bits → Bool
any_bit b = b.sw || b.se || b.nw || b.ne

-- the paper's number: southwest 1, southeast 2, northwest 4, northeast 8
unfoldable pub number : Bits → ℕ
number b = cond b.sw 1 0 + cond b.se 2 0 + cond b.nw 4 0 + cond b.ne 8 0

unfoldable pub same_bits : Bits → Bits → Bool
same_bits a b = beq a.sw b.sw && beq a.se b.se && beq a.nw b.nw && beq a.ne b.ne

-- an occupied cell has the corner exactly when both side neighbours and the diagonal one are free (sparse_grid.rs, `update_corner_status`)
unfoldable pub corner : List ℕ → ℕ → Dir → Bool
corner C b d = has b C && not (has (side_x d b) C) && not (has (side_y d b) C) && not (has (move 1 d b) C)

unfoldable pub status_of : List ℕ → ℕ → Bits
status_of C b = record { sw = corner C b SW; se = corner C b SE; nw = corner C b NW; ne = corner C b NE }

-- the signs of q - p, where neither is zero (`Corner::from_direction`)
unfoldable pub quadrant : ℕ → ℕ → Dir
quadrant p q = dir_of (ltb (col p) (col q)) (ltb (row p) (row q))

-- cell p is in the visible quadrant of q, whose status is b: q - p has a zero coordinate, or b lacks the bit of its signs (`in_visible_quadrant_of`)
unfoldable pub sees : ℕ → ℕ → Bits → Bool
sees p q b = eqb (col p) (col q) || eqb (row p) (row q) || not (bit (quadrant p q) b)

-- the cells of l with a corner, each with its status: ascending, as l is (`Grid::corners`)
unfoldable pub corners_among : List ℕ → List ℕ → List (ℕ × Bits)
corners_among C [] = []
corners_among C (k ∷ l) = let r = corners_among C l in cond (any_bit (status_of C k)) ((k, status_of C k) ∷ r) r

abbrev pub corner_cells : List ℕ → List (ℕ × Bits)
corner_cells C = corners_among C C
