-- A status as a number is the sum of its four bits. Assumes nothing.
use Prim.Native.Nat.{ℕ, ◌+◌}
use mathlib.Core.Path.{◌≡◌, refl}
use mathlib.Core.Bool.{Bool, true, false, cond, not, ◌&&◌, ◌||◌}
use mathlib.Core.List.{List}
use Rattle.model.specs.Cell.{Dir, SW, SE, NW, NE, move, side_x, side_y}
use Rattle.model.specs.Corner.{corner, number, status_of}
use Rattle.model.specs.Maps.{has}
use Rattle.corner.specs.Corners.{bit_if}

-- one corner of an occupied cell
corner_bit : (C : List ℕ) (k : ℕ) (d : Dir) (w : ℕ) → has k C ≡ true → ◌≡◌ {A = ℕ} (cond (corner C k d) w 0) (bit_if C (side_x d k) (side_y d k) (move 1 d k) w)
unfolding corner bit_if
corner_bit C k d w h = rw h (go (has (side_x d k) C) (has (side_y d k) C) (has (move 1 d k) C))
  where
    go : (a b e : Bool) → ◌≡◌ {A = ℕ} (cond (not a && not b && not e) w 0) (cond (a || b || e) 0 w)
    go true b e = refl
    go false true e = refl
    go false false true = refl
    go false false false = refl

pub status_sum : (C : List ℕ) (k : ℕ) → has k C ≡ true
    → number (status_of C k) ≡ bit_if C (side_x SW k) (side_y SW k) (move 1 SW k) 1 + bit_if C (side_x SE k) (side_y SE k) (move 1 SE k) 2 + bit_if C (side_x NW k) (side_y NW k) (move 1 NW k) 4 + bit_if C (side_x NE k) (side_y NE k) (move 1 NE k) 8
unfolding number status_of
status_sum C k h = rw (corner_bit C k SW 1 h, corner_bit C k SE 2 h, corner_bit C k NW 4 h, corner_bit C k NE 8 h) refl

pub status_none : (C : List ℕ) (k : ℕ) → has k C ≡ false → number (status_of C k) ≡ 0
unfolding number status_of corner
status_none C k h = rw h refl
