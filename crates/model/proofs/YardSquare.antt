-- In the yard class the square test at a cell's centre is a test of whole numbers: is an occupied cell within the reach on both axes. Assumes nothing.
use Prim.Native.Nat.{ℕ, ◌+◌, ◌-◌, ◌^◌, ◌≤◌, ◌<◌}
use native.Mathlib.Omega.{arith}
use mathlib.Core.Path.{◌≡◌, sym, ap, ap₂, ◌∙◌}
use mathlib.Core.Bool.{true, ◌&&◌}
use mathlib.Core.List.{List}
use lib.Dec.{T, leb, ltb, leb→le, le→leb, ltb→lt, lt→ltb}
use lib.Ieee.{Float, binary64, fits, of_int}
use lib.Ieee.Fits.{and_i, and_l, and_r}
use Rattle.ieee.specs.Whole.{unbias, floor_z, ceil_z}
use Rattle.ieee.specs.Yard.{centre_f, half_width_f, low_f, high_f, in_yard, whole_n, shift_n}
use Rattle.ieee.proofs.Tools.{same_test}
use Rattle.ieee.proofs.Bias.{biased_le_iff, biased_lt_iff}
use Rattle.ieee.proofs.YardCells.{shift_pos}
use Rattle.ieee.proofs.YardTests.{InYard, in_yard_lem}
use Rattle.ieee.proofs.YardLaws.{shift_whole, side_pos, low_column, high_column}
use Rattle.model.specs.Maps.{has, find}
use Rattle.model.specs.Limits.{max_coordinate, max_shift}
use Rattle.model.specs.Cell.{col, row, apart, reach, within}
use Rattle.model.specs.Plane.{centre}
use Rattle.model.specs.Shape.{from, low_end, high_end, in_box, square_test}
use Rattle.model.specs.Map.{natural, shift_of, tests}
use Rattle.model.specs.Good.{Inside}
use Rattle.model.proofs.FindLaws.{find_same}

-- from v - (s - 1) up to but not including v + s is at most s - 1 apart from v
span : (s u v : ℕ) → 0 < s → leb (v - (s - 1)) u && ltb u (v + s) ≡ leb (apart u v) (reach s)
span s u v h =
    same_test (leb (v - (s - 1)) u && ltb u (v + s)) (leb (apart u v) (reach s))
    (λ t. le→leb (apart u v) (reach s)
    (there (leb→le (v - (s - 1)) u (and_l (leb (v - (s - 1)) u) (ltb u (v + s)) t)) (ltb→lt u (v + s) (and_r (leb (v - (s - 1)) u) (ltb u (v + s)) t))))
    (λ t. let k = back (leb→le (apart u v) (reach s) t) in and_i (leb (v - (s - 1)) u) (ltb u (v + s)) (le→leb (v - (s - 1)) u k.0) (lt→ltb u (v + s) k.1))
  where
    there : v - (s - 1) ≤ u → u < v + s → apart u v ≤ reach s
    there a b = omega arith

    back : apart u v ≤ reach s → (v - (s - 1) ≤ u) × (u < v + s)
    back k = omega arith

module _ (c r : Float) (y : InYard c r) where
  -- one axis: u is the column, or row, of a cell, and v that of the point in the square's middle
  axis : (u v : ℕ) → u < 2 ^ 32 - 1 → 2 ^ 31 - 2 ^ 21 ≤ v → v ≤ 2 ^ 31 + 2 ^ 21
      → from (low_end c (half_width_f r) (centre_f c (of_int binary64 (unbias v)))) (high_end c (half_width_f r) (centre_f c (of_int binary64 (unbias v)))) (unbias u)
      ≡ leb (apart u v) (reach (shift_n (whole_n c) (whole_n r)))
  unfolding low_end high_end low_f high_f
  axis u v top low high =
      let n = of_int binary64 (unbias v) in
      ap₂ ◌&&◌ (sym (biased_le_iff (floor_z (low_f c r n)) u top) ∙ ap (λ (x : ℕ). leb x u) (low_column c r y v low high))
      (sym (biased_lt_iff (ceil_z (high_f c r n)) u top) ∙ ap (λ (x : ℕ). ltb u x) (high_column c r y v low high))
      ∙ span (shift_n (whole_n c) (whole_n r)) u v (shift_pos (whole_n c) (whole_n r) (side_pos c r y))

  shift_is : (tests c r).shift ≡ shift_n (whole_n c) (whole_n r)
  unfolding tests shift_of
  shift_is = ap natural (shift_whole c r y)

  -- both axes
  box_whole : (x k : ℕ) → Inside max_coordinate x → Inside (max_coordinate + max_shift) k → in_box c (centre c k) (half_width_f r) x ≡ within (tests c r).shift x k
  unfolding in_box centre within
  box_whole x k h i =
      ap₂ ◌&&◌ (axis (col x) (col k) (omega arith) (omega arith) (omega arith)) (axis (row x) (row k) (omega arith) (omega arith) (omega arith))
      ∙ ap (λ (s : ℕ). leb (apart (col x) (col k)) (reach s) && leb (apart (row x) (row k)) (reach s)) (sym shift_is)

-- in the yard class the square test at the centre of k answers the first occupied cell within the reach of k on both axes
pub square_whole : (c r : Float) → T (fits binary64 c) → T (fits binary64 r) → in_yard c r ≡ true → (C : List ℕ) → ((k : ℕ) → T (has k C) → Inside max_coordinate k) → (k : ℕ)
    → Inside (max_coordinate + max_shift) k → ((tests c r).square C k).cell ≡ find (λ x. within (tests c r).shift x k) C
unfolding tests square_test half_width_f
square_whole c r f g e C inside k h =
    find_same (in_box c (centre c k) (half_width_f r)) (λ x. within (tests c r).shift x k) C (λ x m. box_whole c r (in_yard_lem c r f g e) x k (inside x m) h)
