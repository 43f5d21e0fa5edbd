-- Of the cells inside the coordinates each shape takes those that the model says, and so the walk's answers are the model's. Assumes nothing.
use Prim.Native.Nat.{ℕ, ◌+◌, ◌-◌, ◌*◌, ◌^◌, ◌<◌}
use native.Mathlib.Omega.{arith}
use mathlib.Core.Path.{◌≡◌, refl, sym, ap, ◌∙◌}
use mathlib.Core.Bool.{Bool, true, false, cond, ◌&&◌, and-true, and_assoc}
use mathlib.Core.List.{List}
use mathlib.Core.Option.{none, some}
use lib.Ieee.{Float, binary64, add, sub, div, lt}
use Rattle.ieee.specs.Constants.{pow2}
use Rattle.ieee.specs.Whole.{floor_z, biased}
use Rattle.ieee.proofs.Bias.{biased_lt}
use Rattle.model.specs.Cell.{W, col, row, key}
use Rattle.model.specs.Good.{Inside}
use Rattle.model.specs.Limits.{max_coordinate}
use Rattle.model.specs.Maps.{find, has}
use Rattle.model.specs.Plane.{Pt, minus, norm, tiny, cell_of}
use Rattle.model.specs.Shape.{low_end, high_end, in_box, in_circle, in_strip, strip_of, point_test, square_test, circle_test, sweep_test}
use Rattle.shape.specs.Bounds.{in_bounds}
use Rattle.shape.specs.Circle.{circle_meets, circle_of}
use Rattle.shape.specs.Sweep.{strip, rows_of, columns_of}
use Rattle.shape.specs.declared.bounds.Bounds.{Bounds}
use Rattle.shape.specs.declared.circle.Circle.{Circle}
use Rattle.shape.specs.declared.sweep.Strip.{Strip}
use Rattle.shape.proofs.BoundsLaws.{looked}
use Rattle.shape.proofs.CircleLaws.{circle_in_box, circle_out_of_box}
use Rattle.shape.proofs.SweepLaws.{sweep_cells}
use Rattle.table.specs.Tables.{All}
use Rattle.table.proofs.AllLaws.{all_map}
use Rattle.question.specs.Walk.{bounds_around, flat, found_as, keyed, round, swept, taken}
use Rattle.question.specs.declared.search.Found.{Found}
use Rattle.question.proofs.FindLaws.{find_agree}

-- ---- one cell
module _ (c : Float) (k : ℕ) (h : Inside max_coordinate k) where
  column_low : col k < 2 ^ 32 - 1
  column_low = omega arith

  row_low : row k < 2 ^ 32 - 1
  row_low = omega arith

  box_looked : (p : Pt) (d : Float) → in_box c p d k ≡ (in_bounds (bounds_around c p.x d) (col k) && in_bounds (bounds_around c p.y d) (row k))
  unfolding in_box low_end high_end
  box_looked p d =
      rw (looked (div binary64 (sub binary64 p.x d) c) (div binary64 (add binary64 p.x d) c) (col k) column_low, looked (div binary64 (sub binary64 p.y d) c) (div binary64 (add binary64 p.y d) c) (row k) row_low) refl

  pub flat_taken : (p : Pt) (d : Float) → taken (bounds_around c p.x d) (flat (bounds_around c p.y d)) k ≡ in_box c p d k
  flat_taken p d =
      ap (λ (b : Bool). in_bounds (bounds_around c p.x d) (col k) && b) (and-true (in_bounds (bounds_around c p.y d) (row k))) ∙ sym (box_looked p d)

  pub round_taken : (p : Pt) (r : Float) → taken (bounds_around c p.x r) (round (bounds_around c p.y r) (circle_of c p r)) k ≡ in_circle c p r k
  round_taken p r =
      sym (and_assoc (in_bounds (bounds_around c p.x r) (col k)) (in_bounds (bounds_around c p.y r) (row k)) (circle_meets (circle_of c p r) k))
      ∙ ap (λ (b : Bool). b && circle_meets (circle_of c p r) k) (sym (box_looked p r))
      ∙ go (in_box c p r k) refl
    where
      go : (b : Bool) → in_box c p r k ≡ b → (b && circle_meets (circle_of c p r) k) ≡ in_circle c p r k
      go true e = circle_in_box c p r k e
      go false e = sym (circle_out_of_box c p r k e)

  pub swept_taken : (q : Strip) → taken (columns_of c (strip q)) (swept q c) k ≡ in_strip c (strip q) k
  swept_taken q =
      ap (λ (b : Bool). in_bounds (columns_of c (strip q)) (col k) && b) (and-true (in_bounds (rows_of c (strip q) (col k)) (row k))) ∙ sym (sweep_cells c (strip q) k column_low row_low)

-- ---- the point's cell
pub column_small : (c z : Float) (u : ℕ) → u ≡ biased (floor_z (div binary64 z c)) → u < 2 ^ 32
column_small c z u e = rw e (biased_lt (floor_z (div binary64 z c)))

module _ (c : Float) (C : List ℕ) (p : Pt) (u v : ℕ) (eu : u ≡ biased (floor_z (div binary64 p.x c))) (ev : v ≡ biased (floor_z (div binary64 p.y c))) where
  cell_is : cell_of c p ≡ u * W + v
  unfolding cell_of key
  cell_is = rw (eu, ev) refl

  pub point_found : (f : Found) (hit : Bool) → hit ≡ has (u * W + v) C → f ≡ keyed (cond hit (some (u * W + v)) none) → f ≡ found_as (point_test c C p)
  unfolding point_test
  point_found f hit h e = e ∙ rw (h, cell_is) refl

-- ---- the walk's answer is the model's
found_same : (p q : ℕ → Bool) (C : List ℕ) → All (Inside max_coordinate) C → ((k : ℕ) → Inside max_coordinate k → p k ≡ q k) → keyed (find p C) ≡ keyed (find q C)
found_same p q C a f = ap keyed (find_agree p q C (all_map C f a))

module _ (c : Float) (C : List ℕ) (inside : All (Inside max_coordinate) C) (f : Found) (X : Bounds) where
  module _ (p : Pt) (Y : Bounds) where
    pub square_found : (w : Float) → X ≡ bounds_around c p.x (div binary64 w (pow2 1)) → Y ≡ bounds_around c p.y (div binary64 w (pow2 1))
        → f ≡ keyed (find (taken X (flat Y)) C) → f ≡ found_as (square_test c C p w)
    unfolding square_test
    square_found w x y e =
        let d = div binary64 w (pow2 1) in
        e ∙ rw (x, y) (found_same (taken (bounds_around c p.x d) (flat (bounds_around c p.y d))) (in_box c p d) C inside (λ k h. flat_taken c k h p d))

    pub circle_found : (r : Float) (g : Circle) → X ≡ bounds_around c p.x r → Y ≡ bounds_around c p.y r → g ≡ circle_of c p r
        → f ≡ keyed (find (taken X (round Y g)) C) → f ≡ found_as (circle_test c C p r)
    unfolding circle_test
    circle_found r g x y o e =
        e ∙ rw (x, y, o) (found_same (taken (bounds_around c p.x r) (round (bounds_around c p.y r) (circle_of c p r))) (in_circle c p r) C inside (λ k h. round_taken c k h p r))

  pub sweep_found : (p0 p1 : Pt) (w : Float) (q : Strip) → lt (norm (minus p1 p0)) tiny ≡ false → strip q ≡ strip_of p0 p1 (div binary64 w (pow2 1)) → X ≡ columns_of c (strip q)
      → f ≡ keyed (find (taken X (swept q c)) C) → f ≡ found_as (sweep_test c C p0 p1 w)
  unfolding sweep_test
  sweep_found p0 p1 w q n s x e =
      rw (n, ← s) (e ∙ rw x (found_same (taken (columns_of c (strip q)) (swept q c)) (in_strip c (strip q)) C inside (λ k h. swept_taken c k h q)))

pub sweep_short : (c : Float) (C : List ℕ) (p0 p1 : Pt) (w : Float) → lt (norm (minus p1 p0)) tiny ≡ true → point_test c C p0 ≡ sweep_test c C p0 p1 w
unfolding sweep_test
sweep_short c C p0 p1 w t = rw t refl
