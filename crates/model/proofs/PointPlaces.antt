-- Every point of a good layer lies at most one shift from an occupied cell, so within the columns and rows that the laws of the yard class cover. Assumes nothing.
use Prim.Native.Nat.{ℕ, ◌+◌, ◌≤◌}
use native.Mathlib.Omega.{arith}
use mathlib.Core.Path.{◌≡◌, refl, sym, ap, ◌∙◌, subst}
use mathlib.Core.Bool.{Bool, true, false, ◌||◌}
use mathlib.Core.List.{List}
use mathlib.Core.Option.{some}
use lib.Dec.{T}
use Rattle.model.specs.Maps.{get, is_some, has}
use Rattle.model.specs.Limits.{max_coordinate, max_shift}
use Rattle.model.specs.Cell.{Dir, SW, SE, NW, NE, col, opp, move}
use Rattle.model.specs.Corner.{Bits, zero4, bit, any_bit, status_of}
use Rattle.model.specs.Layer.{Point, Layer}
use Rattle.model.specs.Good.{bits_in, want, Inside, Good}
use Rattle.model.proofs.MapLaws.{true→T}
use Rattle.model.proofs.CornerLaws.{free_status}
use Rattle.model.proofs.LayerLaws.{want_bit}

some_bit : (b : Bits) → T (any_bit b) → (D : Dir) × T (bit D b)
some_bit b t = go b.sw b.se b.nw b.ne refl refl refl refl t
  where
    go : (w x y z : Bool) → b.sw ≡ w → b.se ≡ x → b.nw ≡ y → b.ne ≡ z → T (w || x || y || z) → (D : Dir) × T (bit D b)
    go true x y z p q r s t = (SW, true→T b.sw p)
    go false true y z p q r s t = (SE, true→T b.se q)
    go false false true z p q r s t = (NW, true→T b.nw r)
    go false false false true p q r s t = (NE, true→T b.ne s)
    go false false false false p q r s t = absurd t

zero_bit : (D : Dir) → T (bit D zero4) → ⊥
zero_bit SW t = t
zero_bit SE t = t
zero_bit NW t = t
zero_bit NE t = t

-- a cell with a corner is occupied
corner_has : (C : List ℕ) (b : ℕ) (D : Dir) → T (bit D (status_of C b)) → T (has b C)
corner_has C b D t = go (has b C) refl
  where
    go : (s : Bool) → has b C ≡ s → T (has b C)
    go true e = true→T (has b C) e
    go false e = absurd (zero_bit D (subst (λ (z : Bits). T (bit D z)) (free_status C b e) t))

-- a move of at most 64 that ends within the batch coordinates began at most 64 beyond them
moved : (s : ℕ) (D : Dir) (k : ℕ) → s ≤ max_shift → Inside max_coordinate (move s D k) → Inside (max_coordinate + max_shift) k
moved s SW k h i = let e : col k ≡ col (move s SW k) + s = omega arith in omega arith
moved s SE k h i = let e : col k + s ≡ col (move s SE k) = omega arith in omega arith
moved s NW k h i = let e : col k ≡ col (move s NW k) + s = omega arith in omega arith
moved s NE k h i = let e : col k + s ≡ col (move s NE k) = omega arith in omega arith

-- a point lies at most 64 beyond the batch coordinates
pub point_inside_lem : (s : ℕ) (C : List ℕ) (l : Layer) → s ≤ max_shift → Good s C l → (k : ℕ) (p : Point) → get k l.points ≡ some p → Inside (max_coordinate + max_shift) k
point_inside_lem s C l h g k p e = go (some_bit (want s C k) there)
  where
    there : T (any_bit (want s C k))
    there = subst (λ (z : Bits). T (any_bit z)) (g.points k) (true→T (any_bit (bits_in l.points k)) (sym (g.real k) ∙ ap is_some e))

    go : ((D : Dir) × T (bit D (want s C k))) → Inside (max_coordinate + max_shift) k
    go (D, t) = let b = move s (opp D) k in moved s (opp D) k h (g.inside b (corner_has C b D (subst T (want_bit s C k D) t)))
