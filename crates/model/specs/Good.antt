-- What holds of the cells and a layer after every operation (demand 3), as statements. Definitions only.
use Rattle.std.specs.Prelude.{ℕ, ◌+◌, ◌≤◌, ◌≡◌, ◌≢◌, ◌↔◌, List, T}
use Rattle.std.proofs.Math.Option.{Option, none, some}
use Rattle.model.specs.Maps.{get, is_some, has, Asc, AscL}
use Rattle.model.specs.Limits.{max_coordinate}
use Rattle.model.specs.Cell.{origin, SW, SE, NW, NE, col, row, move, within}
use Rattle.model.specs.Corner.{Bits, zero4, bit, any_bit, status_of, sees}
use Rattle.model.specs.Layer.{Point, Points, Layer, edge}

abbrev pub bits_of : Option Point → Bits
bits_of none = zero4
bits_of (some p) = p.bits

-- the status at k: no bit where there is no point
unfoldable pub bits_in : Points → ℕ → Bits
bits_in ps k = bits_of (get k ps)

-- what the cells and the shift alone give: a corner (i, j) of cell b gives the point b + s(i, j) that bit
unfoldable pub want : ℕ → List ℕ → ℕ → Bits
want s C k =
    record {
      sw = bit SW (status_of C (move s NE k));
      se = bit SE (status_of C (move s NW k));
      nw = bit NW (status_of C (move s SE k));
      ne = bit NE (status_of C (move s SW k));
    }

-- two distinct points, each in the other's visible quadrant
pub record Joined (B : ℕ → Bits) (p q : ℕ) : Type 0 where
  pub differ : p ≢ q
  pub one : T (any_bit (B p))
  pub other : T (any_bit (B q))
  pub fore : T (sees p q (B q))
  pub back : T (sees q p (B p))

-- cell k lies at most n from the origin on both axes
abbrev pub Inside : ℕ → ℕ → Type 0
Inside n k = (origin ≤ col k + n) × (col k ≤ origin + n) × (origin ≤ row k + n) × (row k ≤ origin + n)

-- the cells C and a layer l of shift s: cells and points ascending; cells within the batch coordinates; the points' statuses are what the cells give, and a point has a bit;
-- a pair is held exactly for two that see each other, with the same blocker from both ends; blockers are occupied
pub record Good (s : ℕ) (C : List ℕ) (l : Layer) : Type 0 where
  pub cell_order : AscL 0 C
  pub point_order : Asc 0 l.points
  pub inside : (k : ℕ) → T (has k C) → Inside max_coordinate k
  pub points : (k : ℕ) → bits_in l.points k ≡ want s C k
  pub real : (k : ℕ) → is_some (get k l.points) ≡ any_bit (bits_in l.points k)
  pub pairs : (p q : ℕ) → T (is_some (edge p q l.edges)) ↔ Joined (want s C) p q
  pub twins : (p q : ℕ) → edge p q l.edges ≡ edge q p l.edges
  pub edge_block : (p q b : ℕ) → edge p q l.edges ≡ some (some b) → T (has b C)
  pub point_block : (k b : ℕ) (p : Point) → get k l.points ≡ some p → p.block ≡ some b → T (has b C)

-- o blocks k exactly when an occupied cell lies within the reach of k on both axes
pub record Exact (s : ℕ) (C : List ℕ) (k : ℕ) (o : Option ℕ) : Type 0 where
  pub reached : (b : ℕ) → o ≡ some b → T (within s b k)
  pub clear : o ≡ none → (c : ℕ) → T (has c C) → T (within s c k) → ⊥
