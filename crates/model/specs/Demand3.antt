-- Demand 3: what holds on a fresh map after any run of batches and radius changes, refused ones among them. Statements only.
use Rattle.std.specs.Prelude.{ℕ, zero, suc, ◌≤◌, ◌≡◌, ◌≢◌, Bool, true, false, cond, List, [], ◌∷◌, ◌++◌, T, eqb, length, Float}
use Rattle.std.proofs.Math.Option.{some}
use Rattle.std.specs.Float.{binary64}
use Rattle.std.specs.Float.Ieee.{fits}
use Rattle.ieee.specs.Constants.{nought}
use Rattle.ieee.specs.Yard.{in_yard}
use Rattle.model.specs.Maps.{get, has}
use Rattle.model.specs.Limits.{max_cells, max_points}
use Rattle.model.specs.Batch.{Batch}
use Rattle.model.specs.Layer.{Point}
use Rattle.model.specs.Good.{Good, Exact}
use Rattle.model.specs.Map.{Map, Op, batch, radius, to_batch, shift_of}
use Rattle.model.specs.Refusal.{refusal, step, refuse_open, opened}

-- ---- the accepted calls: those of os on m that were answered with 0, in the order in which they came
-- a call that was answered with n, put before the others
abbrev pub recorded : ℕ → Op → List Op → List Op
recorded zero o os = o ∷ os
recorded (suc n) o os = os

unfoldable pub accepted : List Op → Map → List Op
accepted [] m = []
accepted (o ∷ os) m = recorded (refusal o m) o (accepted os (step o m))

-- ---- the cells last accepted, by the history of entries
abbrev pub told : Op → Batch
told (batch l) = to_batch l
told (radius r) = []

unfoldable pub history : List Op → Batch
history [] = []
history (o ∷ os) = told o ++ history os

-- the occupancy of cell k by the last entry that names it; v if none does
unfoldable pub last_word : Batch → ℕ → Bool → Bool
last_word [] k v = v
last_word (e ∷ h) k v = last_word h k (cond (eqb k e.0) e.1 v)

-- ---- the radius last accepted, by the history of radius changes; v if there is none
abbrev pub told_radius : Op → Float → Float
told_radius (batch l) v = v
told_radius (radius r) v = r

unfoldable pub last_radius : List Op → Float → Float
last_radius [] v = v
last_radius (o ∷ os) v = last_radius os (told_radius o v)

-- ---- what an opening that was answered with n leaves of a number z that it was given: a refused one (n is not 0) is all zero
abbrev pub granted : ℕ → Float → Float
granted zero z = z
granted (suc n) z = nought

-- ---- the demand, of the map m that the operations os have left of the opening with c and r
pub record Demand (c r : Float) (os : List Op) (m : Map) : Type 0 where
  -- the cell size is the opening's
  pub size : m.size ≡ granted (refuse_open [] c r) c
  -- the radius is the one last accepted: a radius change's, or the opening's
  pub radius : m.layer.radius ≡ last_radius (accepted os (opened c r)) (granted (refuse_open [] c r) r)
  -- a cell is occupied exactly when the last accepted entry that names it says so
  pub cells : (k : ℕ) → has k m.cells ≡ last_word (history (accepted os (opened c r))) k false
  -- corners, points, statuses and pairs are what these cells and the present radius give; both ends name the same blocker; blockers are occupied
  pub good : Good (shift_of m.size m.layer.radius) m.cells m.layer
  -- in the yard class (of f64 values) a point is blocked exactly when an occupied cell lies within the reach on both axes
  pub yard : T (fits binary64 m.size) → T (fits binary64 m.layer.radius) → in_yard m.size m.layer.radius ≡ true → (k : ℕ) (p : Point) → get k m.layer.points ≡ some p
      → Exact (shift_of m.size m.layer.radius) m.cells k p.block
  -- the limits hold
  pub room : (length m.cells ≤ max_cells) × (length m.layer.points ≤ max_points)
  -- a refused operation changes nothing
  pub refused : (o : Op) → refusal o m ≢ 0 → step o m ≡ m
