-- Between functions: what the functions that draw a layer promise, of what they are handed as a struct. Definitions only.
use Rattle.std.specs.Prelude.{ℕ, ◌≤◌, ◌≡◌, List, length}
use Rattle.std.proofs.Math.Option.{Option}
use Rattle.held.specs.Holds.{Tables}
use Rattle.held.specs.Pairs.{Pairs, PairsBy, PairsNamed}
use Rattle.model.specs.Batch.{Batch}
use Rattle.model.specs.Cell as cell
use Rattle.model.specs.Map.{shift_of, tests}
use Rattle.sight.specs.Blocked.{Seeing, Stood}
use Rattle.sight.specs.Paired.{Filled, pair_at}
use Rattle.visibility.specs.Redraw.{Afresh, Drawing, Drawn, InRows, Redraws, ReplacesPairs}
use Rattle.visibility.specs.declared.layer.Basis.{Basis}

-- the three tables of the points
abbrev pub DrawsPoints : Basis → ℕ → List ℕ → List ℕ → List ℕ → List ℕ → List ℕ → List ℕ → Type 0
DrawsPoints b count points points' statuses statuses' blockers blockers' =
    (ch : Batch) (S : Stood) (B : List (Option ℕ)) → b.reach ≡ cell.reach (shift_of b.ground.size b.ground.radius)
    → Drawing b.ground.cells.now ch S B b.changes.cells.now b.changes.full.now b.points.points.now b.points.words.now points statuses blockers count
    → Drawn (tests b.ground.size b.ground.radius) b.ground.cells.now ch S B points points' statuses statuses' blockers blockers'

-- the pairs, from the pairs P of the table `old`, over those in the first rows of `pairs`
abbrev pub DrawsPairs : Basis → ℕ → List ℕ → List ℕ → List ℕ → Type 0
DrawsPairs b rows old pairs pairs' =
    (ch : Batch) (S : Stood) (P Q : PairsBy) → Seeing b.ground.cells.now ch S b.changes.cells.now b.changes.full.now b.points.points.now b.points.words.now
    → length S ≤ rows → Pairs P old → PairsNamed P → InRows rows Q pairs → Filled (pair_at (tests b.ground.size b.ground.radius) b.ground.cells.now ch P S) pairs pairs'

abbrev pub Replaces : Basis → ℕ → List ℕ → List ℕ → Type 0
Replaces b = ReplacesPairs b.ground.size b.ground.radius b.ground.cells.now b.changes.cells.now b.changes.full.now b.points.points.now b.points.words.now

-- all four
abbrev pub RedrawsAll : Basis → ℕ → Tables → Tables → Type 0
RedrawsAll b = Redraws b.ground.size b.ground.radius b.reach b.ground.cells.now b.changes.cells.now b.changes.full.now b.points.points.now b.points.words.now

abbrev pub DrawsAfresh : Basis → ℕ → Tables → Tables → Type 0
DrawsAfresh b = Afresh b.ground.size b.ground.radius b.reach b.ground.cells.now b.changes.cells.now b.changes.full.now b.points.points.now b.points.words.now
