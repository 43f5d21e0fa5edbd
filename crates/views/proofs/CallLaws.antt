-- What both calls have in common: their refusal, by the lent lengths, the map and the cell (x, y), and what is known where there is none. Assumes nothing.
use Prim.Native.Nat.{ℕ, ◌≤◌}
use mathlib.Core.Path.{◌≡◌}
use mathlib.Core.List.{List}
use lib.IntN.{ℤ}
use Rattle.answers.proofs.PassedLaws.{passed, passed_cell}
use Rattle.model.specs.Cell.{key}
use Rattle.model.specs.Limits.{max_cells, max_points}
use Rattle.model.specs.Refusal.{short}
use Rattle.held.specs.declared.map.Map.{Map}
use Rattle.held.proofs.RoomLaws.{Enough, long_enough}
use Rattle.views.specs.Kept.{Surrounded}
use Rattle.views.specs.Seen.{refusal}
use Rattle.views.proofs.AroundLaws.{key_between}

module _ (m : Map) (lent : List (ℕ × ℕ)) (x y : ℤ) where
  module _ (pass : refusal m lent x y ≡ 0) where
    pub rooms : Enough lent
    rooms = long_enough lent (passed (short lent) m _ pass).0

    pub few_cells : m.cells ≤ max_cells
    few_cells = (passed (short lent) m _ pass).1

    pub few_points : m.points ≤ max_points
    few_points = (passed (short lent) m _ pass).2

    pub key_inner : Surrounded (key x y)
    key_inner = key_between x y (passed_cell (short lent) m _ pass)
