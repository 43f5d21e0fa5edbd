use Prim.Native.Nat.{ℕ}
use mathlib.Core.Path.{◌≡◌}
use mathlib.Core.List.{[]}
use Rattle.answers.proofs.PassedLaws.{list_as, said}
use Rattle.answers.specs.CellLists.{Lent, due}
use Rattle.answers.proofs.CellLaws.{occupied_told, used}
use Rattle.answers.proofs.FoundLaws.{telling_done, telling_refused}
use Rattle.answers.proofs.cells.is_occupied.Goals as goal
use Rattle.answers.proofs.cells.is_occupied.Goals.{After-refuse}

-- n is what the tests say
number : (e : After-refuse) {n : ℕ} → n ≡ said e.is_short.result e.args.map e.none.result.word → n ≡ due e.args.map e.args.cells.now [] []
number e f = list_as _ _ _ e.args.map _ f e.is_short.ensures e.none.ensures

pub returns-in_err-refuse : goal.returns-in_err-refuse
returns-in_err-refuse c =
    let a = c.args in
    telling_refused _ (Lent a.map a.cells.now) a.cell.x a.cell.y c.from_residual.result _ c.from_residual.ensures.1 (number (goal.at.returns-in_err-refuse c).After-refuse c.in_err-refuse.ensures)

pub slice_bounds-is_occupied-end : goal.slice_bounds-is_occupied-end
slice_bounds-is_occupied-end c = used c.args.map c.args.cells.now [] [] (number (goal.at.slice_bounds-is_occupied-end c).After-refuse c.in_ok-refuse.ensures)

pub returns : goal.returns
returns c =
    let a = c.args in
    let r = c.is_occupied in
    telling_done _ (Lent a.map a.cells.now) a.cell.x a.cell.y r.result (number (goal.at.returns c).After-refuse c.in_ok-refuse.ensures) (occupied_told a.map a.cells.now a.cell.x a.cell.y r.result r.ensures)
