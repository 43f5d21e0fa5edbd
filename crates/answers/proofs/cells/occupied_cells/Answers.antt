use Prim.Native.Nat.{ℕ}
use mathlib.Core.Path.{◌≡◌, refl}
use mathlib.Core.List.{List, [], ◌∷◌}
use lib.ListN.{length}
use Rattle.answers.proofs.ListingLaws.{listing_done, listing_refused}
use Rattle.answers.proofs.PassedLaws.{accepted, list_as, said}
use Rattle.answers.specs.CellLists.{Lent, due}
use Rattle.model.specs.Limits.{need_cells}
use Rattle.answers.proofs.CellLaws.{cells_written, used}
use Rattle.answers.proofs.cells.occupied_cells.Goals as goal
use Rattle.answers.proofs.cells.occupied_cells.Goals.{After-refuse}

-- what is lent beside the cells, with its needs
abbrev rest : After-refuse → List (ℕ × ℕ)
rest e = (length e.args.out.now, need_cells) ∷ []

-- n is what the tests say
number : (e : After-refuse) {n : ℕ} → n ≡ said e.is_short-short.result e.args.map e.none.result.word → n ≡ due e.args.map e.args.cells.now (rest e) []
number e f = list_as _ _ _ e.args.map _ f e.is_short-short.ensures e.none.ensures

pub returns-in_err-refuse : goal.returns-in_err-refuse
returns-in_err-refuse c =
    listing_refused _ (Lent c.args.map c.args.cells.now) _ c.from_residual.result _ c.from_residual.ensures.1 (number (goal.at.returns-in_err-refuse c).After-refuse c.in_err-refuse.ensures) (refl, tt)

pub slice_bounds-list-end : goal.slice_bounds-list-end
slice_bounds-list-end c =
    let e = (goal.at.slice_bounds-list-end c).After-refuse in
    used c.args.map c.args.cells.now (rest e) [] (number e c.in_ok-refuse.ensures)

pub returns : goal.returns
returns c =
    let a = c.args in
    let e = (goal.at.returns c).After-refuse in
    let none = number e c.in_ok-refuse.ensures in
    listing_done _ (Lent a.map a.cells.now) _ a.map.cells none (cells_written a.map a.cells.now a.out.now c.list.new.out (accepted _ a.map [] 0 none refl).0.1.0 c.list.ensures)
