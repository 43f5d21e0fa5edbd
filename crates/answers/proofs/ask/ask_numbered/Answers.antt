use Prim.Native.Nat.{ℕ}
use mathlib.Core.Path.{◌≡◌, sym}
use mathlib.Core.List.{[]}
use Rattle.answers.proofs.AskLaws.{due_told, numbered_done, numbered_due, numbered_refused, question_told, unknown_refused}
use Rattle.answers.proofs.CellLaws.{used}
use Rattle.answers.proofs.PassedLaws.{said}
use Rattle.answers.proofs.ask.ask_numbered.Goals as goal
use Rattle.answers.proofs.ask.ask_numbered.Goals.{After-refuse}

-- n is what the tests say
number : (e : After-refuse) {n : ℕ} → n ≡ said e.is_short.result e.args.map e.and-asked.result.word → let a = e.args in n ≡ numbered_due a.map a.cells.now a.question
number e f = due_told e.args.map e.args.cells.now e.args.question _ _ _ _ _ f e.is_short.ensures e.and-asked.ensures e.none.ensures e.bad_numbered.ensures

pub returns-in_err-refuse : goal.returns-in_err-refuse
returns-in_err-refuse c =
    let a = c.args in
    numbered_refused a.map a.cells.now a.question c.from_residual.result _ c.from_residual.ensures.1 (number (goal.at.returns-in_err-refuse c).After-refuse c.in_err-refuse.ensures)

pub unreachable-requires : goal.unreachable-requires
unreachable-requires c =
    let due = number (goal.at.unreachable-requires c).After-refuse c.in_ok-refuse.ensures in
    unknown_refused c.args.map c.args.cells.now (sym (rw c.in_default.is at due))

pub slice_bounds-search-end : goal.slice_bounds-search-end
slice_bounds-search-end c = used c.args.map c.args.cells.now [] _ (number (goal.at.slice_bounds-search-end c).After-refuse c.in_ok-refuse.ensures)

pub returns : goal.returns
returns c =
    let a = c.args in
    let q = c.in-Some.question in
    let f = c.search-found in
    numbered_done a.map a.cells.now a.question q c.place_of.result c.in-Some.is (number (goal.at.returns c).After-refuse c.in_ok-refuse.ensures)
    (question_told a.map a.cells.now q f.result c.place_of.result c.place_of.ensures f.ensures)
