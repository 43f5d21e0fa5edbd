use native.Mathlib.Omega.{arith}
use mathlib.Core.Path.{sym, ap, ◌∙◌}
use lib.ListN.{length}
use lib.Seq.{length-take-le}
use Rattle.question.specs.Ask.{refuse_floor}
use Rattle.question.proofs.AskLaws.{ask_answered, ask_fits}
use Rattle.question.proofs.ask.ask.Goals as goal

pub slice_bounds-search-end : goal.slice_bounds-search-end
slice_bounds-search-end c =
    let a = c.args in
    let f = ask_fits (length a.cells.now) a.floor.size a.floor.cells c.bad_question.result (sym c.in_ok-judge.ensures) in
    sym (length-take-le a.floor.cells a.cells.now (omega arith))

pub returns : goal.returns
returns c =
    let a = c.args in
    ask_answered a.floor a.cells.now a.question c.search-found.result c.place_of.result
    (c.in_ok-judge.ensures ∙ ap (refuse_floor (length a.cells.now) a.floor.size a.floor.cells) c.bad_question.ensures) c.place_of.ensures c.search-found.ensures
