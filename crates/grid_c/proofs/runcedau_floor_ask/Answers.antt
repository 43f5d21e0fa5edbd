use native.Mathlib.Omega.{arith}
use mathlib.Core.Path.{◌≡◌, sym, ap, subst, ◌∙◌}
use Rattle.std.specs.Prelude as std
use lib.ListN.{length}
use lib.Seq.{length-take-le}
use Rattle.question.specs.Ask.{refuse_ask, refuse_floor}
use Rattle.question.specs.declared.search.Question as code
use Rattle.question.specs.Question.{asked}
use Rattle.question.proofs.AskLaws.{ask_fits}
use Rattle.grid_c.specs.Told.{Tells}
use Rattle.grid_c.proofs.ToldLaws.{told_found}
use Rattle.grid_c.proofs.runcedau_floor_ask.Goals as goal

-- An accepted question: the count fits the table, and the key is what `search` found. Assumes nothing.
pub slice_bounds-search-end : goal.slice_bounds-search-end
slice_bounds-search-end c =
    let a = c.args in
    let due : refuse_floor (length a.cells.now) a.size a.count c.bad_question.result ≡ 0 = sym c.judge-2.ensures ∙ sym c.number_of-number.ensures ∙ c.if-number-ne0.false in
    let f = ask_fits (length a.cells.now) a.size a.count c.bad_question.result due in
    sym (length-take-le a.count a.cells.now (omega arith))

pub returns : goal.returns
returns c =
    let a = c.args in
    let q = asked c.in-Some.question in
    let number : c.number_of-number.result ≡ refuse_ask (length a.cells.now) a.size a.count q = c.number_of-number.ensures ∙ c.judge-2.ensures ∙ ap (refuse_floor (length a.cells.now) a.size a.count) c.bad_question.ensures in
    let told = told_found a.cells.now a.size a.count q c.search.result (sym c.if-number-ne0.false ∙ number) c.search.ensures in
    subst (λ (n : std.Option code.Question). Tells a.cells.now a.size a.count n c.search.result.key) c.in-Some.ensures told
