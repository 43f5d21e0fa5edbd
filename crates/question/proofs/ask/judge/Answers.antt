use mathlib.Core.Path.{refl, ◌∙◌}
use mathlib.Core.List.{[]}
use Rattle.limits.proofs.WordLaws.{due_added, none_added}
use Rattle.model.specs.Limits.{max_cells}
use Rattle.question.proofs.AskLaws.{ask_judged, short_one}
use Rattle.question.proofs.ask.judge.Goals as goal

-- `ask::judge`: what is due is added to the word from the last to the first. Assumes nothing.
pub returns : goal.returns
returns c =
    let a = c.args in
    ask_judged a.room a.size a.cells a.bad c.first.ensures
    (due_added 9 0 _ _ c.and-4.ensures refl (short_one a.room max_cells)
    (due_added 1 0 _ _ c.and-3.ensures refl c.bad_size.ensures
    (due_added 6 0 _ _ c.and-2.ensures refl refl
    (due_added 8 0 _ [] c.and.ensures refl refl (c.none.ensures ∙ none_added 0)))))
