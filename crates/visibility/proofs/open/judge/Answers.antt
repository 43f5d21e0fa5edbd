use mathlib.Core.Path.{refl, ◌∙◌}
use mathlib.Core.List.{[]}
use Rattle.limits.proofs.WordLaws.{due_added, judged, none_added}
use Rattle.visibility.proofs.open.judge.Goals as goal

-- `open::judge`: what is due is added to the word from the last to the first. Assumes nothing.
pub returns : goal.returns
returns c =
    judged _ c.first.ensures
    (due_added 9 0 _ _ c.and-3.ensures refl refl
    (due_added 1 0 _ _ c.and-2.ensures refl c.bad_size.ensures
    (due_added 2 0 _ [] c.and.ensures refl c.bad_radius.ensures (c.none.ensures ∙ none_added 0))))
