use mathlib.Core.Path.{refl, ◌∙◌}
use mathlib.Core.List.{[]}
use Rattle.limits.proofs.WordLaws.{due_added, judged, none_added}
use Rattle.visibility.proofs.change.judge_room.Goals as goal

-- `change::judge_room`: 6, then 7. Assumes nothing.
pub returns : goal.returns
returns c =
    judged _ c.first.ensures (due_added 6 0 _ _ c.and-2.ensures refl refl (due_added 7 0 _ [] c.and.ensures refl refl (c.none.ensures ∙ none_added 0)))
