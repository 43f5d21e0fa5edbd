use mathlib.Core.Path.{refl, ◌∙◌}
use mathlib.Core.List.{[]}
use Rattle.limits.proofs.WordLaws.{due_added, none_added}
use Rattle.visibility.proofs.RefuseLaws.{radius_judged}
use Rattle.visibility.proofs.radius.judge.Goals as goal

-- `radius::judge`: what is due is added to the word from the last to the first. Assumes nothing.
pub returns : goal.returns
returns c =
    let a = c.args in
    radius_judged a.short a.map a.radius c.first.ensures
    (due_added 9 0 _ _ c.and-5.ensures refl refl
    (due_added 1 0 _ _ c.and-4.ensures refl c.bad_size.ensures
    (due_added 2 0 _ _ c.and-3.ensures refl c.bad_radii.ensures
    (due_added 6 0 _ _ c.and-2.ensures refl refl
    (due_added 7 0 _ [] c.and.ensures refl refl (c.none.ensures ∙ none_added 0))))))
