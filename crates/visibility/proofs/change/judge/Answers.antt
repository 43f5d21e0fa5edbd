use Prim.Native.Nat.{ℕ}
use mathlib.Core.Path.{refl, ap, ◌∙◌}
use mathlib.Core.List.{[]}
use Rattle.limits.proofs.WordLaws.{both_added, due_added, none_added}
use Rattle.limits.specs.Words.{looked, word_on}
use Rattle.visibility.proofs.RefuseLaws.{batch_judged}
use Rattle.visibility.proofs.change.judge.Goals as goal

-- `change::judge`: what is due is added to the word from the last to the first. Assumes nothing.
pub returns : goal.returns
returns c =
    let a = c.args in
    let b = a.batch.now in
    batch_judged a.short a.map b _ c.first.ensures
    (due_added 9 0 _ _ c.and-3.ensures refl refl
    (due_added 1 0 _ _ c.and-2.ensures refl c.bad_size.ensures
    (due_added 2 0 _ _ c.and.ensures refl c.bad_radius.ensures
    (c.batch_due.ensures ∙ ap (λ (w : ℕ). word_on w (looked b)) (due_added 6 0 _ [] c.and-crowded.ensures refl refl (c.none.ensures ∙ none_added 0)) ∙ both_added 0 (looked b) _))))
