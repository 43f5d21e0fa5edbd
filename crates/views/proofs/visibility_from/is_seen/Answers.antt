use mathlib.Core.Bool.{true≢false}
use mathlib.Core.Path.{sym, ◌∙◌}
use borrow.Author.Tests.{ne_eqb}
use Rattle.model.specs.Corner.{sees}
use Rattle.model.specs.Map.{tests}
use Rattle.looks.proofs.NamedLaws.{sweep_named}
use Rattle.views.proofs.SeenLaws.{seen_swept}
use Rattle.views.proofs.visibility_from.is_seen.Goals as goal
use Rattle.views.proofs.visibility_from.is_seen.Goals.{else-blocker-eq0, then-blocker-eq0}

pub returns-then-sees : goal.returns-then-sees
returns-then-sees c =
    let a = c.args in
    let m = a.ground in
    λ b o u i e f n. elim c.if-blocker-eq0.branch [
      | then-blocker-eq0 w ↦
          seen_swept o a.blocker n f w.if-blocker-eq0.true (sees a.k a.p b) ((tests m.size m.radius).sweep m.cells.now a.k a.p).cell c.sweep_between.result
          (sym (w.sees.ensures b e) ∙ sym w.value-is ∙ c.if-sees.true) (sweep_named m.size m.radius m.cells.now a.k a.p i) (c.sweep_between.ensures u i)
      | else-blocker-eq0 w ↦ absurd (true≢false (sym c.if-sees.true ∙ w.value-is ∙ ne_eqb a.blocker 0 w.if-blocker-eq0.false))
    ]
