use mathlib.Core.Path.{sym, ◌∙◌}
use mathlib.Core.Bool.{false≢true}
use lib.Ieee.{of_bits, odd}
use mir.Syntax.{w64}
use mir.Val.{SFits}
use mir.ValLaws.{to_z-of_z}
use borrow.Author.Rules.{rules}
use Rattle.ieee.specs.Whole.{ceil_z}
use Rattle.ieee.specs.Yard.{shift_f}
use Rattle.limits.proofs.RadiusLaws.{over, radius_endless, radius_far, radius_low}
use Rattle.limits.proofs.radius.bad_radius.Goals as goal
use Rattle.limits.proofs.radius.bad_radius.Goals.{then-radius, else-radius}

-- `radius::bad_radius`: the tests are the model's. Assumes nothing.
pub returns-then-not-radius : goal.returns-then-not-radius
unfolding of_bits odd
returns-then-not-radius c =
    let a = c.args in
    let e = c.if-not-radius.true in
    elim c.if-radius.branch [ then-radius w ↦ rw e (sym (radius_endless a.size a.radius (sym w.value-is ∙ e))) | else-radius w ↦ rw e (sym (radius_low a.size a.radius w.if-radius.false)) ]

pub returns-else-not-radius : goal.returns-else-not-radius
unfolding of_bits odd shift_f
returns-else-not-radius c =
    let a = c.args in
    let e = c.if-not-radius.false in
    let z = c.ceil_to_i64.result in
    let h : SFits w64 z = search rules in
    elim c.if-radius.branch [
      | then-radius w ↦ rw (to_z-of_z w64 z h, c.ceil_to_i64.ensures) (sym (radius_far a.size a.radius w.if-radius.true (sym w.value-is ∙ e) ∙ over 64 (ceil_z (shift_f a.size a.radius))))
      | else-radius w ↦ absurd (false≢true (sym (w.value-is ∙ w.if-radius.false) ∙ e))
    ]
