use mathlib.Core.Path.{ap, ◌∙◌}
use lib.Ieee.{of_bits, odd}
use mir.Syntax.{w64}
use mir.Val.{SFits}
use mir.ValLaws.{to_z-of_z}
use borrow.Author.Rules.{rules}
use Rattle.ieee.specs.Yard.{shift_f}
use Rattle.model.specs.Map.{natural, shift_of}
use Rattle.limits.proofs.RadiusLaws.{natural_is}
use Rattle.limits.proofs.radius.shift_of.Goals as goal

-- `radius::shift_of`: the ceiling, or 0 below it. Assumes nothing.
pub returns : goal.returns
unfolding of_bits odd shift_f shift_of
returns c =
    let z = c.ceil_to_i64.result in
    let h : SFits w64 z = search rules in
    let m : SFits w64 c.max.result = search rules in
    rw (to_z-of_z w64 c.max.result m, c.max.ensures.value, to_z-of_z w64 z h) (natural_is z ∙ ap natural c.ceil_to_i64.ensures)
