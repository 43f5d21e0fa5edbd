use Prim.Native.Nat.{ℕ}
use Rattle.model.specs.Maps.{has}
use mathlib.Core.Path.{ap, ◌∙◌}
use Rattle.limits.proofs.cell.is_occupied.Goals as goal

-- `is_occupied` looks the key up. Assumes nothing.
pub returns : goal.returns
returns c =
    λ h. c.contains.ensures h ∙ ap (λ (k : ℕ). has k c.args.cells.now) c.key.ensures
