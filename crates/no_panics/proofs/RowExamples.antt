-- A point that stands alone has an empty row, and takes it along when it goes: computed. Assumes nothing.
use mathlib.Core.Path.{◌≡◌, refl}
use Prim.Native.Nat.{ℕ}
use mathlib.Core.Bool.{true, false}
use mathlib.Core.List.{List, [], ◌∷◌}
use mathlib.Core.Option.{none}
use Rattle.ieee.specs.Constants.{nought}
use Rattle.model.specs.Maps.{keys}
use Rattle.model.specs.Corner.{Bits, zero4}
use Rattle.model.specs.Layer.{Tests, Layer}
use Rattle.model.specs.Map.{empty_layer}
use Rattle.model.proofs.Examples.{everything}
use Rattle.no_panics.specs.EdgeRows.{row, marks_rows, phase3_rows, phase4_rows, update_rows}

-- nothing is in the way of anything
abbrev clear : Tests
clear = record { shift = 1; square = λ C k. record { cell = none }; sweep = λ C p q. record { cell = none }; near = λ k p q. false }

-- one corner of the cell (0, 0), and the point (-1, -1) that it gives
abbrev one : Bits
one = record { sw = true; se = false; nw = false; ne = false }

abbrev centre : ℕ
centre = 9223372039002259456

abbrev aside : ℕ
aside = 9223372034707292159

pub alone : keys (update_rows clear [] [] ((centre, one) ∷ []) (empty_layer nought) []) ≡ aside ∷ []
unfolding everything update_rows marks_rows phase3_rows phase4_rows row
alone = refl

-- the layer with that point
abbrev lone : Layer
lone = record { radius = nought; points = (aside, record { bits = one; block = none }) ∷ []; edges = [] }

pub gone : keys (update_rows clear [] [] ((centre, zero4) ∷ []) lone ((aside, []) ∷ [])) ≡ []
unfolding everything update_rows marks_rows phase3_rows phase4_rows row
gone = refl
