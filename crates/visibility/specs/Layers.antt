-- Between functions: a layer as the lent tables hold it. Definitions only.
use Rattle.std.specs.Prelude.{ℕ, List, [], ◌∷◌}
use Rattle.marks.specs.Standing.{begun, standing}
use Rattle.model.specs.Corner.{number}
use Rattle.model.specs.Layer.{Mark, Points}
use Rattle.sight.specs.Blocked.{Stood}

-- statuses by the paper's numbers
abbrev pub numbers_of : Stood → List ℕ
numbers_of [] = []
numbers_of (e ∷ S) = number e.1.bits ∷ numbers_of S

-- the points afterwards, each with what the marks left of it
abbrev pub stood_of : List Mark → Points → Points → Stood
stood_of ms ps [] = []
stood_of ms ps (e ∷ l) = (e.0, standing 0 ms e.0 (begun ps e.0)) ∷ stood_of ms ps l
