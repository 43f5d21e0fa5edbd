-- One answer of a map: whether a cell is occupied (RULES 2.4). Definitions only.
use Rattle.std.specs.Prelude.{ℕ, suc, ◌≡◌, false, ℤ}
use Rattle.model.specs.Answers.{is_occupied}
use Rattle.model.specs.Map as model
use Rattle.answers.specs.declared.cells.Told.{Told}

-- the cell (x, y), where the refusal n is due or none
pub record Telling (n : ℕ) (Hold : model.Map → Type 0) (x y : ℤ) (r : Told) : Type 0 where
  pub refusal : r.refusal ≡ n
  pub refused : (k : ℕ) → n ≡ suc k → r ≡ record { refusal = suc k; yes = false }
  pub answer : (M : model.Map) → Hold M → n ≡ 0 → r.yes ≡ is_occupied M x y
