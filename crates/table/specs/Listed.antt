-- A list of cells with a number each, written to the front of two lent tables. Definitions only.
use Rattle.std.specs.Prelude.{ℕ, ◌≡◌, List, [], ◌∷◌, ◌++◌, length, drop}
use Rattle.model.specs.Maps.{keys}

abbrev pub values : List (ℕ × ℕ) → List ℕ
values [] = []
values (e ∷ l) = e.1 ∷ values l

-- the tables a and b became a' and b', and r says how many there are; what follows is untouched
pub record Listed (l : List (ℕ × ℕ)) (a a' b b' : List ℕ) (r : ℕ) : Type 0 where
  pub count : r ≡ length l
  pub cells : a' ≡ keys l ++ drop (length l) a
  pub numbers : b' ≡ values l ++ drop (length l) b

-- nothing was written
pub record Unlisted (a a' b b' : List ℕ) (r : ℕ) : Type 0 where
  pub count : r ≡ 0
  pub cells : a' ≡ a
  pub numbers : b' ≡ b
