-- Between functions: what one confirmed cell adds to the corner changes of a batch: the contracts of the steps of `corner_changes` cite it. Definitions only.
use Rattle.std.specs.Prelude.{ℕ, ◌+◌, ◌≡◌, cond, ◌||◌, List, [], ◌∷◌, ◌++◌, length, take, drop, get_or}
use Rattle.model.specs.Cell.{around}
use Rattle.model.specs.Corner.{Bits, same_bits, status_of}
use Rattle.model.specs.Maps.{AscL, has, keys}
use Rattle.table.specs.Listed.{values}
use Rattle.table.specs.Tables.{All}
use Rattle.corner.specs.Changes.{Inner, Toggled}

-- what the contract of `corner_changes` supposes: cells C before and C' after, K toggled
pub record Given (C K C' : List ℕ) : Type 0 where
  pub toggled : Toggled C K C'
  pub cells : AscL 0 C
  pub confirmed : AscL 0 K
  pub inner : All Inner K

-- the cells met around the cells K (the model's `met`, of the keys alone)
unfoldable pub around_all : List ℕ → List ℕ
around_all [] = []
around_all (k ∷ K) = around k ++ around_all K

-- k with its new status if that is another, unless it was met
unfoldable pub fresh_one : List ℕ → List ℕ → List ℕ → ℕ → List (ℕ × Bits)
fresh_one C C' met k = cond (has k met || same_bits (status_of C k) (status_of C' k)) [] ((k, status_of C' k) ∷ [])

unfoldable pub fresh : List ℕ → List ℕ → List ℕ → List ℕ → List (ℕ × Bits)
fresh C C' met [] = []
fresh C C' met (k ∷ l) = fresh_one C C' met k ++ fresh C C' met l

-- what the i-th of the cells K adds
abbrev pub fresh_at : List ℕ → List ℕ → List ℕ → ℕ → List (ℕ × Bits)
fresh_at C C' K i = fresh C C' (around_all (take i K)) (around (get_or K i 0))

-- the tables a and b, filled up to n, became a' and b', filled up to r: l is added, and what follows is untouched
pub record Added (l : List (ℕ × ℕ)) (a a' b b' : List ℕ) (n r : ℕ) : Type 0 where
  pub count : r ≡ n + length l
  pub cells : a' ≡ take n a ++ (keys l ++ drop (n + length l) a)
  pub numbers : b' ≡ take n b ++ (values l ++ drop (n + length l) b)
