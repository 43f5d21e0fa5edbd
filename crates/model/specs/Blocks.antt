-- Blocks: a block is a largest set of occupied cells joined through shared sides (RULES 1.2). What that means, and the list of the blocks. Definitions only.
use Rattle.std.specs.Prelude.{ℕ, ◌+◌, ◌<◌, ◌≢◌, Bool, false, not, ◌||◌, List, [], ◌∷◌, ◌++◌, T, eqb, length, get_or}
use Rattle.model.specs.Maps.{has, sift}
use Rattle.model.specs.Cell.{col, row, apart}

-- two cells that share a side
unfoldable pub adjacent : ℕ → ℕ → Bool
adjacent a b = eqb (apart (col a) (col b) + apart (row a) (row b)) 1

-- ---- what a block is
-- from a to b over occupied cells, each sharing a side with the next
pub data Linked (C : List ℕ) (a : ℕ) : ℕ → Type 0 where
  here : T (has a C) → Linked C a a
  on : {b c : ℕ} → Linked C a b → T (adjacent b c) → T (has c C) → Linked C a c

-- bs are the blocks of C: each has a cell, each cell of C lies in one, two cells lie in the same exactly when they are linked
pub record Blocks (C : List ℕ) (bs : List (List ℕ)) : Type 0 where
  pub filled : (i : ℕ) → i < length bs → (k : ℕ) × T (has k (get_or bs i []))
  pub covered : (k : ℕ) → T (has k C) → (i : ℕ) × (i < length bs) × T (has k (get_or bs i []))
  pub linked : (i : ℕ) → i < length bs → (j k : ℕ) → T (has j (get_or bs i [])) → T (has k (get_or bs i [])) → Linked C j k
  pub apart : (i j : ℕ) → i < length bs → j < length bs → i ≢ j → (k l : ℕ) → T (has k (get_or bs i [])) → T (has l (get_or bs j [])) → Linked C k l → ⊥

-- ---- the list of the blocks, cell by cell: a cell joins the blocks that it touches
unfoldable pub touches : ℕ → List ℕ → Bool
touches k [] = false
touches k (j ∷ b) = adjacent k j || touches k b

unfoldable pub union : List (List ℕ) → List ℕ
union [] = []
union (b ∷ bs) = b ++ union bs

unfoldable pub join_cell : ℕ → List (List ℕ) → List (List ℕ)
join_cell k bs = (k ∷ union (sift (touches k) bs)) ∷ sift (λ b. not (touches k b)) bs

unfoldable pub blocks_of : List ℕ → List (List ℕ)
blocks_of [] = []
blocks_of (k ∷ C) = join_cell k (blocks_of C)

unfoldable pub block_count : List ℕ → ℕ
block_count C = length (blocks_of C)
