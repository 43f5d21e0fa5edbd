-- Between functions: what the trees of a forest mean, over the places of cells from the last down: places are of one tree exactly if their cells are linked. Definitions only.
use Rattle.std.specs.Prelude.{ℕ, suc, ◌+◌, ◌≤◌, ◌<◌, ◌≡◌, List, T, get_or, length}
use Rattle.model.specs.Blocks.{Linked, adjacent}
use Rattle.model.specs.Maps.{AscL, has}
use Rattle.blocks.specs.Forest.{Down, Root}

-- the places from i on are planted, and from m on cells that share a side are of one tree; `joined` is how many trees are less than places
pub record Grown (C p : List ℕ) (i m joined : ℕ) : Type 0 where
  pub roots : List ℕ
  pub asc : AscL i roots
  pub count : i + joined + length roots ≡ length C
  pub inside : (r : ℕ) → T (has r roots) → r < length C
  pub fixed : (r : ℕ) → T (has r roots) → Root p r r
  pub whole : (j r : ℕ) → i ≤ j → j < length C → Root p j r → T (has r roots)
  pub linked : (j r : ℕ) → i ≤ j → j < length C → Root p j r → Linked C (get_or C j 0) (get_or C r 0)
  pub touching : (j l r : ℕ) → m ≤ j → j < l → l < length C → T (adjacent (get_or C j 0) (get_or C l 0)) → Root p j r → Root p l r

-- the tree of the cell `key`, if it comes after place i and touches the cell there, was joined to that of i: n is how many trees there are less
pub record Met (C : List ℕ) (i key n : ℕ) (p p' : List ℕ) : Type 0 where
  pub down : Down p'
  pub fixed : get_or p' i 0 ≡ i
  pub few : n ≤ 1
  pub kept : (l : ℕ) → Root p l i → Root p' l i
  pub grown : (m joined : ℕ) → Grown C p i m joined → Grown C p' i m (joined + n)
  pub there : (m joined : ℕ) → Grown C p i m joined → AscL 0 C → (l : ℕ) → i < l → l < length C → get_or C l 0 ≡ key → T (adjacent (get_or C i 0) key) → Root p' l i

-- place i was planted: n is how many trees there are less than before, and one for i
pub record Planted (C : List ℕ) (i n : ℕ) (p p' : List ℕ) : Type 0 where
  pub down : Down p'
  pub few : n ≤ 2
  pub grown : AscL 0 C → (joined : ℕ) → Grown C p (suc i) (suc i) joined → Grown C p' i i (joined + n)
