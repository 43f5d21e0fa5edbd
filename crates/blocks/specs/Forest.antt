-- Between functions: a forest over places, in which every place leads to a lesser one or to itself: union by search. Definitions only.
use Rattle.std.specs.Prelude.{ℕ, ◌≤◌, ◌<◌, ◌≡◌, ◌≢◌, true, false, cond, List, eqb, get_or, length}
use Rattle.table.specs.Tables.{stands}

-- no place leads upwards
abbrev pub Down : List ℕ → Type 0
Down p = (i : ℕ) → get_or p i 0 ≤ i

-- r is where the way from i ends
pub data Root (p : List ℕ) : ℕ → ℕ → Type 0 where
  here : {i : ℕ} → get_or p i 0 ≡ i → Root p i i
  up : {i r : ℕ} → get_or p i 0 ≢ i → Root p (get_or p i 0) r → Root p i r

-- shorter ways, to the same roots
pub record SameRoots (p p' : List ℕ) : Type 0 where
  pub long : length p' ≡ length p
  pub down : Down p'
  pub kept : (i r : ℕ) → Root p i r → Root p' i r

-- the tree of `at` was joined to that of the root `to`, unless its root comes before `to` or is `to`: n is how many trees there are less
pub record Joined (to at n : ℕ) (p p' : List ℕ) : Type 0 where
  pub long : length p' ≡ length p
  pub down : Down p'
  pub root : ℕ
  pub from : Root p at root
  pub same : root ≤ to → (n ≡ 0) × ((i r : ℕ) → Root p i r → Root p' i r)
  pub moved : to < root → (n ≡ 1) × ((i r : ℕ) → Root p i r → Root p' i (cond (eqb r root) to r))

-- the same, if `key` is at `at`
pub record Sought (C : List ℕ) (at key to n : ℕ) (p p' : List ℕ) : Type 0 where
  pub found : stands key at C ≡ true → Joined to at n p p'
  pub missed : stands key at C ≡ false → (n ≡ 0) × (p' ≡ p)
