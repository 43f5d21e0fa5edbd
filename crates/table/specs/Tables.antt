-- A table of keys as a list: where a key is, and the table after a key went in or out. Definitions only.
use Rattle.std.specs.Prelude.{ℕ, suc, ◌+◌, ◌-◌, ◌≤◌, ◌<◌, ◌≡◌, Bool, cond, ◌&&◌, List, [], ◌∷◌, ◌++◌, eqb, leb, ltb, length, take, drop, get_or, replicate}
use Rattle.model.specs.Maps.{AscL, add}

-- every entry has the property
abbrev pub All : (ℕ → Type 0) → List ℕ → Type 0
All P [] = Unit {0}
All P (x ∷ l) = P x × All P l

-- how many entries at the front are below k: where k is, or would be
unfoldable pub rank : ℕ → List ℕ → ℕ
rank k [] = 0
rank k (x ∷ l) = let r = suc (rank k l) in cond (ltb x k) r 0

-- k is the entry at a place
abbrev pub stands : ℕ → ℕ → List ℕ → Bool
stands k at l = ltb at (length l) && eqb k (get_or l at 0)

-- l, and zeros after it up to cap places
abbrev pub pad : ℕ → List ℕ → List ℕ
pad cap l = l ++ replicate (cap - length l) 0

-- t holds ascending keys in its first n places, and the unused rest is zero
pub record Table (t : List ℕ) (n : ℕ) : Type 0 where
  pub room : n ≤ length t
  pub asc : AscL 0 (take n t)
  pub rest : drop n t ≡ replicate (length t - n) 0

-- every entry one place up: the first is there twice, the last falls off
abbrev pub shift_up : List ℕ → List ℕ
shift_up [] = []
shift_up (x ∷ l) = x ∷ take (length l) (x ∷ l)

-- every entry one place down: the first is lost, and the last is zero
abbrev pub shift_down : List ℕ → List ℕ
shift_down [] = []
shift_down (x ∷ l) = l ++ (0 ∷ [])

-- k at a place, what was there and after it one place up; the last is lost
abbrev pub put_at : ℕ → ℕ → List ℕ → List ℕ
put_at at k l = take at l ++ k ∷ take (length l - (at + 1)) (drop at l)

-- k put in among the keys l, if they then fit into cap places
unfoldable pub added : ℕ → ℕ → List ℕ → List ℕ
added cap k l = let m = add k l in cond (leb (length m) cap) m l

-- what a change f of the keys makes of a table t with n keys: the table t' with r keys. Where n is beyond the table, nothing is altered
pub record Changed (f : List ℕ → List ℕ) (t : List ℕ) (n : ℕ) (t' : List ℕ) (r : ℕ) : Type 0 where
  pub table : Table t n → t' ≡ pad (length t) (f (take n t))
  pub count : Table t n → r ≡ length (f (take n t))
  pub beyond : length t < n → (t' ≡ t) × (r ≡ n)
