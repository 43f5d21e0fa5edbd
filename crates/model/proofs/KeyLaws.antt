-- Keys of cells: in bounds they tell cells apart, are ordered by x, then y, and lie inside the batch coordinates. Assumes nothing.
use Prim.Native.Nat.{ℕ, ◌+◌, ◌*◌, ◌≤◌, ◌<◌}
use native.Mathlib.Omega.{arith}
use mathlib.Core.Path.{◌≡◌, sym, ap, ◌∙◌}
use mathlib.Core.Logic.{◌⊎◌, inl, inr}
use mathlib.Core.Bool.{◌&&◌}
use lib.Dec.{T, ltb→lt, leb→le}
use lib.IntN.{ℤ, pos, negsuc, nat_abs}
use lib.Ieee.Fits.{and_l, and_r}
use lib.Signed.{le_z, lt_z, mag}
use Rattle.ieee.specs.Whole.{biased, unbias}
use Rattle.ieee.proofs.Bias.{biased_lt, biased_unbias, unbias_biased}
use Rattle.ieee.proofs.Tools.{or_cases}
use Rattle.model.specs.Limits.{max_coordinate, beyond}
use Rattle.model.specs.Cell.{W, origin, col, row, x_of, y_of, key}
use Rattle.model.specs.Good.{Inside}
use Rattle.model.specs.Map.{Entry}
use Rattle.model.specs.Refusal.{before}

-- a coordinate within the bounds of a batch
abbrev pub Near : ℤ → Type 0
Near z = nat_abs z ≤ max_coordinate

near_biased : (z : ℤ) → Near z → (origin ≤ biased z + max_coordinate) × (biased z ≤ origin + max_coordinate)
near_biased (pos n) h = (omega arith, omega arith)
near_biased (negsuc n) h = (omega arith, omega arith)

-- ---- a cell within the bounds of a batch has a key inside them
pub key_inside : (x y : ℤ) → Near x → Near y → Inside max_coordinate (key x y)
unfolding key
key_inside x y h k = go (biased x) (biased y) (near_biased x h) (near_biased y k)
  where
    go : (u v : ℕ) → (origin ≤ u + max_coordinate) × (u ≤ origin + max_coordinate) → (origin ≤ v + max_coordinate) × (v ≤ origin + max_coordinate)
        → Inside max_coordinate (u * W + v)
    go u v a b = let a0 = a.0 in let a1 = a.1 in let b0 = b.0 in let b1 = b.1 in (omega arith, omega arith, omega arith, omega arith)

-- ---- keys are ordered by x, then y
lt_biased : (x y : ℤ) → Near x → Near y → T (lt_z x y) → biased x < biased y
lt_biased (pos a) (pos b) h k t = let l : a < b = ltb→lt a b t in omega arith
lt_biased (pos a) (negsuc b) h k t = absurd t
lt_biased (negsuc a) (pos b) h k t = omega arith
lt_biased (negsuc a) (negsuc b) h k t = let l : b < a = ltb→lt b a t in omega arith

le_biased : (x y : ℤ) → Near x → Near y → T (le_z x y) → biased x ≤ biased y
le_biased (pos a) (pos b) h k t = let l : a ≤ b = leb→le a b t in omega arith
le_biased (pos a) (negsuc b) h k t = absurd t
le_biased (negsuc a) (pos b) h k t = omega arith
le_biased (negsuc a) (negsuc b) h k t = let l : b ≤ a = leb→le b a t in omega arith

-- an entry whose coordinates are in bounds
pub record Fair (e : Entry) : Type 0 where
  pub near_x : Near e.x
  pub near_y : Near e.y

pub key_lt : (a b : Entry) → Fair a → Fair b → T (before a b) → key a.x a.y < key b.x b.y
unfolding key
key_lt a b f g t = go (or_cases (lt_z a.x b.x) (le_z a.x b.x && lt_z a.y b.y) t)
  where
    first : (u v u' v' : ℕ) → v ≤ origin + max_coordinate → u < u' → u * W + v < u' * W + v'
    first u v u' v' h l = omega arith

    then : (u v u' v' : ℕ) → u ≤ u' → v < v' → u * W + v < u' * W + v'
    then u v u' v' h l = omega arith

    go : T (lt_z a.x b.x) ⊎ T (le_z a.x b.x && lt_z a.y b.y) → biased a.x * W + biased a.y < biased b.x * W + biased b.y
    go (inl u) = first (biased a.x) (biased a.y) (biased b.x) (biased b.y) (near_biased a.y f.near_y).1 (lt_biased a.x b.x f.near_x g.near_x u)
    go (inr u) =
        then (biased a.x) (biased a.y) (biased b.x) (biased b.y)
        (le_biased a.x b.x f.near_x g.near_x (and_l (le_z a.x b.x) (lt_z a.y b.y) u))
        (lt_biased a.y b.y f.near_y g.near_y (and_r (le_z a.x b.x) (lt_z a.y b.y) u))

-- ---- a key inside the bounds of a question, and no other, is that of its coordinates: whatever the integers x and y are
abbrev pub Asked : ℕ
Asked = max_coordinate + beyond

pub key_back : (k : ℕ) → Inside Asked k → key (x_of k) (y_of k) ≡ k
unfolding key
key_back k h = rw (biased_unbias (col k) (omega arith), biased_unbias (row k) (omega arith)) (omega arith)

small : (z : ℤ) (u : ℕ) → biased z ≡ u → origin ≤ u + Asked → u ≤ origin + Asked → mag z < 2147483647
small (pos n) u e h k = omega arith
small (negsuc n) u e h k = omega arith

pub key_tells : (x y : ℤ) (k : ℕ) → Inside Asked k → key x y ≡ k → (x_of k ≡ x) × (y_of k ≡ y)
unfolding key
key_tells x y k h e = (ap unbias (sym u) ∙ unbias_biased x (small x (col k) u h.0 h.1), ap unbias (sym v) ∙ unbias_biased y (small y (row k) v h.2 h.3))
  where
    parts : (a b : ℕ) → b < 4294967296 → a * W + b ≡ k → (a ≡ col k) × (b ≡ row k)
    parts a b l q = (omega arith, omega arith)

    u : biased x ≡ col k
    u = (parts (biased x) (biased y) (biased_lt y) e).0

    v : biased y ≡ row k
    v = (parts (biased x) (biased y) (biased_lt y) e).1
