-- The cells around a cell that may be asked about are keys too; those to which the sweep is free. Assumes nothing.
use Prim.Native.Nat.{ℕ, ◌+◌, ◌*◌, ◌≤◌, ◌<◌}
use native.Mathlib.Omega.{arith}
use mathlib.Core.Path.{◌≡◌, sym}
use mathlib.Core.Bool.{Bool, false, ◌||◌}
use mathlib.Core.List.{List}
use lib.Ieee.{Float}
use lib.IntN.{ℤ, pos, negsuc, nat_abs}
use lib.Dec.{eqb}
use lib.ListN.{get_or}
use borrow.Author.Tests.{ltb-false}
use Rattle.answers.specs.Asking.{Front}
use Rattle.ieee.specs.Whole.{biased}
use Rattle.model.proofs.KeyLaws.{Asked}
use Rattle.model.proofs.DueLaws.{or_parts}
use Rattle.model.specs.Answers.{free}
use Rattle.model.specs.Cell.{W, eight, key, origin}
use Rattle.model.specs.Good.{Inside}
use Rattle.model.specs.Limits.{beyond, max_coordinate}
use Rattle.model.specs.Map.{tests}
use Rattle.model.specs.Maps.{AscL}
use Rattle.model.specs.Refusal.{off_map}
use Rattle.held.specs.Codes.{block_code}
use Rattle.looks.proofs.NamedLaws.{sweep_named}
use Rattle.table.specs.Tables.{All}
use Rattle.views.specs.Kept.{Surrounded, steps}
use Rattle.answers.specs.Walks.{picked}
use Rattle.answers.proofs.KeepLaws.{Says, picked_list}
use Rattle.views.proofs.FreeLaws.{found_is}

-- ---- room around a cell
asked_biased : (z : ℤ) → nat_abs z ≤ Asked → (origin ≤ biased z + Asked) × (biased z ≤ origin + Asked)
asked_biased (pos n) h = (omega arith, omega arith)
asked_biased (negsuc n) h = (omega arith, omega arith)

pub key_between : (x y : ℤ) → off_map (max_coordinate + beyond) x || off_map (max_coordinate + beyond) y ≡ false → Surrounded (key x y)
unfolding key
key_between x y e =
    let p = or_parts (off_map Asked x) (off_map Asked y) e in
    go (biased x) (biased y) (asked_biased x (ltb-false Asked (nat_abs x) p.0)) (asked_biased y (ltb-false Asked (nat_abs y) p.1))
  where
    go : (u v : ℕ) → (origin ≤ u + Asked) × (u ≤ origin + Asked) → (origin ≤ v + Asked) × (v ≤ origin + Asked) → Surrounded (u * W + v)
    go u v a b = let a0 = a.0 in let a1 = a.1 in let b0 = b.0 in let b1 = b.1 in (omega arith, omega arith)

-- ---- those of the eight to which the sweep is free
-- what the contract supposes of the cells
abbrev pub Told : List ℕ → Type 0
Told C = AscL 0 C × All (Inside max_coordinate) C

module _ (size radius : Float) (C : List ℕ) (k : ℕ) where
  abbrev pub goes : ℕ → Bool
  goes q = free ((tests size radius).sweep C k q).cell

  -- by the number that the sweep found
  pub goes_is : Told C → (q r : ℕ) → (AscL 0 C → All (Inside max_coordinate) C → r ≡ block_code ((tests size radius).sweep C k q).cell) → eqb r 0 ≡ goes q
  goes_is t q r e = sym (found_is ((tests size radius).sweep C k q).cell r (sweep_named size radius C k q t.1) (e t.0 t.1))

  pub steps_listed : {Post : ℕ → Bool → Type 0} (out out' : List ℕ) (n : ℕ) → ((i : ℕ) (b : Bool) → i < 8 → Post i b → b ≡ goes (get_or (eight k) i 0))
      → ((p : ℕ → Bool) → Says Post (eight k) p → Front (picked p (eight k)) n out out') → Front (steps size radius C k) n out out'
  steps_listed out out' n f w = rw (picked_list goes (eight k)) at (w (λ i. goes (get_or (eight k) i 0)) f)
