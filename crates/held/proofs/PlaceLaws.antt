-- Keys and their places in an ascending list. Assumes nothing.
use Prim.Native.Nat.{ℕ, suc, ◌-◌, ◌<◌}
use native.Mathlib.Omega.{arith}
use mathlib.Core.Path.{◌≡◌, refl, sym}
use mathlib.Core.Bool.{Bool, true, false, ◌&&◌}
use mathlib.Core.List.{List}
use lib.Dec.{eqb, ltb}
use lib.ListN.{get_or, length}
use borrow.Author.Tests.{eqb-true, ne_eqb}
use Rattle.model.specs.Maps.{AscL, has}
use Rattle.table.specs.Tables.{rank}
use Rattle.table.proofs.LookLaws.{has_there, stands_inside}

-- a place as one more than it, so that 0 is none
pub place_some : (n : ℕ) → eqb (suc n) 0 ≡ false
place_some n = ne_eqb (suc n) 0 (λ e. omega arith)

pub place_back : (n : ℕ) → suc n - 1 ≡ n
place_back n = omega arith

-- a member's place is in the list, and the member is there
module _ (k : ℕ) (l : List ℕ) (a : AscL 0 l) (h : has k l ≡ true) where
  pub rank_inside : rank k l < length l
  rank_inside = stands_inside k (rank k l) l (has_there k l a h).stood

  pub rank_at : get_or l (rank k l) 0 ≡ k
  rank_at = sym (eqb-true k (get_or l (rank k l) 0) (second (ltb (rank k l) (length l)) (eqb k (get_or l (rank k l) 0)) (has_there k l a h).stood))
    where
      second : (b c : Bool) → b && c ≡ true → c ≡ true
      second true c e = e
      second false true e = refl
      second false false e = e
