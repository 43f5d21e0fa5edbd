-- Which entries of an ascending batch alter a cell, looked up in the cells as they were: no entry sees what another one did. Assumes nothing.
use Prim.Native.Nat.{ℕ, suc, ◌+◌, ◌<◌, zero-le}
use native.Mathlib.Omega.{arith}
use mathlib.Core.Path.{◌≡◌, refl, ap, ◌∙◌}
use mathlib.Core.Logic.{◌≢◌}
use mathlib.Core.Bool.{Bool, true, false, not, cond, ◌&&◌, beq}
use mathlib.Core.List.{List, [], ◌∷◌}
use lib.ListN.{length}
use Rattle.model.specs.Batch.{Batch, write, cells_after, confirmed}
use Rattle.model.specs.Maps.{Asc, AscL, has, sift}
use Rattle.model.proofs.BatchLaws.{write_other}
use Rattle.model.proofs.OrderLaws.{asc_l_add, asc_l_cut}
use Rattle.table.proofs.LookLaws.{absent_length, has_absent, has_there, there_length}
use Rattle.limits.specs.Batches.{alters}

-- an entry that fills its cell, and one that frees it
abbrev pub fills : Bool → Bool → Bool
fills t v = alters t v && v

abbrev pub frees : Bool → Bool → Bool
frees t v = alters t v && not v

-- the entries that pass a test of whether the cell is occupied, and of what the entry says
abbrev pub picked : (Bool → Bool → Bool) → List ℕ → Batch → Batch
picked f C b = sift (λ (e : ℕ × Bool). f (has e.0 C) e.1) b

-- what was written before the first of them does not matter
picked_later : (f : Bool → Bool → Bool) (lo k : ℕ) (v : Bool) (C : List ℕ) (b : Batch) → Asc lo b → k < lo → picked f (write k v C) b ≡ picked f C b
unfolding sift
picked_later f lo k v C [] a h = refl
picked_later f lo k v C (e ∷ b) a h =
    let n : e.0 ≢ k = omega arith in
    let l : k < suc e.0 = omega arith in
    rw (write_other e.0 k v C n, picked_later f (suc e.0) k v C b a.1 l)

swapped : {A : Type 0} (b : Bool) (x y : A) → cond b x y ≡ cond (not b) y x
swapped true x y = refl
swapped false x y = refl

pub confirmed_picked : (lo : ℕ) (b : Batch) (C : List ℕ) → Asc lo b → confirmed b C ≡ picked alters C b
unfolding confirmed sift
confirmed_picked lo [] C a = refl
confirmed_picked lo (e ∷ b) C a =
    let D : List ℕ = write e.0 e.1 C in
    let s : Bool = beq (has e.0 C) e.1 in
    let r : confirmed b D ≡ picked alters C b = confirmed_picked (suc e.0) b D a.1 ∙ picked_later alters (suc e.0) e.0 e.1 C b a.1 (omega arith) in
    ap (λ (m : Batch). cond s m (e ∷ m)) r ∙ swapped s (picked alters C b) (e ∷ picked alters C b)

-- ---- how many cells there are afterwards
write_length : (k : ℕ) (v : Bool) (C : List ℕ) → AscL 0 C → length (write k v C) + cond (frees (has k C) v) 1 0 ≡ length C + cond (fills (has k C) v) 1 0
write_length k v C a = go v (has k C) refl
  where
    go : (v t : Bool) → has k C ≡ t → length (write k v C) + cond (frees t v) 1 0 ≡ length C + cond (fills t v) 1 0
    go true true e = ap (λ (l : List ℕ). length l + 0) (has_there k C a e).put
    go true false e = let n = absent_length k C (has_absent k C a e) in omega arith
    go false true e = let n = there_length k C (has_there k C a e) in omega arith
    go false false e = ap (λ (l : List ℕ). length l + 0) (has_absent k C a e).took

write_ascends : (k : ℕ) (v : Bool) (C : List ℕ) → AscL 0 C → AscL 0 (write k v C)
write_ascends k true C a = asc_l_add 0 k C zero-le a
write_ascends k false C a = asc_l_cut 0 k C a

pub one_more : {A : Type 0} (b : Bool) (x : A) (l : List A) → length (cond b (x ∷ l) l) ≡ length l + cond b 1 0
one_more true x l = omega arith
one_more false x l = omega arith

pub cells_count : (lo : ℕ) (b : Batch) (C : List ℕ) → Asc lo b → AscL 0 C → length (cells_after b C) + length (picked frees C b) ≡ length C + length (picked fills C b)
unfolding cells_after sift
cells_count lo [] C a h = refl
cells_count lo (e ∷ b) C a h =
    let k : ℕ = e.0 in
    let v : Bool = e.1 in
    let D : List ℕ = write k v C in
    let l : k < suc k = omega arith in
    let ih : length (cells_after b D) + length (picked frees C b) ≡ length D + length (picked fills C b) =
    rw (picked_later frees (suc k) k v C b a.1 l, picked_later fills (suc k) k v C b a.1 l) at (cells_count (suc k) b D a.1 (write_ascends k v C h)) in
    let w = write_length k v C h in
    let p = one_more (frees (has k C) v) e (picked frees C b) in
    let q = one_more (fills (has k C) v) e (picked fills C b) in
    omega arith
