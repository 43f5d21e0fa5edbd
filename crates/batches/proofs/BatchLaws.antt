-- What a batch confirms, and the cells after it, as callers need them. Assumes nothing.
use Prim.Native.Nat.{ℕ, suc, ◌≤◌, zero-le}
use native.Mathlib.Decide.{ℕ_discrete}
use native.Mathlib.Omega.{arith}
use mathlib.Core.Path.{◌≡◌, refl, sym, ap, ◌∙◌, subst}
use mathlib.Core.Logic.{⊎_elim}
use mathlib.Core.Bool.{Bool, true, false, not, cond, beq, true≢false}
use mathlib.Core.List.{List, [], ◌∷◌}
use lib.Dec.{T}
use lib.ListN.{length}
use Rattle.model.specs.Batch.{Batch, cells_after, confirmed, write}
use Rattle.model.specs.Good.{Inside}
use Rattle.model.specs.Limits.{max_coordinate}
use Rattle.model.specs.Map.{Entry, to_batch}
use Rattle.model.specs.Maps.{Asc, AscL, has, keys}
use Rattle.model.specs.Refusal.{outside, unsorted}
use Rattle.model.proofs.BatchLaws.{cells_kept, cells_last, cells_order, confirmed_keys, confirmed_last, write_other, write_same}
use Rattle.model.proofs.MapLaws.{beq_same, eqb_no, eqb_yes, true→T}
use Rattle.model.proofs.OrderLaws.{asc_keys, asc_down}
use Rattle.model.proofs.RunLaws.{batch_ascends, batch_inside}
use Rattle.table.specs.Tables.{All}
use Rattle.table.proofs.AllLaws.{all_has, has_all}
use Rattle.batches.proofs.SetLaws.{has_low, same_members}

-- ---- the confirmed entries
pub confirmed_ascends : (lo : ℕ) (b : Batch) (C : List ℕ) → Asc lo b → Asc lo (confirmed b C)
unfolding confirmed
confirmed_ascends lo [] C a = tt
confirmed_ascends lo (e ∷ b) C a = go (beq (has e.0 C) e.1) (confirmed_ascends (suc e.0) b D a.1)
  where
    D : List ℕ
    D = write e.0 e.1 C

    go : (s : Bool) → Asc (suc e.0) (confirmed b D) → Asc lo (cond s (confirmed b D) (e ∷ confirmed b D))
    go true ih = asc_down lo (suc e.0) (confirmed b D) (let x = a.0 in omega arith) ih
    go false ih = (a.0, ih)

pub confirmed_fewer : (b : Batch) (C : List ℕ) → length (confirmed b C) ≤ length b
unfolding confirmed
confirmed_fewer [] C = zero-le
confirmed_fewer (e ∷ b) C = go (beq (has e.0 C) e.1) (confirmed_fewer b D)
  where
    D : List ℕ
    D = write e.0 e.1 C

    go : (s : Bool) → length (confirmed b D) ≤ length b → length (cond s (confirmed b D) (e ∷ confirmed b D)) ≤ suc (length b)
    go true ih = omega arith
    go false ih = omega arith

-- they alone make the cells what they are afterwards
pub confirmed_cells : (b : Batch) (C : List ℕ) → AscL 0 C → cells_after (confirmed b C) C ≡ cells_after b C
confirmed_cells b C a =
    same_members 0 (cells_after (confirmed b C) C) (cells_after b C) (cells_order (confirmed b C) C a) (cells_order b C a)
    (λ x. cells_last (confirmed b C) C x ∙ sym (confirmed_last b C x))

-- ---- a cell is toggled exactly if it is confirmed
untoggled : (t : Bool) → t ≡ not (beq t false)
untoggled true = refl
untoggled false = refl

differ : (t v : Bool) → beq t v ≡ false → not (beq v false) ≡ not (beq t true)
differ true true e = absurd (true≢false e)
differ true false e = refl
differ false true e = refl
differ false false e = absurd (true≢false e)

pub cells_toggled : (lo : ℕ) (b : Batch) (C : List ℕ) → Asc lo b → (k : ℕ) → has k (cells_after b C) ≡ not (beq (has k C) (has k (keys (confirmed b C))))
unfolding cells_after confirmed keys has
cells_toggled lo [] C a k = untoggled (has k C)
cells_toggled lo (e ∷ b) C a k =
    cells_toggled (suc e.0) b D a.1 k ∙ go (beq (has e.0 C) e.1) refl (ℕ_discrete k e.0) (asc_keys (suc e.0) (confirmed b D) (confirmed_ascends (suc e.0) b D a.1))
  where
    D : List ℕ
    D = write e.0 e.1 C

    go : (s : Bool) → beq (has e.0 C) e.1 ≡ s → Dec (k ≡ e.0) → AscL (suc e.0) (keys (confirmed b D))
        → not (beq (has k D) (has k (keys (confirmed b D)))) ≡ not (beq (has k C) (has k (keys (cond s (confirmed b D) (e ∷ confirmed b D)))))
    go true q (yes h) o =
        let x : has k D ≡ has k C = rw h (write_same e.0 e.1 C ∙ sym (beq_same (has e.0 C) e.1 (true→T (beq (has e.0 C) e.1) q))) in
        rw x
    go true q (no h) o = rw (write_other k e.0 e.1 C h)
    go false q (yes h) o =
        rw (h, eqb_yes e.0, write_same e.0 e.1 C, has_low e.0 (suc e.0) (keys (confirmed b D)) (omega arith) o)
        (differ (has e.0 C) e.1 q)
    go false q (no h) o = rw (write_other k e.0 e.1 C h, eqb_no k e.0 h)

-- ---- an accepted batch
pub batch_length : (l : List Entry) → length (to_batch l) ≡ length l
unfolding to_batch
batch_length [] = refl
batch_length (e ∷ l) = ap suc (batch_length l)

pub confirmed_inside : (l : List Entry) (C : List ℕ) → outside l ≡ false → All (Inside max_coordinate) (keys (confirmed (to_batch l) C))
confirmed_inside l C o = all_has (Inside max_coordinate) (keys (confirmed (to_batch l) C)) (λ x t. batch_inside l o x (confirmed_keys (to_batch l) C x t))

pub cells_inside : (l : List Entry) (C : List ℕ) → outside l ≡ false → All (Inside max_coordinate) C → All (Inside max_coordinate) (cells_after (to_batch l) C)
cells_inside l C o a =
    all_has (Inside max_coordinate) (cells_after (to_batch l) C)
    (λ x t. ⊎_elim (λ u. batch_inside l o x (confirmed_keys (to_batch l) C x u)) (λ e. has_all (Inside max_coordinate) C x a (subst T e t)) (cells_kept (to_batch l) C x))

-- what callers need of the batch b and the cells C
pub record Settled (b : Batch) (C : List ℕ) : Type 0 where
  pub cells : cells_after (confirmed b C) C ≡ cells_after b C
  pub order : Asc 0 (confirmed b C)
  pub key_order : AscL 0 (keys (confirmed b C))
  pub fewer : length (confirmed b C) ≤ length b
  pub toggled : (k : ℕ) → has k (cells_after b C) ≡ not (beq (has k C) (has k (keys (confirmed b C))))
  pub inside : All (Inside max_coordinate) (keys (confirmed b C))
  pub stays : All (Inside max_coordinate) C → All (Inside max_coordinate) (cells_after b C)

pub settled : (l : List Entry) (C : List ℕ) → AscL 0 C → unsorted l ≡ false → outside l ≡ false → Settled (to_batch l) C
settled l C a u o =
    let b : Batch = to_batch l in
    let s : Asc 0 b = batch_ascends l u o in
    let c : Asc 0 (confirmed b C) = confirmed_ascends 0 b C s in
    record {
      cells = confirmed_cells b C a;
      order = c;
      key_order = asc_keys 0 (confirmed b C) c;
      fewer = confirmed_fewer b C;
      toggled = cells_toggled 0 b C s;
      inside = confirmed_inside l C o;
      stays = cells_inside l C o;
    }
