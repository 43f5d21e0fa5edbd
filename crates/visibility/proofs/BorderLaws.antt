-- The corners of an update: 64 cells further in every direction are keys too; and how many there are. Assumes nothing.
use Prim.Native.Nat.{ℕ, suc, ◌*◌, ◌≤◌, zero-le}
use native.Mathlib.Omega.{arith}
use mathlib.Core.Path.{◌≡◌, refl}
use mathlib.Core.Bool.{Bool, true, false, cond, ◌||◌}
use mathlib.Core.List.{List, [], ◌∷◌, ◌++◌}
use lib.ListN.{length}
use Rattle.marks.specs.Marked.{Bordered}
use Rattle.model.specs.Batch.{Batch, altered, corner_changes, met}
use Rattle.model.specs.Cell.{around}
use Rattle.model.specs.Corner.{Bits, any_bit, corner_cells, corners_among, same_bits, status_of}
use Rattle.model.specs.Good.{Inside}
use Rattle.model.specs.Limits.{max_coordinate}
use Rattle.model.specs.Maps.{has, keys}
use Rattle.table.specs.Tables.{All}
use Rattle.table.proofs.AllLaws.{all_map}

all_append : (P : ℕ → Type 0) (l m : List ℕ) → All P l → All P m → All P (l ++ m)
all_append P [] m a b = b
all_append P (x ∷ l) m a b = (a.0, all_append P l m a.1 b)

-- ---- a batch
inside_bordered : (k : ℕ) → Inside max_coordinate k → Bordered k
inside_bordered k h = omega arith

around_bordered : (k : ℕ) → Inside max_coordinate k → All Bordered (around k)
around_bordered k h = omega arith

met_bordered : (ch : Batch) → All (Inside max_coordinate) (keys ch) → All Bordered (met ch)
unfolding met keys
met_bordered [] a = tt
met_bordered (e ∷ ch) a = all_append Bordered (around e.0) (met ch) (around_bordered e.0 a.0) (met_bordered ch a.1)

altered_all : (P : ℕ → Type 0) (C C' done l : List ℕ) → All P l → All P (keys (altered C C' done l))
unfolding altered keys
altered_all P C C' done [] a = tt
altered_all P C C' done (k ∷ l) a = go (has k done || same_bits (status_of C k) (status_of C' k)) (altered_all P C C' (k ∷ done) l a.1)
  where
    r : List (ℕ × Bits)
    r = altered C C' (k ∷ done) l

    go : (s : Bool) → All P (keys r) → All P (keys (cond s r ((k, status_of C' k) ∷ r)))
    go true h = h
    go false h = (a.0, h)

pub changes_bordered : (C C' : List ℕ) (ch : Batch) → All (Inside max_coordinate) (keys ch) → All Bordered (keys (corner_changes C C' ch))
unfolding corner_changes
changes_bordered C C' ch a = altered_all Bordered C C' [] (met ch) (met_bordered ch a)

met_length : (ch : Batch) → length (met ch) ≡ 9 * length ch
unfolding met
met_length [] = refl
met_length (e ∷ ch) = let h = met_length ch in omega arith

altered_length : (C C' done l : List ℕ) → length (altered C C' done l) ≤ length l
unfolding altered
altered_length C C' done [] = zero-le
altered_length C C' done (k ∷ l) = go (has k done || same_bits (status_of C k) (status_of C' k)) (altered_length C C' (k ∷ done) l)
  where
    r : List (ℕ × Bits)
    r = altered C C' (k ∷ done) l

    go : (s : Bool) → length r ≤ length l → length (cond s r ((k, status_of C' k) ∷ r)) ≤ suc (length l)
    go true h = omega arith
    go false h = omega arith

pub changes_length : (C C' : List ℕ) (ch : Batch) → length (corner_changes C C' ch) ≤ 9 * length ch
unfolding corner_changes
changes_length C C' ch = let h = altered_length C C' [] (met ch) in let e = met_length ch in omega arith

-- ---- a fresh build
among_all : (P : ℕ → Type 0) (C l : List ℕ) → All P l → All P (keys (corners_among C l))
unfolding corners_among keys
among_all P C [] a = tt
among_all P C (k ∷ l) a = go (any_bit (status_of C k)) (among_all P C l a.1)
  where
    go : (s : Bool) → All P (keys (corners_among C l)) → All P (keys (cond s ((k, status_of C k) ∷ corners_among C l) (corners_among C l)))
    go true h = (a.0, h)
    go false h = h

pub corners_bordered : (C : List ℕ) → All (Inside max_coordinate) C → All Bordered (keys (corner_cells C))
corners_bordered C a = among_all Bordered C C (all_map C inside_bordered a)

among_length : (C l : List ℕ) → length (corners_among C l) ≤ length l
unfolding corners_among
among_length C [] = zero-le
among_length C (k ∷ l) = go (any_bit (status_of C k)) (among_length C l)
  where
    go : (s : Bool) → length (corners_among C l) ≤ length l → length (cond s ((k, status_of C k) ∷ corners_among C l) (corners_among C l)) ≤ suc (length l)
    go true h = omega arith
    go false h = omega arith

pub corners_length : (C : List ℕ) → length (corner_cells C) ≤ length C
corners_length C = among_length C C
