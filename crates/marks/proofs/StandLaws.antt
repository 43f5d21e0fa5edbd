-- The marks of a cell and of many, one after another, and the keys that they bring. Assumes nothing.
use Rattle.std.proofs.Common.{◌≡◌, ℕ, zero, suc, ◌+◌, ◌*◌, ◌<◌, ◌≤◌, Bool, true, false, cond, eqb, ltb, List, [], ◌∷◌, ◌++◌, length, get_or, take, drop, sym, refl, ap, ◌∙◌, add-one, arith, take-append-drop, take-suc}
use Rattle.corner.specs.Changes.{numbered}
use Rattle.corner.specs.Weights.{dir}
use Rattle.corner.specs.declared.bits.Corner.TheVariants.{Southwest, Southeast, Northwest, Northeast}
use Rattle.model.specs.Cell.{Dir, move}
use Rattle.model.specs.ClosedForm.{stand}
use Rattle.model.specs.Corner.{Bits, bit, number, zero4}
use Rattle.model.specs.Layer.{Mark, marks, marks_of}
use Rattle.model.specs.Maps.{add, keys}
use Rattle.model.proofs.StandLaws.{stand_append, stand_more}
use Rattle.table.specs.Listed.{values}

-- ---- the marks
-- the directions in bit order
abbrev pub dir_at : ℕ → Dir
dir_at d = dir (get_or (Southwest ∷ Southeast ∷ Northwest ∷ Northeast ∷ []) d Southwest)

-- the d-th of a cell's four
abbrev pub mark_at : ℕ → ℕ → Bits → ℕ → Mark
mark_at s k b d = record { dir = dir_at d; at = move s (dir_at d) k; on = bit (dir_at d) b }

marks_suc : (s k : ℕ) (b : Bits) (d : ℕ) → d < 4 → take (suc d) (marks_of s k b) ≡ take d (marks_of s k b) ++ (mark_at s k b d ∷ [])
marks_suc s k b zero h = refl
marks_suc s k b (suc zero) h = refl
marks_suc s k b (suc (suc zero)) h = refl
marks_suc s k b (suc (suc (suc zero))) h = refl
marks_suc s k b (suc (suc (suc (suc d)))) h = absurd (omega arith)

pub marks_next : (s k : ℕ) (b : Bits) (d : ℕ) → d < 4 → take (d + 1) (marks_of s k b) ≡ take d (marks_of s k b) ++ (mark_at s k b d ∷ [])
marks_next s k b d h = rw (add-one d) (marks_suc s k b d h)

marks_append : (s : ℕ) (changed ds : List (ℕ × Bits)) → marks s (changed ++ ds) ≡ marks s changed ++ marks s ds
unfolding marks
marks_append s [] ds = refl
marks_append s (c ∷ changed) ds = ap (λ (r : List Mark). marks_of s c.0 c.1 ++ r) (marks_append s changed ds)

pub marks_split : (s i : ℕ) (changed : List (ℕ × Bits)) → marks s changed ≡ marks s (take i changed) ++ marks s (drop i changed)
marks_split s i changed = ap (marks s) (sym (take-append-drop i changed)) ∙ marks_append s (take i changed) (drop i changed)

abbrev pub cell_at : List (ℕ × Bits) → ℕ → ℕ × Bits
cell_at changed i = get_or changed i (0, zero4)

pub marks_more : (s i : ℕ) (changed : List (ℕ × Bits)) → i < length changed → marks s (take (i + 1) changed) ≡ marks s (take i changed) ++ marks_of s (cell_at changed i).0 (cell_at changed i).1
unfolding marks
marks_more s i changed h = rw (add-one i, take-suc changed i (0, zero4) h) (marks_append s (take i changed) (cell_at changed i ∷ []))

pub marks_length : (s : ℕ) (changed : List (ℕ × Bits)) → length (marks s changed) ≡ 4 * length changed
unfolding marks
marks_length s [] = refl
marks_length s (c ∷ changed) = let e = marks_length s changed in omega arith

-- ---- the cells as they are lent
pub keys_at : (changed : List (ℕ × Bits)) (i : ℕ) → get_or (keys changed) i 0 ≡ (cell_at changed i).0
unfolding keys
keys_at [] i = refl
keys_at (c ∷ changed) zero = refl
keys_at (c ∷ changed) (suc i) = keys_at changed i

pub numbered_length : (changed : List (ℕ × Bits)) → length (numbered changed) ≡ length changed
numbered_length [] = refl
numbered_length (c ∷ changed) = ap suc (numbered_length changed)

pub numbers_at : (changed : List (ℕ × Bits)) (i : ℕ) → get_or (values (numbered changed)) i 0 ≡ number (cell_at changed i).1
unfolding number
numbers_at [] i = refl
numbers_at (c ∷ changed) zero = refl
numbers_at (c ∷ changed) (suc i) = numbers_at changed i

-- ---- the keys
pub stand_one : (m : Mark) (K : List ℕ) → stand (m ∷ []) K ≡ cond m.on (add m.at K) K
unfolding stand
stand_one m K = refl

pub add_few : (k : ℕ) (K : List ℕ) → length (add k K) ≤ length K + 1
unfolding add
add_few k [] = omega arith
add_few k (x ∷ l) = go (eqb k x) (ltb k x) (add_few k l)
  where
    go : (b c : Bool) → length (add k l) ≤ length l + 1 → length (cond b (x ∷ l) (cond c (k ∷ x ∷ l) (x ∷ add k l))) ≤ suc (length l) + 1
    go true c ih = omega arith
    go false true ih = omega arith
    go false false ih = omega arith

-- the candidates of some corners are among those of all
pub stand_part : (s i : ℕ) (changed : List (ℕ × Bits)) (K : List ℕ) → length (stand (marks s (take i changed)) K) ≤ length (stand (marks s changed) K)
stand_part s i changed K = rw (marks_split s i changed, stand_append (marks s (take i changed)) (marks s (drop i changed)) K) (stand_more (marks s (drop i changed)) (stand (marks s (take i changed)) K))
