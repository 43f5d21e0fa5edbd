-- Phase 1, the statuses: what marks make of a status, and that the marks of all altered corners leave every bit right. Assumes nothing.
use Prim.Native.Nat.{ℕ, ◌≤◌}
use native.Mathlib.Decide.{ℕ_discrete}
use native.Mathlib.Omega.{arith}
use mathlib.Core.Path.{◌≡◌, refl, sym, ap, ◌∙◌, subst}
use mathlib.Core.Logic.{◌≢◌, ◌⊎◌, inl, inr, ⊎_elim}
use mathlib.Core.Bool.{Bool, true, false, cond, ◌||◌, ◌&&◌, and-true, and-false}
use mathlib.Core.List.{List, [], ◌∷◌, ◌++◌}
use lib.Dec.{T, eqb, eqb→eq, eqb_refl}
use Rattle.ieee.proofs.Tools.{or_cases}
use Rattle.model.specs.Maps.{keys, has}
use Rattle.model.specs.Cell.{Dir, SW, SE, NW, NE, opp, move}
use Rattle.model.specs.Corner.{Bits, bit, set_bit, status_of}
use Rattle.model.specs.Layer.{Mark, marks_of, marks}
use Rattle.model.specs.ClosedForm.{status_after, status_run}
use Rattle.model.specs.Limits.{max_shift}
use Rattle.model.proofs.MapLaws.{eqb_yes, eqb_no, T→true}
use Rattle.model.proofs.BitLaws.{same_dir, bit_set}
use Rattle.model.proofs.CornerLaws.{Safe, Fits}

-- ---- one mark
pub after_at : (m : Mark) (k : ℕ) (b : Bits) → k ≡ m.at → status_after m k b ≡ set_bit m.dir m.on b
unfolding status_after
after_at m k b e = rw (e, eqb_yes m.at) refl

pub after_off : (m : Mark) (k : ℕ) (b : Bits) → k ≢ m.at → status_after m k b ≡ b
unfolding status_after
after_off m k b h = rw (eqb_no k m.at h) refl

pub after_bit : (m : Mark) (k : ℕ) (b : Bits) (D : Dir) → bit D (status_after m k b) ≡ cond (eqb k m.at && same_dir D m.dir) m.on (bit D b)
unfolding status_after
after_bit m k b D = go (eqb k m.at)
  where
    go : (s : Bool) → bit D (cond s (set_bit m.dir m.on b) b) ≡ cond (s && same_dir D m.dir) m.on (bit D b)
    go true = bit_set D m.dir m.on b
    go false = refl

-- of the four marks of cell c one concerns bit D
cell_bit : (s c k : ℕ) (t b : Bits) (D : Dir) → bit D (status_run (marks_of s c t) k b) ≡ cond (eqb k (move s D c)) (bit D t) (bit D b)
unfolding status_run
cell_bit s c k t b SW = simp (after_bit, and-false, and-true)
cell_bit s c k t b SE = simp (after_bit, and-false, and-true)
cell_bit s c k t b NW = simp (after_bit, and-false, and-true)
cell_bit s c k t b NE = simp (after_bit, and-false, and-true)

pub run_append : (ms ns : List Mark) (k : ℕ) (b : Bits) → status_run (ms ++ ns) k b ≡ status_run ns k (status_run ms k b)
unfolding status_run
run_append [] ns k b = refl
run_append (m ∷ ms) ns k b = run_append ms ns k (status_after m k b)

-- ---- there and back again
pub to_back : (s : ℕ) (D : Dir) (b k : ℕ) → s ≤ max_shift → Safe b → k ≡ move s D b → b ≡ move s (opp D) k
to_back s SW b k h f e = omega arith
to_back s SE b k h f e = omega arith
to_back s NW b k h f e = omega arith
to_back s NE b k h f e = omega arith

from_back : (s : ℕ) (D : Dir) (b k : ℕ) → s ≤ max_shift → Safe b → b ≡ move s (opp D) k → k ≡ move s D b
from_back s SW b k h f e = omega arith
from_back s SE b k h f e = omega arith
from_back s NW b k h f e = omega arith
from_back s NE b k h f e = omega arith

-- ---- a bit is right: it is the corner of the cell that it belongs to
abbrev pub Right : ℕ → List ℕ → Dir → ℕ → Bits → Type 0
Right s C D k b = bit D b ≡ bit D (status_of C (move s (opp D) k))

cell_right : (s : ℕ) (C : List ℕ) (c k : ℕ) (b : Bits) (D : Dir) → s ≤ max_shift → Safe c → Right s C D k b ⊎ (c ≡ move s (opp D) k)
    → Right s C D k (status_run (marks_of s c (status_of C c)) k b)
cell_right s C c k b D h f r = cell_bit s c k (status_of C c) b D ∙ go (ℕ_discrete k (move s D c)) r
  where
    go : Dec (k ≡ move s D c) → Right s C D k b ⊎ (c ≡ move s (opp D) k) → cond (eqb k (move s D c)) (bit D (status_of C c)) (bit D b) ≡ bit D (status_of C (move s (opp D) k))
    go (yes e) r = rw (T→true (eqb k (move s D c)) (rw e (eqb_refl (move s D c)))) (ap (λ (z : ℕ). bit D (status_of C z)) (to_back s D c k h f e))
    go (no n) (inl r) = rw (eqb_no k (move s D c) n) r
    go (no n) (inr e) = absurd (n (from_back s D c k h f e))

pub marks_right : (s : ℕ) (C : List ℕ) (cs : List (ℕ × Bits)) (D : Dir) (k : ℕ) (b : Bits) → s ≤ max_shift → Fits C cs
    → Right s C D k b ⊎ T (has (move s (opp D) k) (keys cs)) → Right s C D k (status_run (marks s cs) k b)
unfolding status_run marks keys has
marks_right s C [] D k b h f (inl r) = r
marks_right s C [] D k b h f (inr r) = absurd r
marks_right s C (c ∷ cs) D k b h f r =
    subst (λ (z : Bits). Right s C D k z) (sym (run_append (marks_of s c.0 c.1) (marks s cs) k b))
    (marks_right s C cs D k (status_run (marks_of s c.0 c.1) k b) h f.1.1 (rw f.0 (go (ℕ_discrete B c.0) r)))
  where
    B : ℕ
    B = move s (opp D) k

    next : Bits
    next = status_run (marks_of s c.0 (status_of C c.0)) k b

    go : Dec (B ≡ c.0) → Right s C D k b ⊎ T (eqb B c.0 || has B (keys cs)) → Right s C D k next ⊎ T (has B (keys cs))
    go d (inl r) = inl (cell_right s C c.0 k b D h f.1.0 (inl r))
    go (yes e) (inr r) = inl (cell_right s C c.0 k b D h f.1.0 (inr (sym e)))
    go (no n) (inr r) = inr (⊎_elim (λ u. absurd (n (eqb→eq B c.0 u))) (λ u. u) (or_cases (eqb B c.0) (has B (keys cs)) r))
