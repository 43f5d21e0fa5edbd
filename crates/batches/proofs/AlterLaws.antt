-- The changes that a batch lists, and the corners that alter around them. Assumes nothing.
use Prim.Native.Nat.{ℕ, suc, ◌*◌, ◌≤◌}
use native.Mathlib.Omega.{arith}
use mathlib.Core.Path.{◌≡◌, refl, ap, ◌∙◌, subst}
use mathlib.Core.Bool.{false}
use mathlib.Core.List.{List, [], ◌∷◌}
use lib.ListN.{length, take}
use Rattle.model.specs.Batch.{Batch, cells_after, confirmed, corner_changes}
use Rattle.model.specs.Map.{Entry, to_batch}
use Rattle.model.specs.Maps.{AscL, keys}
use Rattle.model.specs.Refusal.{unsorted, outside}
use Rattle.table.specs.Listed.{Listed}
use Rattle.table.specs.Tables.{All}
use Rattle.table.proofs.AllLaws.{all_map}
use Rattle.table.proofs.ListedLaws.{keys_length, listed_cells}
use Rattle.corner.specs.Changes.{Inner, Toggled, numbered}
use Rattle.corner.proofs.ChangeLaws.{inside_inner}
use Rattle.limits.specs.Batches.{flags}
use Rattle.batches.proofs.BatchLaws.{Settled, settled, batch_length}

-- ---- lists of changes
pub flags_keys : (b : Batch) → keys (flags b) ≡ keys b
unfolding keys
flags_keys [] = refl
flags_keys (e ∷ b) = ap (λ (r : List ℕ). e.0 ∷ r) (flags_keys b)

pub flags_count : (b : Batch) → length (flags b) ≡ length b
flags_count [] = refl
flags_count (e ∷ b) = ap suc (flags_count b)

-- ---- what the first two steps promise, of the cells u and the confirmed cells k
abbrev pub Confirms : List Entry → List ℕ → List ℕ → List ℕ → List ℕ → List ℕ → ℕ → Type 0
Confirms l u conf conf' full full' r =
    AscL 0 u → unsorted l ≡ false → outside l ≡ false → length l ≤ length conf → length l ≤ length full → Listed (flags (confirmed (to_batch l) u)) conf conf' full full' r

abbrev pub Alters : List ℕ → List ℕ → List ℕ → List ℕ → List ℕ → List ℕ → ℕ → Type 0
Alters u k corn corn' stat stat' r =
    (ch : Batch) (D : List ℕ) → k ≡ keys ch → Toggled u k D → AscL 0 u → AscL 0 k → All Inner k → 9 * length k ≤ length corn → 9 * length k ≤ length stat
    → Listed (numbered (corner_changes u D ch)) corn corn' stat stat' r

-- ---- the listed changes, and the corners around them, of the batch l on the cells C
module _ (l : List Entry) (C conf conf' full full' : List ℕ) (changes : ℕ) (asc : AscL 0 C) (order : unsorted l ≡ false) (bounds : outside l ≡ false)
    (w : Listed (flags (confirmed (to_batch l) C)) conf conf' full full' changes) where
  abbrev ch₀ : Batch
  ch₀ = confirmed (to_batch l) C

  pub changes_keys : take changes conf' ≡ keys ch₀
  changes_keys = listed_cells (flags ch₀) conf conf' full full' changes w ∙ flags_keys ch₀

  pub corners_listed : (corn corn' stat stat' : List ℕ) (altered : ℕ) → 9 * length l ≤ length corn → 9 * length l ≤ length stat → Alters C (take changes conf') corn corn' stat stat' altered
      → Listed (numbered (corner_changes C (cells_after (to_batch l) C) ch₀)) corn corn' stat stat' altered
  corners_listed corn corn' stat stat' altered hc hs g =
      let s : Settled (to_batch l) C = settled l C asc order bounds in
      let x : length (keys ch₀) ≡ length ch₀ = keys_length ch₀ in
      let y : length (to_batch l) ≡ length l = batch_length l in
      let z = s.fewer in
      let p : 9 * length (keys ch₀) ≤ length corn = omega (arith, x, y, z, hc) in
      let q : 9 * length (keys ch₀) ≤ length stat = omega (arith, x, y, z, hs) in
      subst (λ (k : List ℕ). Alters C k corn corn' stat stat' altered) changes_keys g ch₀ (cells_after (to_batch l) C) refl s.toggled asc s.key_order (all_map (keys ch₀) inside_inner s.inside) p q
