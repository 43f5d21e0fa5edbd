-- The table of the cells, after the confirmed changes of an accepted batch are written to its first places. Assumes nothing.
use Prim.Native.Nat.{ℕ, ◌≤◌}
use mathlib.Core.Path.{◌≡◌, refl, sym, ap, ◌∙◌, subst}
use mathlib.Core.Bool.{false}
use mathlib.Core.List.{List, ◌++◌}
use lib.ListN.{length, take, drop}
use lib.Seq.{take-append_seam}
use Rattle.model.specs.Batch.{Batch, cells_after, confirmed}
use Rattle.model.specs.Limits.{max_cells}
use Rattle.model.specs.Map.{Entry, to_batch}
use Rattle.model.specs.Maps.{Asc, keys}
use Rattle.model.specs.Refusal.{unsorted, outside}
use Rattle.model.proofs.BatchLaws.{cells_order}
use Rattle.table.specs.Listed.{values}
use Rattle.table.specs.Tables.{Table, pad}
use Rattle.table.proofs.TableLaws.{pad_length, pad_table, pad_take}
use Rattle.limits.specs.Floor.{Holds}
use Rattle.limits.specs.Batches.{flags}
use Rattle.batches.proofs.BatchLaws.{Settled, settled}
use Rattle.limits.proofs.FloorLaws.{behind}

-- the first places of a floor's table
pub holds_table : (t : List ℕ) (n : ℕ) (C : List ℕ) → Holds t n C → take max_cells t ≡ pad max_cells C
holds_table t n C h =
    let e : length (pad max_cells C) ≡ max_cells = pad_length max_cells C h.room in
    ap (λ (m : ℕ). take m t) (sym e) ∙ ap (take (length (pad max_cells C))) h.table ∙ take-append_seam (pad max_cells C) (drop max_cells t)

-- what `commit` promises, of the confirmed cells k with the numbers m, and the first places p of the table
abbrev pub Commits : List ℕ → ℕ → List ℕ → List ℕ → List ℕ → ℕ → Type 0
Commits p n k m w r =
    (b : Batch) → k ≡ keys b → m ≡ values (flags b) → Asc 0 b → Table p n → length (cells_after b (take n p)) ≤ length p → (w ≡ pad (length p) (cells_after b (take n p))) × (r ≡ length (cells_after b (take n p)))

module _ (l : List Entry) {t : List ℕ} {n : ℕ} {C : List ℕ} (holds : Holds t n C) (order : unsorted l ≡ false) (bounds : outside l ≡ false) (room : length (cells_after (to_batch l) C) ≤ max_cells) where
  abbrev ch : Batch
  ch = confirmed (to_batch l) C

  abbrev C' : List ℕ
  C' = cells_after (to_batch l) C

  s : Settled (to_batch l) C
  s = settled l C holds.order order bounds

  module _ {k m w : List ℕ} {after : ℕ} (keys_are : k ≡ keys ch) (full_are : m ≡ values (flags ch)) (h : Commits (take max_cells t) n k m w after) where
    -- the table of the first places
    pub committed : (w ≡ pad max_cells C') × (after ≡ length C')
    committed =
        let p : take max_cells t ≡ pad max_cells C = holds_table t n C holds in
        let q : take n (pad max_cells C) ≡ C = ap (λ (j : ℕ). take j (pad max_cells C)) holds.count ∙ pad_take max_cells C in
        let e : length (pad max_cells C) ≡ max_cells = pad_length max_cells C holds.room in
        let T : Table (pad max_cells C) n = subst (λ (j : ℕ). Table (pad max_cells C) j) (sym holds.count) (pad_table max_cells C holds.room holds.order) in
        let c : cells_after ch (take n (pad max_cells C)) ≡ C' = ap (cells_after ch) q ∙ s.cells in
        let r : length (cells_after ch (take n (pad max_cells C))) ≤ length (pad max_cells C) = rw (c, e) room in
        let z = subst (λ (u : List ℕ). Commits u n k m w after) p h ch keys_are full_are s.order T r in
        (z.0 ∙ rw (c, e) refl, z.1 ∙ ap length c)

    pub committed_cells : w ++ drop max_cells t ≡ pad max_cells C' ++ drop max_cells t
    committed_cells = ap (λ (u : List ℕ). u ++ drop max_cells t) committed.0

    pub committed_behind : drop max_cells (w ++ drop max_cells t) ≡ drop max_cells t
    committed_behind = behind C' (drop max_cells t) (w ++ drop max_cells t) room committed_cells

    pub committed_holds : Holds (w ++ drop max_cells t) (length C') C'
    committed_holds =
        record {
          table = committed_cells ∙ ap (λ (u : List ℕ). pad max_cells C' ++ u) (sym committed_behind);
          count = refl;
          room = room;
          order = cells_order (to_batch l) C holds.order;
          inside = s.stays holds.inside;
        }
