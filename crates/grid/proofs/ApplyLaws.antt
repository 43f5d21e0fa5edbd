-- An accepted batch, from what its three steps leave: the confirmed changes, the corner changes, the cells. Assumes nothing.
use Prim.Native.Nat.{ℕ, ◌*◌, ◌≤◌}
use native.Mathlib.Omega.{arith}
use mathlib.Core.Path.{◌≡◌, refl, ◌∙◌, subst}
use mathlib.Core.List.{List, ◌++◌}
use lib.ListN.{length, take, drop}
use Rattle.model.specs.Batch.{Batch, cells_after, confirmed, corner_changes}
use Rattle.model.specs.Limits.{max_cells}
use Rattle.model.specs.Map.{Entry, to_batch}
use Rattle.model.specs.Maps.{keys}
use Rattle.table.specs.Listed.{Listed, values}
use Rattle.table.proofs.ListedLaws.{listed_numbers}
use Rattle.corner.specs.Changes.{numbered}
use Rattle.corner.proofs.ChangeLaws.{numbered_count}
use Rattle.limits.specs.Batches.{flags}
use Rattle.limits.specs.declared.floor.Floor.{Floor}
use Rattle.limits.proofs.FloorLaws.{holds_cells}
use Rattle.batches.proofs.AlterLaws.{Alters, Confirms, changes_keys, corners_listed, flags_count}
use Rattle.batches.proofs.BatchLaws.{Settled, settled}
use Rattle.batches.proofs.CommitLaws.{Commits, committed, committed_cells, committed_holds}
use Rattle.grid.specs.Change.{Applying, Done}

module _ (floor : Floor) (l : List Entry) (t conf conf' full full' corn corn' stat stat' w : List ℕ) (changes changed after : ℕ) (C : List ℕ) (a : Applying t floor.cells C l (length corn) (length stat)) where
  abbrev b : Batch
  b = to_batch l

  abbrev ch : Batch
  ch = confirmed b C

  abbrev C' : List ℕ
  C' = cells_after b C

  abbrev n : ℕ
  n = floor.cells

  same : take n t ≡ C
  same = holds_cells t n C a.holds

  s : Settled b C
  s = settled l C a.holds.order a.order a.bounds

  module _ (hc : length l ≤ length conf) (hf : length l ≤ length full) (f : Confirms l (take n t) conf conf' full full' changes) where
    listed : Listed (flags ch) conf conf' full full' changes
    listed = subst (λ (u : List ℕ). Confirms l u conf conf' full full' changes) same f a.holds.order a.order a.bounds hc hf

    keys_are : take changes conf' ≡ keys ch
    keys_are = changes_keys l C conf conf' full full' changes a.holds.order a.order a.bounds listed

    module _ (g : Alters (take n t) (take changes conf') corn corn' stat stat' changed) (h : Commits (take max_cells t) n (take changes conf') (take changes full') w after) where
      corners : Listed (numbered (corner_changes C C' ch)) corn corn' stat stat' changed
      corners =
          let few = a.few in
          let hc = a.corners in
          let hs = a.altered in
          let p : 9 * length l ≤ length corn = omega (arith, few, hc) in
          let q : 9 * length l ≤ length stat = omega (arith, few, hs) in
          corners_listed l C conf conf' full full' changes a.holds.order a.order a.bounds listed corn corn' stat stat' changed p q
          (subst (λ (u : List ℕ). Alters u (take changes conf') corn corn' stat stat' changed) same g)

      pub applied : Done floor C l (record { cells = t; confirmed = conf; full = full; corners = corn; altered = stat })
          (record { cells = w ++ drop max_cells t; confirmed = conf'; full = full'; corners = corn'; altered = stat' })
          (record { confirmed = changes; corners = changed; floor = record { size = floor.size; cells = after } })
      applied =
          let e : changes ≡ length ch = listed.count ∙ flags_count ch in
          let f : changed ≡ length (corner_changes C C' ch) = corners.count ∙ numbered_count (corner_changes C C' ch) in
          let m : take changes full' ≡ values (flags ch) = listed_numbers (flags ch) conf conf' full full' changes listed in
          record {
            answer = rw (e, f, (committed l a.holds a.order a.bounds a.room keys_are m h).1) refl;
            cells = committed_cells l a.holds a.order a.bounds a.room keys_are m h;
            holds = committed_holds l a.holds a.order a.bounds a.room keys_are m h;
            changes = listed;
            altered = corners;
          }
