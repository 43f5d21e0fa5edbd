-- An accepted batch, of the entries l on the map M: the map afterwards part by part, its layer in closed form, and how much is altered at most. Assumes nothing.
use Prim.Native.Nat.{ℕ, ◌*◌, ◌≤◌}
use native.Mathlib.Omega.{arith}
use mathlib.Core.Path.{◌≡◌, refl, sym, subst}
use mathlib.Core.List.{List}
use lib.ListN.{length}
use Rattle.batches.proofs.AlterLaws.{flags_count}
use Rattle.corner.proofs.ChangeLaws.{numbered_count}
use Rattle.batches.proofs.BatchLaws.{Settled, batch_length, settled}
use Rattle.model.proofs.ClosedForm.{change_closed}
use Rattle.model.proofs.LayerLaws.{Lawful}
use Rattle.model.proofs.RunLaws.{batch_ascends, batch_inside}
use Rattle.model.proofs.TestLaws.{lawful, tests_shift}
use Rattle.model.specs.Batch.{Batch, cells_after, confirmed, corner_changes}
use Rattle.model.specs.ClosedForm.{Closed, marks_in}
use Rattle.model.specs.Corner.{Bits}
use Rattle.model.specs.Good.{Good}
use Rattle.model.specs.Layer.{Mark, Tests, update}
use Rattle.model.specs.Limits.{need_confirmed, need_corners}
use Rattle.model.specs.Map as model
use Rattle.visibility.specs.Change.{changes_of, corners_of}
use Rattle.held.specs.Holds.{Tables}
use Rattle.visibility.specs.Update.{Updating}
use Rattle.held.specs.declared.map.Map.{Map}
use Rattle.visibility.proofs.BorderLaws.{changes_length}

-- the tests of the map M
abbrev pub T : model.Map → Tests
T M = model.tests M.size M.layer.radius

pub same_shift : (M : model.Map) → (T M).shift ≡ model.shift_of M.size M.layer.radius
same_shift M = tests_shift M.size M.layer.radius

module _ (M : model.Map) (l : List model.Entry) where
  -- the cells afterwards, the changes, the corners that they alter, the marks
  abbrev pub C' : List ℕ
  C' = cells_after (model.to_batch l) M.cells

  abbrev pub ch : Batch
  ch = confirmed (model.to_batch l) M.cells

  abbrev pub changed : List (ℕ × Bits)
  changed = corner_changes M.cells C' ch

  abbrev pub ms : List Mark
  ms = marks_in (T M).shift M.cells (model.to_batch l)

  -- the map afterwards, part by part
  abbrev pub M' : model.Map
  M' = model.next (model.batch l) M

  pub next_cells : M'.cells ≡ C'
  unfolding model.next model.changed
  next_cells = refl

  pub next_size : M'.size ≡ M.size
  unfolding model.next model.changed
  next_size = refl

  pub next_radius : M'.layer.radius ≡ M.layer.radius
  unfolding model.next model.changed update
  next_radius = refl

module _ {m : Map} {t : Tables} {M : model.Map} {l : List model.Entry} (u : Updating m t M l) where
  pub law : Lawful (T M)
  law = lawful M.size M.layer.radius u.radius

  pub good : Good (T M).shift M.cells M.layer
  good = subst (λ (z : ℕ). Good z M.cells M.layer) (sym (same_shift M)) u.holds.good

  pub set : Settled (model.to_batch l) M.cells
  set = settled l M.cells u.holds.cells.order u.order u.bounds

  -- the layer afterwards is the closed form
  pub closed : Closed (T M) (C' M l) (ch M l) (ms M l) M.layer (M' M l).layer
  unfolding model.next model.changed
  closed = change_closed (T M) law M.cells M.layer good (model.to_batch l) (batch_ascends l u.order u.bounds) (batch_inside l u.bounds)

  pub good_after : Good (model.shift_of (M' M l).size (M' M l).layer.radius) (M' M l).cells (M' M l).layer
  good_after = rw (next_size M l, next_radius M l, next_cells M l, ← same_shift M) closed.good

  pub few_changes : length (changes_of M l) ≤ need_confirmed
  few_changes =
      let x : length (changes_of M l) ≡ length (ch M l) = flags_count (ch M l) in
      let y : length (model.to_batch l) ≡ length l = batch_length l in
      omega (arith, x, y, set.fewer, u.few)

  pub few_corners : length (changed M l) ≤ need_corners
  few_corners =
      let x : length (changes_of M l) ≡ length (ch M l) = flags_count (ch M l) in
      let y : length (changed M l) ≤ 9 * length (ch M l) = changes_length M.cells (C' M l) (ch M l) in
      omega (arith, x, y, few_changes)

  pub few_altered : length (corners_of M l) ≤ need_corners
  few_altered = rw (numbered_count (changed M l)) few_corners
