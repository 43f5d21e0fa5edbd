-- The refusals of a call that leaves the map as it is. Assumes nothing.
use Prim.Native.Nat.{ℕ, ◌≤◌}
use mathlib.Core.Path.{◌≡◌, refl}
use mathlib.Core.Bool.{Bool, false}
use mathlib.Core.List.{List, []}
use borrow.Author.Tests.{le-ltb}
use Rattle.model.specs.Limits.{max_cells, max_points}
use Rattle.model.specs.Map as model
use Rattle.model.specs.Refusal.{Dues, bad_radius, bad_size, first_due, is_due, refuse_asking, short, verdict}
use Rattle.held.specs.Holds.{Holds, Tables}
use Rattle.held.specs.declared.map.Map.{Map}
use Rattle.answers.specs.Asking.{refuse_map}

-- nothing is due
pub none_due : (s : Bool) (m : Map) → s ≡ false → bad_size m.size ≡ false → bad_radius m.size m.radius ≡ false → m.cells ≤ max_cells → m.points ≤ max_points → refuse_map s m [] ≡ 0
unfolding refuse_map verdict first_due is_due
none_due s m e f g i j = rw (e, f, g, le-ltb max_cells m.cells i, le-ltb max_points m.points j) refl

-- a map that is held is refused as the model refuses it
pub refuses_as_model : (m : Map) (t : Tables) (M : model.Map) → Holds m t M → (lent : List (ℕ × ℕ)) (more : Dues) → refuse_map (short lent) m more ≡ refuse_asking lent M more
unfolding refuse_map refuse_asking
refuses_as_model m t M h lent more = rw (h.size, h.radius, h.cells.count, h.layer.count) refl
