use Prim.Native.Nat.{ℕ, ◌≤◌}
use native.Mathlib.Omega.{arith}
use mathlib.Core.Path.{◌≡◌, refl, sym}
use mathlib.Core.List.{List, [], ◌∷◌}
use lib.ListN.{length, take}
use Rattle.answers.proofs.ListingLaws.{listing_done, listing_refused}
use Rattle.answers.proofs.PassedLaws.{accepted, list_as, said}
use Rattle.answers.specs.Asking.{refuse_map}
use Rattle.model.specs.Limits.{max_cells, max_points}
use Rattle.model.specs.Refusal.{short}
use Rattle.held.proofs.RoomLaws.{Enough}
use Rattle.answers.proofs.PointLaws.{free_written, used}
use Rattle.answers.proofs.points.free_points.Goals as goal
use Rattle.answers.proofs.points.free_points.Goals.{After-refuse, In_ok-refuse}

-- what is lent, with its needs
abbrev lent : After-refuse → List (ℕ × ℕ)
lent e = let a = e.args in (length a.points.now, max_points) ∷ (length a.blockers.now, max_points) ∷ (length a.out.now, max_points) ∷ []

-- n is what the tests say
number : (e : After-refuse) {n : ℕ} → n ≡ said e.is_short-short.result e.args.map e.none.result.word → n ≡ refuse_map (short (lent e)) e.args.map []
number e f = list_as _ _ _ e.args.map _ f e.is_short-short.ensures e.none.ensures

pub returns-in_err-refuse : goal.returns-in_err-refuse
returns-in_err-refuse c = listing_refused _ _ _ c.from_residual.result _ c.from_residual.ensures.1 (number (goal.at.returns-in_err-refuse c).After-refuse c.in_err-refuse.ensures) (refl, tt)

-- nothing is refused
passed : (e : In_ok-refuse) → let m = e.args.map in Enough (lent (goal.at.In_ok-refuse e).After-refuse) × (m.cells ≤ max_cells) × (m.points ≤ max_points)
passed e = accepted _ e.args.map [] 0 (number (goal.at.In_ok-refuse e).After-refuse e.in_ok-refuse.ensures) refl

points_used : (e : In_ok-refuse) → let m = e.args.map in length (take m.points e.args.points.now) ≡ m.points
points_used e = used _ e.args.points.now (passed e).2 (passed e).0.0

blockers_used : (e : In_ok-refuse) → let m = e.args.map in length (take m.points e.args.blockers.now) ≡ m.points
blockers_used e = used _ e.args.blockers.now (passed e).2 (passed e).0.1.0

pub slice_bounds-write_free-end : goal.slice_bounds-write_free-end
slice_bounds-write_free-end c = sym (points_used (goal.at.slice_bounds-write_free-end c).In_ok-refuse)

pub slice_bounds-write_free-end-2 : goal.slice_bounds-write_free-end-2
slice_bounds-write_free-end-2 c = sym (blockers_used (goal.at.slice_bounds-write_free-end-2 c).In_ok-refuse)

pub write_free-requires : goal.write_free-requires
write_free-requires c =
    let e = (goal.at.write_free-requires c).In_ok-refuse in
    let p = passed e in
    let x = points_used e in
    let y = blockers_used e in
    (omega (arith, x, y), omega (arith, x, p.2, p.0.1.1.0))

pub returns : goal.returns
returns c =
    let a = c.args in
    listing_done _ _ _ c.write_free.result (number (goal.at.returns c).After-refuse c.in_ok-refuse.ensures)
    (λ M h. free_written a.map h.0 M h.1 a.points.now a.blockers.now h.2.0 h.2.1 a.out.now _ c.write_free.result c.write_free.ensures)
