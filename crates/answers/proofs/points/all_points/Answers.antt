use Prim.Native.Nat.{ℕ, ◌≤◌}
use mathlib.Core.Path.{◌≡◌, refl, sym}
use mathlib.Core.List.{List, [], ◌∷◌}
use lib.ListN.{length}
use Rattle.answers.proofs.ListingLaws.{listing_done, listing_refused}
use Rattle.answers.proofs.PassedLaws.{accepted, list_as, said}
use Rattle.answers.specs.Asking.{refuse_map}
use Rattle.model.specs.Limits.{max_cells, max_points}
use Rattle.model.specs.Refusal.{short}
use Rattle.held.proofs.RoomLaws.{Enough}
use Rattle.answers.proofs.PointLaws.{points_written, used}
use Rattle.answers.proofs.points.all_points.Goals as goal
use Rattle.answers.proofs.points.all_points.Goals.{After-refuse, In_ok-refuse}

-- what is lent, with its needs
abbrev lent : After-refuse → List (ℕ × ℕ)
lent e = let a = e.args in (length a.points.now, max_points) ∷ (length a.statuses.now, max_points) ∷ (length a.blockers.now, max_points) ∷ (length a.out.now, max_points) ∷ (length a.bits.now, max_points) ∷ (length a.blocks.now, max_points) ∷ []

-- n is what the tests say
number : (e : After-refuse) {n : ℕ} → n ≡ said e.is_short-short.result e.args.map e.none.result.word → n ≡ refuse_map (short (lent e)) e.args.map []
number e f = list_as _ _ _ e.args.map _ f e.is_short-short.ensures e.none.ensures

-- nothing is refused
passed : (e : In_ok-refuse) → let m = e.args.map in Enough (lent (goal.at.In_ok-refuse e).After-refuse) × (m.cells ≤ max_cells) × (m.points ≤ max_points)
passed e = accepted _ e.args.map [] 0 (number (goal.at.In_ok-refuse e).After-refuse e.in_ok-refuse.ensures) refl

pub returns-in_err-refuse : goal.returns-in_err-refuse
returns-in_err-refuse c =
    listing_refused _ _ _ c.from_residual.result _ c.from_residual.ensures.1 (number (goal.at.returns-in_err-refuse c).After-refuse c.in_err-refuse.ensures) (refl, (refl, (refl, tt)))

pub slice_bounds-list-end : goal.slice_bounds-list-end
slice_bounds-list-end c =
    let p = passed (goal.at.slice_bounds-list-end c).In_ok-refuse in
    sym (used c.args.map.points c.args.points.now p.2 p.0.0)

pub slice_bounds-list-end-2 : goal.slice_bounds-list-end-2
slice_bounds-list-end-2 c =
    let p = passed (goal.at.slice_bounds-list-end-2 c).In_ok-refuse in
    sym (used c.args.map.points c.args.statuses.now p.2 p.0.1.0)

pub slice_bounds-list-end-3 : goal.slice_bounds-list-end-3
slice_bounds-list-end-3 c =
    let p = passed (goal.at.slice_bounds-list-end-3 c).In_ok-refuse in
    sym (used c.args.map.points c.args.blockers.now p.2 p.0.1.1.0)

pub returns : goal.returns
returns c =
    let a = c.args in
    let r = (passed (goal.at.returns c).In_ok-refuse).0.1.1.1 in
    listing_done _ _ _ a.map.points (number (goal.at.returns c).After-refuse c.in_ok-refuse.ensures)
    (λ M h. points_written a.map h.0 M h.1 a.points.now a.statuses.now a.blockers.now h.2.0 h.2.1 h.2.2 a.out.now _ a.bits.now _ a.blocks.now _ r.0 r.1.0 r.1.1.0 c.list.ensures c.list-2.ensures c.list-3.ensures)
