use Prim.Native.Nat.{ℕ, ◌≤◌}
use native.Mathlib.Omega.{arith}
use mathlib.Core.Path.{◌≡◌, refl, sym, ◌∙◌}
use mathlib.Core.List.{List, [], ◌∷◌, ◌++◌}
use lib.ListN.{length, take}
use Rattle.answers.proofs.ListingLaws.{listing_done, listing_refused}
use Rattle.answers.proofs.PassedLaws.{accepted, list_as, others_short, said, some_short}
use Rattle.answers.specs.Asking.{refuse_map}
use Rattle.model.specs.Limits.{max_cells, max_points, need_pairs}
use Rattle.model.specs.Refusal.{short}
use Rattle.held.specs.Pairs.{pair_places}
use Rattle.held.proofs.RoomLaws.{Enough}
use Rattle.answers.proofs.PairLaws.{open_written}
use Rattle.answers.proofs.PointLaws.{used}
use Rattle.answers.proofs.pairs.open_pairs.Goals as goal
use Rattle.answers.proofs.pairs.open_pairs.Goals.{After-refuse, In_ok-refuse, else-is_short, then-is_short}

-- what is lent, with its needs
abbrev tables : After-refuse → List (ℕ × ℕ)
tables e = let a = e.args in (length a.points.now, max_points) ∷ (length a.blockers.now, max_points) ∷ (length a.pairs.now, pair_places) ∷ []

abbrev columns : After-refuse → List (ℕ × ℕ)
columns e = let a = e.args in (length a.lesser.now, need_pairs) ∷ (length a.greater.now, need_pairs) ∷ []

abbrev lent : After-refuse → List (ℕ × ℕ)
lent e = tables e ++ columns e

tested : (e : After-refuse) → e.if-is_short.short ≡ short (lent e)
tested e =
    let s = e.is_short in
    elim e.if-is_short.branch [
      | then-is_short w ↦ w.short-is ∙ some_short (tables e) (columns e) s.result s.ensures w.if-is_short.true
      | else-is_short w ↦ let o = w.is_short-short in w.short-is ∙ others_short (tables e) (columns e) s.result s.ensures o.result w.if-is_short.false o.ensures
    ]

-- n is what the tests say
number : (e : After-refuse) {n : ℕ} → n ≡ said e.if-is_short.short e.args.map e.none.result.word → n ≡ refuse_map (short (lent e)) e.args.map []
number e f = list_as _ _ _ e.args.map _ f (tested e) e.none.ensures

-- nothing is refused
passed : (e : In_ok-refuse) → let m = e.args.map in Enough (lent (goal.at.In_ok-refuse e).After-refuse) × (m.cells ≤ max_cells) × (m.points ≤ max_points)
passed e = accepted _ e.args.map [] 0 (number (goal.at.In_ok-refuse e).After-refuse e.in_ok-refuse.ensures) refl

points_used : (e : In_ok-refuse) → let m = e.args.map in length (take m.points e.args.points.now) ≡ m.points
points_used e = used _ e.args.points.now (passed e).2 (passed e).0.0

blockers_used : (e : In_ok-refuse) → let m = e.args.map in length (take m.points e.args.blockers.now) ≡ m.points
blockers_used e = used _ e.args.blockers.now (passed e).2 (passed e).0.1.0

pub returns-in_err-refuse : goal.returns-in_err-refuse
returns-in_err-refuse c =
    listing_refused _ _ _ c.from_residual.result _ c.from_residual.ensures.1 (number (goal.at.returns-in_err-refuse c).After-refuse c.in_err-refuse.ensures) (refl, (refl, tt))

pub slice_bounds-list_open-end : goal.slice_bounds-list_open-end
slice_bounds-list_open-end c = sym (points_used (goal.at.slice_bounds-list_open-end c).In_ok-refuse)

pub slice_bounds-list_open-end-2 : goal.slice_bounds-list_open-end-2
slice_bounds-list_open-end-2 c = sym (blockers_used (goal.at.slice_bounds-list_open-end-2 c).In_ok-refuse)

pub list_open-requires : goal.list_open-requires
list_open-requires c =
    let e = (goal.at.list_open-requires c).In_ok-refuse in
    let p = passed e in
    let x = points_used e in
    let y = blockers_used e in
    (omega (arith, x, p.2), omega (arith, x, y), p.0.1.1.0, p.0.1.1.1.0, p.0.1.1.1.1.0)

pub returns : goal.returns
returns c =
    let a = c.args in
    listing_done _ _ _ c.list_open.result (number (goal.at.returns c).After-refuse c.in_ok-refuse.ensures)
    (λ M h. open_written a.map h.0 M h.1 a.points.now a.pairs.now h.2.0 h.2.2 a.blockers.now h.2.1 a.lesser.now _ a.greater.now _ c.list_open.result c.list_open.ensures)
