-- `map::list_map`: the refusal that is due, or the counts, the points and the pairs one after another (MapLaws.antt).
use Rattle.std.proofs.Common.{◌≡◌, ℕ, ◌≤◌, false, [], ◌∷◌, List, length, replicate, sym, refl, ◌∙◌, le_refl, length-take-le, arith}
use Rattle.std.proofs.lemmas.List.{length-replicate}
use Rattle.answers.proofs.ListingLaws.{listing_done, listing_refused}
use Rattle.limits.proofs.RefusalLaws.{number_some}
use Rattle.answers.proofs.PassedLaws.{accepted, list_as, others_short, said, short_one, some_short}
use Rattle.answers.specs.Asking.{refuse_map}
use Rattle.answers.specs.Walks.{table_needs}
use Rattle.held.specs.Pairs.{pair_places}
use Rattle.held.proofs.RoomLaws.{Enough}
use Rattle.held.specs.Holds.{Tables, needs}
use Rattle.held.specs.Lent.{viewed}
use Rattle.model.specs.Limits.{max_cells, max_points, need_listing, need_pairs}
use Rattle.model.specs.Refusal.{short}
use Rattle.report.specs.Reported.{map_due}
use Rattle.report.proofs.CallLaws.{call_accepted, held_as, map_accepted, not_both, told_is}
use Rattle.report.proofs.MapLaws.{all_few, map_written}
use Rattle.report.proofs.map.list_map.Goals as goal
use Rattle.report.proofs.map.list_map.Goals.{After-refuse, In_ok-refuse, else-is_short, then-is_short}

-- what is lent, with its needs
abbrev tables : After-refuse → Tables
tables e = viewed e.args.tables

abbrev lent : After-refuse → List (ℕ × ℕ)
lent e = let t = tables e in table_needs (length t.cells) (length t.points) (length t.statuses) (length t.blockers) (length t.pairs) ((length e.args.out.now, need_listing) ∷ [])

-- whether a table is short of its need, or the output is
tested : (e : After-refuse) → e.if-is_short.short ≡ short (lent e)
tested e =
    let s = e.is_short in
    let o : List (ℕ × ℕ) = (length e.args.out.now, need_listing) ∷ [] in
    elim e.if-is_short.branch [
      | then-is_short w ↦ w.short-is ∙ some_short (needs (tables e)) o s.result s.ensures w.if-is_short.true
      | else-is_short w ↦ w.short-is ∙ others_short (needs (tables e)) o s.result s.ensures _ w.if-is_short.false (short_one _ _)
    ]

-- n is what the tests say
due : (e : After-refuse) {n : ℕ} → n ≡ said e.if-is_short.short e.args.map e.none.result.word → let t = tables e in n ≡ map_due e.args.map t.cells t.points t.statuses t.blockers t.pairs e.args.out.now
due e f = list_as _ _ _ e.args.map _ f (tested e) e.none.ensures

-- nothing is refused: each table has its need
going : (e : In_ok-refuse) → Enough (lent (goal.at.In_ok-refuse e).After-refuse) × (e.args.map.cells ≤ max_cells) × (e.args.map.points ≤ max_points)
going e = let r = (goal.at.In_ok-refuse e).After-refuse in accepted (lent r) e.args.map [] 0 (due r e.in_ok-refuse.ensures) refl

pub returns-in_err-refuse : goal.returns-in_err-refuse
returns-in_err-refuse c = listing_refused _ _ _ c.from_residual.result _ c.from_residual.ensures.1 (due (goal.at.returns-in_err-refuse c).After-refuse c.in_err-refuse.ensures) (refl, tt)

-- whatever is called with enough is accepted too
clear : (e : In_ok-refuse) → refuse_map false e.args.map [] ≡ 0
clear e = let r = (goal.at.In_ok-refuse e).After-refuse in map_accepted (lent r) e.args.map (sym (due r e.in_ok-refuse.ensures))

pairs_due : (e : In_ok-refuse) → let t = tables (goal.at.In_ok-refuse e).After-refuse in
    refuse_map (short ((length t.points, max_points) ∷ (length t.pairs, pair_places) ∷ (need_pairs, need_pairs) ∷ (need_pairs, need_pairs) ∷ (need_pairs, need_pairs) ∷ [])) e.args.map [] ≡ 0
pairs_due e = let p = (going e).0 in call_accepted _ e.args.map (clear e) (p.1.0, (p.1.1.1.1.0, (le_refl need_pairs, (le_refl need_pairs, (le_refl need_pairs, tt)))))

counts_due : (e : In_ok-refuse) → refuse_map (short (needs (viewed e.args.tables))) e.args.map [] ≡ 0
counts_due e = let p = (going e).0 in call_accepted _ e.args.map (clear e) (p.0, (p.1.0, (p.1.1.0, (p.1.1.1.0, (p.1.1.1.1.0, tt)))))

pub returns-in_err-found : goal.returns-in_err-found
returns-in_err-found c = absurd (number_some c.in_err-found.field-0.0 (c.in_err-found.ensures.refusal ∙ pairs_due (goal.at.returns-in_err-found c).In_ok-refuse))

pub count_all-requires : goal.count_all-requires
count_all-requires c = let p = going (goal.at.count_all-requires c).In_ok-refuse in (p.1, p.0.0)

pub returns-in_err-counts : goal.returns-in_err-counts
returns-in_err-counts c = absurd (not_both (c.in_err-counts.ensures (counts_due (goal.at.returns-in_err-counts c).In_ok-refuse)).1)

pub slice_bounds-put_points-end : goal.slice_bounds-put_points-end
slice_bounds-put_points-end c = let p = going (goal.at.slice_bounds-put_points-end c).In_ok-refuse in sym (length-take-le c.args.map.points c.args.tables.points.now (omega (arith, p.2, p.0.1.0)))

pub slice_bounds-put_points-end-2 : goal.slice_bounds-put_points-end-2
slice_bounds-put_points-end-2 c = let p = going (goal.at.slice_bounds-put_points-end-2 c).In_ok-refuse in sym (length-take-le c.args.map.points c.args.tables.statuses.now (omega (arith, p.2, p.0.1.1.0)))

pub slice_bounds-put_points-end-3 : goal.slice_bounds-put_points-end-3
slice_bounds-put_points-end-3 c = let p = going (goal.at.slice_bounds-put_points-end-3 c).In_ok-refuse in sym (length-take-le c.args.map.points c.args.tables.blockers.now (omega (arith, p.2, p.0.1.1.1.0)))

pub returns : goal.returns
returns c =
    let a = c.args in
    let g = (goal.at.returns c).In_ok-refuse in
    let f = c.in_ok-found in
    let edges : ℕ = c.min-edges.result in
    let zeros : List ℕ = replicate need_pairs 0 in
    let long : length zeros ≡ need_pairs = length-replicate {A = ℕ} need_pairs 0 in
    let t = viewed a.tables in
    listing_done _ _ _ _ (due (goal.at.In_ok-refuse g).After-refuse c.in_ok-refuse.ensures)
    (λ M h.
    let held = held_as h in
    let ends = f.ensures.answer M (t, held, (refl, refl)) (pairs_due g) in
    let few = all_few M f.found zeros _ _ _ long c.all_pairs.auto.lesser ends in
    let came : edges ≡ f.found = omega (arith, c.min-edges.ensures) in
    map_written a.map t M held t.points t.statuses t.blockers refl refl refl f.found edges zeros _ _ _ long c.all_pairs.auto.lesser ends came
    c.in_ok-counts.counts a.out.now _ _ _ _ _ _ (going g).0.1.1.1.1.1.0 (told_is (counts_due g) c.in_ok-counts.ensures M held) c.put_counts-a.ensures c.put_points-b.ensures c.put_pairs.ensures)
