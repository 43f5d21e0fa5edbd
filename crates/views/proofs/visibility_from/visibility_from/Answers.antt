use Prim.Native.Nat.{ℕ, ◌+◌, ◌*◌, ◌<◌, ◌≤◌}
use native.Mathlib.Omega.{arith}
use mathlib.Core.Path.{◌≡◌, refl, sym, ◌∙◌}
use mathlib.Core.List.{List, [], ◌∷◌}
use lib.ListN.{length}
use Rattle.answers.proofs.ListingLaws.{listing_refused}
use Rattle.answers.proofs.PassedLaws.{asked_as, others_short, said, short_one, some_short}
use Rattle.held.specs.Holds.{Tables, needs}
use Rattle.held.specs.Lent.{viewed}
use Rattle.model.specs.Limits.{need_others}
use Rattle.model.specs.Refusal.{short}
use Rattle.views.specs.Seen.{refusal, sight_lengths as lengths}
use Rattle.views.proofs.VisibilityLaws.{Going, blockers_used, cells_used, paired_fits, paired_listed, points_used, row_inside, seen_fits, seen_listed, statuses_used}
use Rattle.views.proofs.visibility_from.visibility_from.Goals as goal
use Rattle.views.proofs.visibility_from.visibility_from.Goals.{After-refuse, In_ok-refuse, Then-stands_at, else-is_short, then-is_short}

-- the tables that are lent
abbrev lent : After-refuse → Tables
lent e = viewed e.args.tables

-- whether one of them is short of its need, or the output is
tested : (e : After-refuse) → e.if-is_short.short ≡ short (lengths (lent e) e.args.out.now)
tested e =
    let s = e.is_short in
    let o : List (ℕ × ℕ) = (length e.args.out.now, need_others) ∷ [] in
    elim e.if-is_short.branch [
      | then-is_short w ↦ w.short-is ∙ some_short (needs (lent e)) o s.result s.ensures w.if-is_short.true
      | else-is_short w ↦ w.short-is ∙ others_short (needs (lent e)) o s.result s.ensures _ w.if-is_short.false (short_one _ _)
    ]

-- n is what the tests say
number : (e : After-refuse) {n : ℕ} → n ≡ said e.if-is_short.short e.args.map e.off_edge.result.word → let a = e.args in n ≡ refusal a.map (lengths (lent e) a.out.now) a.cell.x a.cell.y
number e f = asked_as _ _ _ e.args.map _ _ f (tested e) e.off_edge.ensures

-- nothing is refused
going : (e : In_ok-refuse) → let a = e.args in Going a.map (lent (goal.at.In_ok-refuse e).After-refuse) a.out.now a.cell.x a.cell.y
going e = record { pass = sym (number (goal.at.In_ok-refuse e).After-refuse e.in_ok-refuse.ensures) }

-- the point's row is inside the pairs
row : (e : Then-stands_at) → let at = e.place-at.result in (at < 64) × (e.args.map.points ≤ 64) × (64 * at + e.args.map.points ≤ length e.args.tables.pairs.now)
row e = row_inside (going (goal.at.Then-stands_at e).In_ok-refuse) e.key-k.result e.place-at.result (sym e.stands_at.ensures ∙ e.if-stands_at.true)

pub returns-in_err-refuse : goal.returns-in_err-refuse
returns-in_err-refuse c =
    listing_refused _ _ _ c.from_residual.result _ c.from_residual.ensures.1 (number (goal.at.returns-in_err-refuse c).After-refuse c.in_err-refuse.ensures) (refl, tt)

pub slice_bounds-points-end : goal.slice_bounds-points-end
slice_bounds-points-end c = sym (points_used (going (goal.at.slice_bounds-points-end c).In_ok-refuse))

pub overflow_mul-row : goal.overflow_mul-row
overflow_mul-row c = omega (arith, row (goal.at.overflow_mul-row c).Then-stands_at)

pub overflow_mul-row-then-stands_at : goal.overflow_mul-row-then-stands_at
overflow_mul-row-then-stands_at c = omega (arith, row (goal.at.overflow_mul-row-then-stands_at c).Then-stands_at)

pub overflow_add-row : goal.overflow_add-row
overflow_add-row c = omega (arith, row (goal.at.overflow_add-row c).Then-stands_at)

pub offset_bounds-tables-at : goal.offset_bounds-tables-at
offset_bounds-tables-at c = omega (arith, row (goal.at.offset_bounds-tables-at c).Then-stands_at)

pub slice_bounds-row-end : goal.slice_bounds-row-end
slice_bounds-row-end c = (row (goal.at.slice_bounds-row-end c).Then-stands_at).2

pub write_paired-requires : goal.write_paired-requires
write_paired-requires c = paired_fits (going (goal.at.write_paired-requires c).In_ok-refuse) c.key-k.result c.place-at.result (sym c.stands_at.ensures ∙ c.if-stands_at.true)

pub returns-then-stands_at : goal.returns-then-stands_at
returns-then-stands_at c = paired_listed (going (goal.at.returns-then-stands_at c).In_ok-refuse) c.key-k.result c.key-k.ensures c.place-at.result c.place-at.ensures.1 c.write_paired.new.out c.write_paired.result (sym c.stands_at.ensures ∙ c.if-stands_at.true) c.write_paired.ensures

pub slice_bounds-ground-end : goal.slice_bounds-ground-end
slice_bounds-ground-end c = sym (cells_used (going (goal.at.slice_bounds-ground-end c).In_ok-refuse))

pub slice_bounds-write_seen-end : goal.slice_bounds-write_seen-end
slice_bounds-write_seen-end c = sym (statuses_used (going (goal.at.slice_bounds-write_seen-end c).In_ok-refuse))

pub slice_bounds-write_seen-end-2 : goal.slice_bounds-write_seen-end-2
slice_bounds-write_seen-end-2 c = sym (blockers_used (going (goal.at.slice_bounds-write_seen-end-2 c).In_ok-refuse))

pub write_seen-found-requires : goal.write_seen-found-requires
write_seen-found-requires c = seen_fits (going (goal.at.write_seen-found-requires c).In_ok-refuse)

pub returns : goal.returns
returns c = seen_listed (going (goal.at.returns c).In_ok-refuse) c.key-k.result c.key-k.ensures c.place-at.result c.place-at.ensures.1 c.write_seen-found.new.out c.write_seen-found.result (sym c.stands_at.ensures ∙ c.if-stands_at.false) c.write_seen-found.ensures
