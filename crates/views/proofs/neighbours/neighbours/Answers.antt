use Prim.Native.Nat.{ℕ}
use mathlib.Core.Path.{◌≡◌, refl, sym}
use Rattle.answers.proofs.ListingLaws.{listing_refused}
use Rattle.answers.proofs.PassedLaws.{asked_as, said}
use Rattle.views.specs.Seen.{beside_lengths as lengths, refusal}
use Rattle.views.proofs.NeighbourLaws.{Going, around_fits, cells_used, steps_listed, taken_listed}
use Rattle.views.proofs.neighbours.neighbours.Goals as goal
use Rattle.views.proofs.neighbours.neighbours.Goals.{After-refuse, In_ok-refuse}

-- n is what the tests say
number : (e : After-refuse) {n : ℕ} → n ≡ said e.is_short-short.result e.args.map e.off_edge.result.word → let a = e.args in n ≡ refusal a.map (lengths a.cells.now a.out.now) a.cell.x a.cell.y
number e f = asked_as _ _ _ e.args.map _ _ f e.is_short-short.ensures e.off_edge.ensures

-- nothing is refused
going : (e : In_ok-refuse) → let a = e.args in Going a.map a.cells.now a.out.now a.cell.x a.cell.y
going e = record { pass = sym (number (goal.at.In_ok-refuse e).After-refuse e.in_ok-refuse.ensures) }

pub returns-in_err-refuse : goal.returns-in_err-refuse
returns-in_err-refuse c =
    listing_refused _ _ _ c.from_residual.result _ c.from_residual.ensures.1 (number (goal.at.returns-in_err-refuse c).After-refuse c.in_err-refuse.ensures) (refl, tt)

pub slice_bounds-ground-end : goal.slice_bounds-ground-end
slice_bounds-ground-end c = sym (cells_used (going (goal.at.slice_bounds-ground-end c).In_ok-refuse))

pub returns-then-square_at-ne0 : goal.returns-then-square_at-ne0
returns-then-square_at-ne0 c =
    taken_listed (going (goal.at.returns-then-square_at-ne0 c).In_ok-refuse) c.key-k.result c.key-k.ensures c.square_at.result c.square_at.ensures c.if-square_at-ne0.true

pub write_steps-requires : goal.write_steps-requires
write_steps-requires c = around_fits (going (goal.at.write_steps-requires c).In_ok-refuse) c.key-k.result c.key-k.ensures

pub returns : goal.returns
returns c =
    steps_listed (going (goal.at.returns c).In_ok-refuse) c.key-k.result c.key-k.ensures
    c.square_at.result c.square_at.ensures c.write_steps.new.out c.write_steps.result c.if-square_at-ne0.false c.write_steps.ensures
