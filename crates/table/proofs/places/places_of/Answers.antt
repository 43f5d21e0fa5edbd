use Prim.Native.Nat.{ℕ}
use native.Mathlib.Omega.{arith}
use lib.ListN.{get_or-replicate}
use Rattle.table.proofs.SearchLaws.{placed_none}
use Rattle.table.proofs.places.places_of.Goals as goal
use Rattle.table.proofs.places.places_of.Goals.{then-t-eq0-via-then-t-eq0, then-t-eq0-via-else-t-eq0+then-low-ge-NO_FIFTH}

-- `places::places_of`: in an empty table every place is the first. Assumes nothing.
pub returns-then-t-eq0 : goal.returns-then-t-eq0
returns-then-t-eq0 c =
    λ h i b.
    elim c.then-t-eq0.branch [
      | then-t-eq0-via-then-t-eq0 w ↦ rw (get_or-replicate {A = ℕ} 5 i 0 0 b) (placed_none c.args.t.now w.if-t-eq0.true _)
      | then-t-eq0-via-else-t-eq0+then-low-ge-NO_FIFTH w ↦ absurd (omega (arith, h, w.if-low-ge-NO_FIFTH.true))
    ]

pub places_from-requires : goal.places_from-requires
places_from-requires c = (omega (arith, c.if-low-ge-NO_FIFTH.false), omega (arith, c.if-t-eq0.false))

pub returns : goal.returns
returns c = λ h. c.places_from.ensures
