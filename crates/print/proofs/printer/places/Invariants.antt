use Prim.Native.Nat.{◌+◌}
use mathlib.Core.Path.{◌≡◌}
use lib.ListN.{length}
use Rattle.model.specs.Listing.{decimal}
use Rattle.print.proofs.printer.places.Given as goal

-- `printer::places`: k digits, less one, and those of the rest are n's. Assumes nothing.
abbrev pub invariant-loop-rest : goal.invariant-loop-rest
invariant-loop-rest l = length (decimal l.n) + 1 ≡ l.k + length (decimal l.rest)

abbrev pub decreases-loop-rest : goal.decreases-loop-rest
decreases-loop-rest l = l.rest
