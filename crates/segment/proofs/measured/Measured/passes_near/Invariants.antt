use Rattle.segment.proofs.NearLaws.{Open}
use Rattle.segment.proofs.measured.Measured.passes_near.Given as goal

-- `Measured::passes_near` is the near test by squares: each turn of the loop is a corner that decides nothing. Assumes nothing.
abbrev pub invariant-loop-i : goal.invariant-loop-i
invariant-loop-i l = Open l.self l.proximity l.cell l.i
