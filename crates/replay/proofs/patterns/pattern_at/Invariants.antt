-- `patterns::pattern_at`: what the digits not yet read make of the number so far stays the pattern.
use Rattle.std.proofs.Common.{◌≡◌, drop}
use Rattle.replay.specs.Patterns.{hex, pattern_at}
use Rattle.replay.proofs.patterns.pattern_at.Given as goal

abbrev pub invariant-loop-b : goal.invariant-loop-b
invariant-loop-b l = hex l.v (drop l.b-index l.b-items) ≡ pattern_at l.line l.from
