use mathlib.Core.Path.{◌≡◌}
use mathlib.Core.List.{map}
use lib.ListN.{drop}
use Rattle.model.specs.Refusal.{order}
use Rattle.limits.specs.Refusals.{number}
use Rattle.limits.specs.Words.{first_on}
use Rattle.limits.proofs.dues.Due.first_of.Given as goal

-- `Due::first_of`: what is said of the whole order is said of the refusals that are left. Assumes nothing.
abbrev pub invariant-loop-refusal : goal.invariant-loop-refusal
invariant-loop-refusal l = first_on order l.self.word ≡ first_on (map number (drop l.refusal-index l.refusal-items)) l.self.word
