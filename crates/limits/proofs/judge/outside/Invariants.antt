use mathlib.Core.Path.{◌≡◌}
use Rattle.std.specs.Slice.Iter.{chunks_exact_rest, chunks_exact_size}
use Rattle.model.specs.Refusal.{outside}
use Rattle.limits.specs.Batches.{entries}
use Rattle.limits.proofs.judge.outside.Given as goal

-- `judge::outside`: what is said of the whole is said of the entries that are left. Assumes nothing.
abbrev pub invariant-loop-entry : goal.invariant-loop-entry
invariant-loop-entry l = (chunks_exact_size l.entry-iterator ≡ 3) × (outside (entries l.batch) ≡ outside (entries (chunks_exact_rest l.entry-iterator)))
