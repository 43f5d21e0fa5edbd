use mathlib.Core.Path.{◌≡◌}
use Rattle.std.specs.Slice.Iter.{chunks_exact_rest, chunks_exact_size}
use Rattle.batches.proofs.ListingLaws.{Counted}
use Rattle.batches.proofs.batch.count_after.Given as goal

-- `batch::count_after`: so many cells more and so many less, and the entries that are left. Assumes nothing.
abbrev pub invariant-loop-numbers : goal.invariant-loop-numbers
invariant-loop-numbers l = (chunks_exact_size l.numbers-iterator ≡ 3) × Counted l.cells l.batch (chunks_exact_rest l.numbers-iterator) l.more l.less
