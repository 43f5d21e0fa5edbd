use mathlib.Core.Path.{◌≡◌}
use Rattle.std.specs.Slice.Iter.{chunks_exact_rest, chunks_exact_size}
use Rattle.batches.proofs.ListingLaws.{Listing}
use Rattle.batches.proofs.batch.confirm.Given as goal

-- `batch::confirm`: what is listed, and the entries that are left. Assumes nothing.
abbrev pub invariant-loop-numbers : goal.invariant-loop-numbers
invariant-loop-numbers l = (chunks_exact_size l.numbers-iterator ≡ 3) × Listing l.cells l.batch l.initial.out l.initial.full (chunks_exact_rest l.numbers-iterator) l.n l.out l.full
