use mathlib.Core.Path.{◌≡◌}
use lib.ListN.{drop}
use Rattle.std.specs.Slice.Iter.{chunks_exact_rest, chunks_exact_size}
use Rattle.std.specs.Iterator.Adapters.{zip_first, zip_second}
use Rattle.model.specs.Refusal.{unsorted}
use Rattle.limits.specs.Batches.{entries}
use Rattle.limits.proofs.judge.unsorted.Given as goal

-- `judge::unsorted`: what is said of the whole is said of the entries that are left. Assumes nothing.
abbrev pub invariant-loop-a : goal.invariant-loop-a
invariant-loop-a l = (chunks_exact_size (zip_first l.a-iterator) ≡ 3) × (chunks_exact_size (zip_second l.a-iterator) ≡ 3)
    × (chunks_exact_rest (zip_second l.a-iterator) ≡ drop 3 (chunks_exact_rest (zip_first l.a-iterator)))
    × (unsorted (entries l.batch) ≡ unsorted (entries (chunks_exact_rest (zip_first l.a-iterator))))
