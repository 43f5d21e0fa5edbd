use Rattle.std.specs.Slice.Iter.{iter_rest}
use Rattle.std.specs.Iterator.Adapters.{zip_first, zip_second}
use Rattle.batches.proofs.WriteLaws.{Writing}
use Rattle.batches.proofs.batch.write.Given as goal

-- `batch::write`: what is written, and the listed changes that are left. Assumes nothing.
abbrev pub invariant-loop-k : goal.invariant-loop-k
invariant-loop-k l = Writing l.on (iter_rest (zip_first l.k-iterator)) (iter_rest (zip_second l.k-iterator)) l.changes.cells.now l.changes.full.now l.initial.cells l.n l.cells l.used
