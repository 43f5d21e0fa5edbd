use native.Mathlib.Omega.{arith}
use Prim.Native.Nat.{◌<◌}
use mathlib.Core.Path.{◌∙◌}
use lib.ListN.{length}
use Rattle.std.specs.Slice.Iter.{chunks_exact_rest}
use Rattle.model.proofs.RunLaws.{batch_ascends}
use Rattle.limits.specs.Batches.{entries}
use Rattle.batches.proofs.ListingLaws.{Looked, counted_start, counted_more, counted_less, counted_same, counted_end}
use Rattle.batches.proofs.batch.count_after.Goals as goal

pub loop-numbers-init : goal.loop-numbers-init
loop-numbers-init c =
    let e = c.chunks_exact-numbers-items.ensures in
    rw c.into_iter-numbers-iterator.ensures.into_iter_gives (e.size, rw e.rest (counted_start c.args.cells.now c.args.batch.now))

-- what was looked up of the entry is counted, or passed over
pub loop-numbers-preserved : goal.loop-numbers-preserved
loop-numbers-preserved c =
    let v = c.loop-numbers.invariant in
    let s = c.in-Some.ensures.steps in
    let e : Looked c.args.cells.now (chunks_exact_rest c.loop-numbers.numbers-iterator) c.in-Some.numbers.now (chunks_exact_rest c.next.new.self) c.entry-k.result.0 c.entry-k.result.1 c.alters.result =
    record { there = s.1.0; three = s.1.1 ∙ v.0; is_key = c.entry-k.ensures.0; full = c.entry-k.ensures.1; alters = c.alters.ensures } in
    (s.0 ∙ v.0, counted_same e v.1 c.if-alters.false)

pub loop-numbers-preserved-then-full : goal.loop-numbers-preserved-then-full
loop-numbers-preserved-then-full c =
    let v = c.loop-numbers.invariant in
    let s = c.in-Some.ensures.steps in
    let e : Looked c.args.cells.now (chunks_exact_rest c.loop-numbers.numbers-iterator) c.in-Some.numbers.now (chunks_exact_rest c.next.new.self) c.entry-k.result.0 c.entry-k.result.1 c.alters.result =
    record { there = s.1.0; three = s.1.1 ∙ v.0; is_key = c.entry-k.ensures.0; full = c.entry-k.ensures.1; alters = c.alters.ensures } in
    (s.0 ∙ v.0, counted_more e v.1 c.if-alters.true c.if-full.true)

pub loop-numbers-preserved-else-full : goal.loop-numbers-preserved-else-full
loop-numbers-preserved-else-full c =
    let v = c.loop-numbers.invariant in
    let s = c.in-Some.ensures.steps in
    let e : Looked c.args.cells.now (chunks_exact_rest c.loop-numbers.numbers-iterator) c.in-Some.numbers.now (chunks_exact_rest c.next.new.self) c.entry-k.result.0 c.entry-k.result.1 c.alters.result =
    record { there = s.1.0; three = s.1.1 ∙ v.0; is_key = c.entry-k.ensures.0; full = c.entry-k.ensures.1; alters = c.alters.ensures } in
    (s.0 ∙ v.0, counted_less e v.1 c.if-alters.true c.if-full.false)

pub returns : goal.returns
returns c =
    let b = c.args.batch.now in
    let v = c.loop-numbers.invariant in
    let h : length (chunks_exact_rest c.loop-numbers.numbers-iterator) < 3 = rw (← v.0) c.in-None.ensures.steps.1.0 in
    λ asc u o. omega (arith, c.saturating_sub.ensures, counted_end v.1 h asc (batch_ascends (entries b) u o))
