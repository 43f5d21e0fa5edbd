use Prim.Native.Nat.{◌/◌, ◌<◌, zero-le}
use native.Mathlib.Omega.{arith}
use mathlib.Core.Path.{◌≡◌, ◌∙◌, refl}
use lib.ListN.{length}
use Rattle.std.specs.Slice.Iter.{chunks_exact_rest}
use Rattle.model.proofs.RunLaws.{batch_ascends}
use Rattle.limits.specs.Batches.{entries}
use Rattle.limits.proofs.EntryLaws.{entries_length}
use Rattle.batches.proofs.ListingLaws.{Looked, bit_is, listing_start, listing_more, listing_same, listing_end}
use Rattle.batches.proofs.batch.confirm.Goals as goal
use Rattle.batches.proofs.batch.confirm.Goals.{then-out-batch-via-else-out-batch+then-full-batch, then-out-batch-via-then-out-batch}

pub returns-then-out-batch : goal.returns-then-out-batch
returns-then-out-batch c =
    let a = c.args in
    let e : length (entries a.batch.now) ≡ length a.batch.now / 3 = entries_length a.batch.now in (
      λ asc u o ho hf. absurd (elim c.then-out-batch.branch [ then-out-batch-via-then-out-batch w ↦ omega (arith, w.if-out-batch.true) | then-out-batch-via-else-out-batch+then-full-batch w ↦ omega (arith, w.if-full-batch.true) ]),
      λ h. record { count = refl; cells = refl; numbers = refl },
      λ h. record { count = refl; cells = refl; numbers = refl },
      zero-le,
    )

pub loop-numbers-init : goal.loop-numbers-init
loop-numbers-init c =
    let a = c.args in
    let e = c.chunks_exact-numbers-items.ensures in
    rw c.into_iter-numbers-iterator.ensures.into_iter_gives (e.size, rw e.rest (listing_start a.cells.now a.batch.now a.out.now a.full.now))

-- what was looked up of the entry is listed, or passed over
pub loop-numbers-preserved : goal.loop-numbers-preserved
loop-numbers-preserved c =
    let v = c.loop-numbers.invariant in
    let s = c.in-Some.ensures.steps in
    let e : Looked c.args.cells.now (chunks_exact_rest c.loop-numbers.numbers-iterator) c.in-Some.numbers.now (chunks_exact_rest c.next.new.self) c.entry-k.result.0 c.entry-k.result.1 c.alters.result =
    record { there = s.1.0; three = s.1.1 ∙ v.0; is_key = c.entry-k.ensures.0; full = c.entry-k.ensures.1; alters = c.alters.ensures } in
    (s.0 ∙ v.0, listing_same e v.1 c.if-alters.false)

pub loop-numbers-preserved-then-alters : goal.loop-numbers-preserved-then-alters
loop-numbers-preserved-then-alters c =
    let v = c.loop-numbers.invariant in
    let s = c.in-Some.ensures.steps in
    let e : Looked c.args.cells.now (chunks_exact_rest c.loop-numbers.numbers-iterator) c.in-Some.numbers.now (chunks_exact_rest c.next.new.self) c.entry-k.result.0 c.entry-k.result.1 c.alters.result =
    record { there = s.1.0; three = s.1.1 ∙ v.0; is_key = c.entry-k.ensures.0; full = c.entry-k.ensures.1; alters = c.alters.ensures } in
    (s.0 ∙ v.0, rw (c.from.ensures, bit_is c.entry-k.result.1) (listing_more e v.1 c.if-out-batch.false c.if-full-batch.false c.if-alters.true))

pub returns : goal.returns
returns c =
    let b = c.args.batch.now in
    let v = c.loop-numbers.invariant in
    let n : length (entries b) ≡ length b / 3 = entries_length b in
    let h : length (chunks_exact_rest c.loop-numbers.numbers-iterator) < 3 = rw (← v.0) c.in-None.ensures.steps.1.0 in (
      λ asc u o ho hf. listing_end v.1 h asc (batch_ascends (entries b) u o),
      λ h. absurd (omega (arith, c.if-out-batch.false)),
      λ h. absurd (omega (arith, c.if-full-batch.false)),
      omega (arith, v.1.few),
    )
