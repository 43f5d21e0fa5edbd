use mathlib.Core.Logic.{inl, inr, ⊎_elim}
use Rattle.batches.proofs.WriteLaws.{remove_writes, insert_writes, means_is, means_not, writing_same, writing_more, writing_end}
use Rattle.batches.proofs.batch.write.Goals as goal

pub loop-k-preserved-then-on : goal.loop-k-preserved-then-on
loop-k-preserved-then-on c =
    let s = c.in-Some.ensures.steps in
    let l = c.loop-k in
    let i = c.insert-used in
    writing_more (rw (s.0, s.1) at l.invariant) i.new.t i.result (means_is c.in-Some.field-0-1.now c.args.on c.if-full-on.true) i.auto.t
    (λ T h. rw c.if-on.true (insert_writes l.cells l.used c.in-Some.field-0-0.now i.new.t i.result i.ensures T (h c.if-on.true)))

pub loop-k-preserved-else-on : goal.loop-k-preserved-else-on
loop-k-preserved-else-on c =
    let s = c.in-Some.ensures.steps in
    let l = c.loop-k in
    let o = c.remove-used in
    writing_more (rw (s.0, s.1) at l.invariant) o.new.t o.result (means_is c.in-Some.field-0-1.now c.args.on c.if-full-on.true) o.auto.t
    (λ T h. rw c.if-on.false (remove_writes l.cells l.used c.in-Some.field-0-0.now o.new.t o.result o.ensures T))

pub loop-k-preserved : goal.loop-k-preserved
loop-k-preserved c =
    let s = c.in-Some.ensures.steps in
    writing_same (rw (s.0, s.1) at c.loop-k.invariant) (means_not c.in-Some.field-0-1.now c.args.on c.if-full-on.false)

pub returns : goal.returns
returns c = writing_end c.loop-k.invariant (⊎_elim (λ u. inl u.1.0) (λ u. inr u.1.0) c.in-None.ensures.steps)
