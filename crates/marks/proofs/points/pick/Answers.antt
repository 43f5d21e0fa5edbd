use Rattle.std.proofs.Common.{inl, inr, length-append}
use Rattle.std.proofs.lemmas.Slice.Zip.{zip_turn}
use Rattle.marks.proofs.EndingLaws.{picked_none, picked_more, picked_pass, picked_full}
use Rattle.marks.proofs.points.pick.Goals as goal
use Rattle.marks.proofs.points.pick.Goals.{else-word-ne0-via-then-word-ne0+then-n-out+else-n-told, else-word-ne0-via-then-word-ne0+else-n-out, else-word-ne0-via-else-word-ne0}

pub loop-k-init : goal.loop-k-init
loop-k-init c =
    let a = c.args in
    picked_none a.candidates.now a.moods.now a.out.now a.told.now

pub loop-k-preserved-then-n-told : goal.loop-k-preserved-then-n-told
loop-k-preserved-then-n-told c =
    let l = c.loop-k in
    let a = c.args in
    let x = c.in-Some in
    let t = zip_turn a.candidates.now a.moods.now l.yielded c.into_iter-k-iterator.result l.k-iterator c.next.new.self c.next.result (cc) (cc) l.yielded_by (x.k, x.word) x.is c.next.ensures.steps in
    rw (length-append, t.2 0, t.3 0)
    (picked_more a.candidates.now a.moods.now a.out.now l.out a.told.now l.told l.n _ l.invariant t.1 (rw (t.3 0) at c.if-word-ne0.true) c.if-n-out.true c.if-n-told.true)

pub loop-k-preserved : goal.loop-k-preserved
loop-k-preserved c =
    let l = c.loop-k in
    let a = c.args in
    let x = c.in-Some in
    let t = zip_turn a.candidates.now a.moods.now l.yielded c.into_iter-k-iterator.result l.k-iterator c.next.new.self c.next.result (cc) (cc) l.yielded_by (x.k, x.word) x.is c.next.ensures.steps in
    let full = picked_full a.candidates.now a.moods.now a.out.now l.out a.told.now l.told l.n _ l.invariant t.1 in
    rw length-append (elim c.else-word-ne0.branch [
      | else-word-ne0-via-then-word-ne0+then-n-out+else-n-told w ↦ full (rw (t.3 0) at w.if-word-ne0.true) (inr w.if-n-told.false)
      | else-word-ne0-via-then-word-ne0+else-n-out w ↦ full (rw (t.3 0) at w.if-word-ne0.true) (inl w.if-n-out.false)
      | else-word-ne0-via-else-word-ne0 w ↦ picked_pass a.candidates.now a.moods.now a.out.now l.out a.told.now l.told l.n _ l.invariant t.1 (rw (t.3 0) at w.if-word-ne0.false)
    ])
