use Prim.Native.Nat.{◌<◌}
use native.Mathlib.Omega.{arith}
use mathlib.Core.Path.{◌≡◌, refl, sym, ap, ◌∙◌}
use mathlib.Core.Logic.{⊎_elim}
use mathlib.Core.Bool.{◌&&◌, ◌||◌}
use lib.ListN.{drop, length, length-drop}
use lib.Signed.{le_z, lt_z}
use borrow.Author.Rules.{rules}
use Rattle.table.proofs.Parts.{tail_is}
use Rattle.std.specs.Slice.Iter.{chunks_exact_rest}
use Rattle.std.specs.Iterator.Adapters.{zip_first}
use Rattle.limits.proofs.EntryLaws.{chunk_off, item, unsorted_next, unsorted_end}
use Rattle.limits.proofs.judge.unsorted.Goals as goal

pub returns-then-batch-lt3 : goal.returns-then-batch-lt3
returns-then-batch-lt3 c = sym (unsorted_end c.args.batch.now (omega arith))

pub loop-a-init : goal.loop-a-init
loop-a-init c =
    let i = c.into_iter-a-iterator.ensures.into_iter_gives in
    let z = c.zip-a-items.ensures in
    let a = c.chunks_exact.ensures in
    let b = c.chunks_exact-2.ensures in
    rw (i, z.first, z.second) (a.size, b.size, b.rest ∙ tail_is 3 c.args.batch.now ∙ ap (drop 3) (sym a.rest), rw a.rest refl)

pub returns-then-not-before : goal.returns-then-not-before
returns-then-not-before c =
    let v = c.loop-a.invariant in
    let s = c.in-Some.ensures.steps in
    let l = chunks_exact_rest (zip_first c.loop-a.a-iterator) in
    let x = c.in-Some.a.now in
    let y = c.in-Some.b.now in
    let test : c.before-in-loop-a.result ≡ lt_z (item x 0) (item y 0) || (le_z (item x 0) (item y 0) && lt_z (item x 1) (item y 1)) = search rules in
    let n = s.0.1.1 ∙ v.0 in
    let more = chunk_off l x _ s.0.1.0 n ∙ sym v.2 ∙ s.1.1.0 in
    sym (v.3 ∙ unsorted_next l x _ y _ c.before-in-loop-a.result s.0.1.0 n more (s.1.1.1 ∙ v.1) test ∙ rw c.if-not-before.true refl)

pub loop-a-preserved : goal.loop-a-preserved
loop-a-preserved c =
    let v = c.loop-a.invariant in
    let s = c.in-Some.ensures.steps in
    let l = chunks_exact_rest (zip_first c.loop-a.a-iterator) in
    let r = chunks_exact_rest (zip_first c.next.new.self) in
    let x = c.in-Some.a.now in
    let y = c.in-Some.b.now in
    let test : c.before-in-loop-a.result ≡ lt_z (item x 0) (item y 0) || (le_z (item x 0) (item y 0) && lt_z (item x 1) (item y 1)) = search rules in
    let n = s.0.1.1 ∙ v.0 in
    let m = s.1.1.1 ∙ v.1 in
    let more = chunk_off l x _ s.0.1.0 n ∙ sym v.2 ∙ s.1.1.0 in (
      s.0.0 ∙ v.0,
      s.1.0 ∙ v.1,
      chunk_off r y _ more m,
      v.3 ∙ unsorted_next l x _ y _ c.before-in-loop-a.result s.0.1.0 n more m test ∙ rw c.if-not-before.false refl,
    )

pub returns : goal.returns
returns c =
    let v = c.loop-a.invariant in
    let l = chunks_exact_rest (zip_first c.loop-a.a-iterator) in
    let short : length l < 6 =
    ⊎_elim
    (λ u. let h : length l < 3 = rw (← v.0) u.1.1.0 in omega arith)
    (λ u. let h : length (drop 3 l) < 3 = rw (v.1, v.2) at u.1.1.0 in omega (arith, length-drop 3 l))
    c.in-None.ensures.steps in
    sym (v.3 ∙ unsorted_end l short)
