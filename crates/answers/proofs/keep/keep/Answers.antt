use native.Mathlib.Omega.{arith}
use Rattle.answers.proofs.KeepLaws.{kept_none, kept_pass, kept_put}
use Rattle.answers.proofs.keep.keep.Goals as goal
use Rattle.answers.proofs.keep.keep.Goals.{else-keeps, then-keeps}

pub loop-i-init : goal.loop-i-init
loop-i-init g c = kept_none _ c.args.entries.now c.args.out.now

pub loop-i-preserved : goal.loop-i-preserved
loop-i-preserved g c =
    let l = c.loop-i in
    let s = l.invariant in
    let more = c.loop-i-test.true in
    elim c.if-keeps.branch [ then-keeps w ↦ rw (w.out-is, w.n-is) (kept_put _ c.args.entries.now c.args.out.now l.out l.n l.i s more (rw w.if-keeps.true at c.keeps.ensures) (omega (arith, s.up, s.same, more))) | else-keeps w ↦ rw (w.out-is, w.n-is) (kept_pass _ c.args.entries.now c.args.out.now l.out l.n l.i s more (rw w.if-keeps.false at c.keeps.ensures)) ]
