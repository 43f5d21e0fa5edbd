use native.Mathlib.Omega.{arith}
use Prim.Native.Nat.{ℕ, ◌+◌, ◌-◌, ◌≤◌, ◌<◌}
use mathlib.Core.Path.{ap, ◌∙◌}
use lib.ListN.{length, drop, get_or}
use Rattle.table.proofs.AllLaws.{asc_l_take, asc_l_drop}
use Rattle.table.proofs.DoublingLaws.{doubled_none, doubled_more, doubled_ends, doubled_out}
use Rattle.table.proofs.column.place_from.Goals as goal
use Rattle.table.proofs.column.place_from.Goals.{else-loop-n-test, then-loop-n-test+else-t-n}

pub loop-n-init : goal.loop-n-init
loop-n-init c = doubled_none c.args.k c.args.t.now

pub loop-n-preserved : goal.loop-n-preserved
loop-n-preserved c =
    let a = c.args in
    doubled_more a.k a.t.now c.loop-n.at c.loop-n.n c.loop-n.invariant c.loop-n-test.true c.if-t-n.true

pub returns-then-n-t : goal.returns-then-n-t
returns-then-n-t c =
    let a = c.args in
    let l = a.t.now in
    let h : c.loop-n.n < length l = c.if-n-t.true in
    let stop : a.k ≤ get_or l c.loop-n.n 0 = elim c.loop-n-test.branch [ then-loop-n-test+else-t-n w ↦ w.if-t-n.false | else-loop-n-test w ↦ absurd (omega (arith, w.loop-n-test.false, h)) ] in
    (omega arith, λ asc. ap (λ (r : ℕ). c.loop-n.at + r) (c.place.ensures.1 (asc_l_take 0 (c.loop-n.n - c.loop-n.at) (drop c.loop-n.at l) (asc_l_drop 0 c.loop-n.at l asc))) ∙ doubled_ends a.k l c.loop-n.at c.loop-n.n c.loop-n.invariant h stop asc)

pub returns : goal.returns
returns c =
    let a = c.args in
    let l = a.t.now in
    (omega arith, λ asc. ap (λ (r : ℕ). c.loop-n.at + r) (c.place-2.ensures.1 (asc_l_take 0 (length l - c.loop-n.at) (drop c.loop-n.at l) (asc_l_drop 0 c.loop-n.at l asc))) ∙ doubled_out a.k l c.loop-n.at c.loop-n.n c.loop-n.invariant asc)
