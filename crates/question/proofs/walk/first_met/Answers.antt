use native.Mathlib.Omega.{arith}
use mathlib.Core.Path.{refl, sym, ap, ◌∙◌}
use Rattle.question.specs.Walk.{keyed, round, row_taken}
use Rattle.question.proofs.WalkLaws.{find_past, row_fails, row_passes, row_past}
use Rattle.question.proofs.walk.first_met.Goals as goal

pub loop-k-init : goal.loop-k-init
loop-k-init c = λ b. refl

pub returns-then-high-k : goal.returns-then-high-k
returns-then-high-k c =
    let s = c.args in
    λ x b a o. c.nothing.ensures ∙ ap keyed (row_past s.high (round b s.circle) s.rows.now c.loop-k.k-index (omega arith) x a o (omega arith) (c.loop-k.invariant b))

pub returns-then-meets : goal.returns-then-meets
returns-then-meets c =
    let s = c.args in
    λ x b a o. ap keyed (row_passes s.high (round b s.circle) s.rows.now c.loop-k.k-index (omega arith) (omega arith) (sym c.meets.ensures ∙ c.if-meets.true) (c.loop-k.invariant b))

pub loop-k-preserved : goal.loop-k-preserved
loop-k-preserved c =
    let s = c.args in
    λ b. row_fails s.high (round b s.circle) s.rows.now c.loop-k.k-index (omega arith) (sym c.meets.ensures ∙ c.if-meets.false) (c.loop-k.invariant b)

pub returns : goal.returns
returns c =
    let s = c.args in
    λ x b a o. c.nothing-2.ensures ∙ ap keyed (sym (c.loop-k.invariant b ∙ find_past (row_taken s.high (round b s.circle)) s.rows.now c.loop-k.k-index (omega arith)))
