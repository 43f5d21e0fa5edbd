use native.Mathlib.Omega.{arith}
use mathlib.Core.Path.{refl, sym, ◌∙◌}
use mathlib.Core.Bool.{true, false}
use borrow.Author.Tests.{eq-eqb, ne_eqb}
use Rattle.limits.specs.declared.refusal.Refusal.TheVariants.{CellSize}
use Rattle.limits.proofs.WordLaws.{first_end, first_next}
use Rattle.limits.proofs.dues.Due.first_of.Goals as goal

pub loop-refusal-init : goal.loop-refusal-init
loop-refusal-init c = refl

pub returns-then-self-number-eq1 : goal.returns-then-self-number-eq1
returns-then-self-number-eq1 c =
    let l = c.loop-refusal in
    sym (l.invariant ∙ first_next _ c.args.self.word l.refusal-index CellSize true c.loop-refusal-test.true (rw (← c.number.ensures) (eq-eqb _ 1 c.if-self-number-eq1.true)))

pub loop-refusal-preserved : goal.loop-refusal-preserved
loop-refusal-preserved c =
    let l = c.loop-refusal in
    l.invariant ∙ first_next _ c.args.self.word l.refusal-index CellSize false c.loop-refusal-test.true (rw (← c.number.ensures) (ne_eqb _ 1 c.if-self-number-eq1.false))

pub returns : goal.returns
returns c =
    let l = c.loop-refusal in
    sym (l.invariant ∙ first_end _ c.args.self.word l.refusal-index (omega (arith, c.loop-refusal-test.false)))
