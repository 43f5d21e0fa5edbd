use mathlib.Core.Path.{refl}
use lib.Ieee.{of_bits, odd, neg}
use Rattle.question.proofs.NumberLaws.{number_test}
use Rattle.question.proofs.judge.bad_number.Goals as goal
use Rattle.question.proofs.judge.bad_number.Goals.{then-z, else-z}

-- `judge::bad_number` is two comparisons. Assumes nothing.
pub returns : goal.returns
unfolding of_bits odd neg
returns c = rw (number_test c.args.z) (elim c.if-z.branch [ then-z w ↦ rw (w.result-is, w.if-z.true) refl | else-z w ↦ rw (w.result-is, w.if-z.false) refl ])
