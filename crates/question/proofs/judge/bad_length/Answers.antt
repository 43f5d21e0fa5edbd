use mathlib.Core.Path.{refl}
use lib.Ieee.{of_bits, odd}
use Rattle.question.proofs.NumberLaws.{length_test}
use Rattle.question.proofs.judge.bad_length.Goals as goal
use Rattle.question.proofs.judge.bad_length.Goals.{then-z, else-z}

-- `judge::bad_length` is two comparisons. Assumes nothing.
pub returns : goal.returns
unfolding of_bits odd
returns c = rw (length_test c.args.z) (elim c.if-z.branch [ then-z w ↦ rw (w.result-is, w.if-z.true) refl | else-z w ↦ rw (w.result-is, w.if-z.false) refl ])
