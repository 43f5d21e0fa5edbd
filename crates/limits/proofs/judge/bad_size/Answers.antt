use mathlib.Core.Path.{sym}
use lib.Ieee.{of_bits, odd}
use Rattle.limits.proofs.SizeLaws.{size_most, size_small}
use Rattle.limits.proofs.judge.bad_size.Goals as goal
use Rattle.limits.proofs.judge.bad_size.Goals.{then-size, else-size}

-- `judge::bad_size`: the two tests are the model's three. Assumes nothing.
pub returns : goal.returns
unfolding of_bits odd
returns c =
    let z = c.args.size in
    elim c.if-size.branch [ then-size w ↦ rw w.result-is (size_most z w.if-size.true) | else-size w ↦ rw (w.result-is, w.if-size.false) (sym (size_small z w.if-size.false)) ]
