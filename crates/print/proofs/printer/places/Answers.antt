use native.Mathlib.Omega.{arith}
use Rattle.print.proofs.DecimalLaws.{length_most, length_more, length_one, length_some}
use Rattle.print.proofs.printer.places.Goals as goal

pub overflow_add-k : goal.overflow_add-k
overflow_add-k c = omega (arith, length_most 19 c.args.n (omega arith), length_some c.loop-rest.rest)

pub loop-rest-preserved : goal.loop-rest-preserved
loop-rest-preserved c = omega (arith, length_more c.loop-rest.rest (omega arith))

pub returns : goal.returns
returns c = omega (arith, length_one c.loop-rest.rest (omega arith))
