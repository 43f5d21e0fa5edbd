use native.Mathlib.Omega.{arith}
use mathlib.Core.Path.{refl}
use Rattle.blocks.proofs.CountLaws.{counting_done, counting_none, zeros_down}
use Rattle.blocks.proofs.count.count_blocks.Goals as goal

pub invariant_of-forest : goal.invariant_of-forest
invariant_of-forest c = record { full = refl; down = zeros_down 1024 }

pub loop-i-init : goal.loop-i-init
loop-i-init c = counting_none _ _

pub returns : goal.returns
returns c =
    (λ h. absurd (omega (arith, c.if-n-gt-CELLS.false)), λ h a. let e = counting_done c.loop-i.forest.down c.loop-i.invariant c.loop-i-test.false a in omega arith)
