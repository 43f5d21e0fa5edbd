use Prim.Native.Nat.{ℕ}
use lib.ListN.{length-replicate}
use Rattle.visibility.proofs.RedrawLaws.{drawn}
use Rattle.visibility.proofs.layer.draw_points.Goals as goal

pub returns : goal.returns
returns c =
    λ ch S B at d.
    drawn _ _ _ _ _ _ _ _ _ _ _ _ _ d c.copy.new.to c.write_statuses.new.out c.block_points.new.out c.copy-2.new.to c.copy-3.new.to c.copy-4.new.to
    c.copy.ensures c.write_statuses.ensures (c.block_points.ensures ch S B d.seeing at d.blocks_are d.blocks_named (rw (length-replicate {A = ℕ} 64 0) d.few))
    c.copy-2.ensures c.copy-3.ensures c.copy-4.ensures
