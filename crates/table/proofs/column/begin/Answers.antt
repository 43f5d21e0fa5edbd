use Prim.Native.Nat.{ℕ, ◌*◌, ◌<◌}
use native.Mathlib.Omega.{arith}
use mathlib.Core.Path.{sym}
use lib.ListN.{get_or}
use Rattle.model.specs.Cell.{W}
use Rattle.table.proofs.AllLaws.{all_from}
use Rattle.table.proofs.RankLaws.{rank_all}
use Rattle.table.proofs.column.begin.Goals as goal

-- `column::begin`: no key is beyond the last column. Assumes nothing.
pub returns : goal.returns
returns c =
    let s = c.args in
    let b : (i : ℕ) → get_or s.t.now i 0 < s.x * W = λ i. omega (arith, c.type_inv.t i) in
    (omega arith, λ a. sym (rank_all (s.x * W) s.t.now (all_from (λ k. k < s.x * W) s.t.now b)))
