use Prim.Native.Nat.{ℕ, ◌+◌, ◌-◌, ◌*◌}
use native.Mathlib.Omega.{arith}
use mathlib.Core.Path.{◌≡◌, ap, ◌∙◌}
use lib.ListN.{drop, take}
use Rattle.table.proofs.Parts.{tail_is}
use Rattle.model.specs.Cell.{W}
use Rattle.table.specs.Tables.{rank}
use Rattle.table.proofs.AllLaws.{asc_l_drop}
use Rattle.table.proofs.ColumnLaws.{column_is, column_none}
use Rattle.table.proofs.column.column.Goals as goal

-- `column::column`: two searches, the second from where the column begins. Assumes nothing.
pub returns-then-x-ge-COLUMN : goal.returns-then-x-ge-COLUMN
returns-then-x-ge-COLUMN c =
    λ a. column_none c.args.x c.args.t.now c.if-x-ge-COLUMN.true (λ i. (c.type_inv.t i).fits)

pub returns : goal.returns
returns c =
    let s = c.args in
    let l = s.t.now in
    let i : ℕ = c.begin-a.result in
    let j : ℕ = c.begin.result in
    let d : i + j - i ≡ j = omega arith in
    λ a.
    let second : j ≡ rank ((s.x + 1) * W) (drop i l) =
    rw (tail_is i l) at (c.begin.ensures.1 (rw (tail_is i l) (asc_l_drop 0 i l a))) in
    ap (λ (n : ℕ). take n (drop i l)) d ∙ column_is s.x i j l a (c.begin-a.ensures.1 a) second
