use Prim.Native.Nat.{ℕ, ◌/◌, ◌%◌, ◌^◌, ◌≤◌}
use native.Mathlib.Omega.{arith}
use mathlib.Core.Path.{◌≡◌, sym, ◌∙◌, subst}
use lib.IntN.{ℤ, pos, ◌-ℤ◌}
use mir.Syntax.{w64}
use mir.Val.{SFits, to_z, of_z}
use mir.ValLaws.{to_z-of_z}
use Rattle.ieee.specs.Whole.{unbias}
use Rattle.ieee.proofs.Unbiased.{column_back, column_fits}
use Rattle.limits.proofs.cell.Cell.of_key.Goals as goal

-- `Cell::of_key` is the model's column and row. Assumes nothing.
-- a column or a row, as the code has it
fits : (n : ℕ) → n ≤ 2 ^ 32 → SFits w64 (to_z w64 n -ℤ pos 2147483648)
fits n h = subst (λ (z : ℤ). SFits w64 z) (sym (column_back n h)) (column_fits n h)

read : (n : ℕ) → n ≤ 2 ^ 32 → to_z w64 (of_z w64 (to_z w64 n -ℤ pos 2147483648)) ≡ unbias n
read n h = to_z-of_z w64 _ (fits n h) ∙ column_back n h

pub overflow_sub-result : goal.overflow_sub-result
overflow_sub-result c = fits (c.args.k / 4294967296) (omega arith)

pub overflow_sub-result-2 : goal.overflow_sub-result-2
overflow_sub-result-2 c = fits (c.args.k % 4294967296) (omega arith)

pub returns : goal.returns
returns c = (read (c.args.k / 4294967296) (omega arith), read (c.args.k % 4294967296) (omega arith))
