use Rattle.std.proofs.Common.{◌∙◌, inl, inr, arith, ne_eqb}
use Rattle.ieee.specs.Whole.{ceil_z}
use Rattle.ieee.proofs.Tools.{not_nan}
use Rattle.ieee.proofs.Bias.{biased_lt}
use Rattle.ieee.proofs.Columns.{rounded_some, bits_least, floor_column, ceil_column, beyond_column}
use Rattle.ieee.proofs.whole.column.Goals as goal
use Rattle.ieee.proofs.whole.column.Goals.{else-x-via-else-x, else-x-via-then-x+else-x-2}

-- `ieee::whole::column` meets its contract, down and up. The laws are in `proofs/Columns.antt`. Assumes nothing.
pub float_to_bits-n : goal.float_to_bits-n
float_to_bits-n g c = not_nan _ (rounded_some c.args.x c.if-x.true c.if-x-2.true)

pub overflow_sub-n : goal.overflow_sub-n
overflow_sub-n g c = bits_least c.args.x c.if-x.true c.if-x-2.true

pub overflow_sub-result : goal.overflow_sub-result
overflow_sub-result g c = let e = floor_column c.args.x c.if-x.true c.if-x-2.true in omega arith

pub returns-then-this-ne0 : goal.returns-then-this-ne0
returns-then-this-ne0 g c = let e = floor_column c.args.x c.if-x.true c.if-x-2.true in rw (ne_eqb g.row.DOWN 0 c.if-this-ne0.true) (omega arith)

pub overflow_add-result : goal.overflow_add-result
overflow_add-result g c =
    let e = ceil_column c.args.x c.if-x.true c.if-x-2.true in
    let l = biased_lt (ceil_z c.args.x) in
    omega arith

pub returns-then-x-2 : goal.returns-then-x-2
returns-then-x-2 g c = rw c.if-this-ne0.false (ceil_column c.args.x c.if-x.true c.if-x-2.true)

pub returns : goal.returns
returns g c = c.column_beyond.ensures ∙ beyond_column _ c.args.x (elim c.else-x.branch [ else-x-via-then-x+else-x-2 w ↦ inr w.if-x-2.false | else-x-via-else-x w ↦ inl w.if-x.false ])
