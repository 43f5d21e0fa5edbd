use Rattle.std.proofs.Common.{◌∙◌}
use lib.Ieee.{div, of_bits}
use Rattle.ieee.proofs.Tools.{T_true}
use Rattle.ieee.proofs.RootCases.{some_bits, root_finite, root_endless, root_below, root_neither}
use Rattle.ieee.proofs.root.root.Goals as goal

-- `ieee::root::root` meets its contract. The laws are in `proofs/RootCases.antt`. Assumes nothing.
pub root_positive-requires : goal.root_positive-requires
unfolding of_bits
root_positive-requires c =
    (some_bits c.args.x (T_true c.well_formed.0.1) c.if-x.true, c.if-b-lt9218868437227405312.true)

pub returns-then-b-lt9218868437227405312 : goal.returns-then-b-lt9218868437227405312
unfolding of_bits
returns-then-b-lt9218868437227405312 c =
    c.root_positive.ensures ∙ root_finite c.args.x (T_true c.well_formed.0.1) c.if-x.true c.if-b-lt9218868437227405312.true

pub returns-then-x : goal.returns-then-x
unfolding of_bits
returns-then-x c = root_endless c.args.x (T_true c.well_formed.0.1) c.if-x.true c.if-b-lt9218868437227405312.false

pub returns-then-x-2 : goal.returns-then-x-2
unfolding of_bits div
returns-then-x-2 c = root_below c.args.x c.if-x-2.true

pub returns : goal.returns
unfolding of_bits
returns c = root_neither c.args.x c.if-x.false c.if-x-2.false
