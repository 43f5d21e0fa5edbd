use Rattle.std.proofs.Common.{◌≡◌, ◌-◌, ◌*◌, ◌^◌, ◌≤◌, true, arith}
use lib.Ieee.{binary64, lt, of_bits, to_bits}
use Rattle.ieee.specs.Constants.{nought}
use Rattle.ieee.proofs.Tools.{T_true, not_nan}
use Rattle.ieee.proofs.Picks.{no_nan}
use Rattle.ieee.proofs.RootBits.{no_nan_bits}
use Rattle.ieee.proofs.RootCases.{some_bits}
use Rattle.ieee.proofs.Thresholds.{nan_threshold, low_threshold, first_threshold, above_zero, above_range}
use Rattle.ieee.proofs.threshold.root_threshold.Goals as goal

pub returns-then-b : goal.returns-then-b
returns-then-b c = nan_threshold c.args.b c.if-b.true

pub returns-then-b-2 : goal.returns-then-b-2
unfolding of_bits
returns-then-b-2 c = low_threshold c.args.b (T_true c.well_formed.0.1) c.if-b-2.true

pub float_to_bits-q : goal.float_to_bits-q
float_to_bits-q c = let b = c.args.b in not_nan b (no_nan b c.if-b.false)

pub overflow_sub-q : goal.overflow_sub-q
unfolding of_bits
overflow_sub-q c =
    let above : lt nought c.args.b ≡ true = above_zero c.args.b c.if-b.false c.if-b-2.false in
    some_bits c.args.b (T_true c.well_formed.0.1) above

pub float_from_bits-q : goal.float_from_bits-q
unfolding of_bits
float_from_bits-q c =
    let above : lt nought c.args.b ≡ true = above_zero c.args.b c.if-b.false c.if-b-2.false in
    let n = to_bits binary64 c.args.b in
    let h : n ≤ 2047 * 2 ^ 52 = above_range c.args.b (T_true c.well_formed.0.1) above in
    no_nan_bits (n - 1) (omega arith)

pub float_from_bits-result : goal.float_from_bits-result
float_from_bits-result c = no_nan_bits c.in-Some.n c.in-Some.ensures.range

pub returns : goal.returns
unfolding of_bits
returns c =
    let above : lt nought c.args.b ≡ true = above_zero c.args.b c.if-b.false c.if-b-2.false in
    first_threshold c.args.b c.in-Some.n (T_true c.well_formed.0.1) above c.in-Some.ensures

pub bisect-requires : goal.bisect-requires
unfolding of_bits
bisect-requires c =
    let above : lt nought c.args.b ≡ true = above_zero c.args.b c.if-b.false c.if-b-2.false in
    above

pub float_from_bits-result-2 : goal.float_from_bits-result-2
float_from_bits-result-2 c = no_nan_bits c.bisect.result c.bisect.ensures.range

pub returns-2 : goal.returns-2
unfolding of_bits
returns-2 c =
    let above : lt nought c.args.b ≡ true = above_zero c.args.b c.if-b.false c.if-b-2.false in
    first_threshold c.args.b c.bisect.result (T_true c.well_formed.0.1) above c.bisect.ensures
