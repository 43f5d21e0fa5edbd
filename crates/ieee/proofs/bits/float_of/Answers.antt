use Rattle.std.proofs.Common.{◌*◌, ◌%◌, ◌^◌, Bool, not, T, sym, ◌∙◌, subst, le-ltb}
use lib.Ieee.{binary64}
use lib.Ieee.Bits.{nan_bits_above}
use Rattle.ieee.proofs.NanPatterns.{nan_pattern, quotient}
use Rattle.ieee.proofs.bits.float_of.Goals as goal

-- `ieee::bits::float_of`: a pattern past the test is no NaN's, and before it the NaN's. Assumes nothing.
pub returns-then-pattern-gt9218868437227405312 : goal.returns-then-pattern-gt9218868437227405312
returns-then-pattern-gt9218868437227405312 c = quotient ∙ nan_pattern c.args.pattern c.if-pattern-gt9218868437227405312.true

pub float_from_bits-result : goal.float_from_bits-result
float_from_bits-result c =
    let b = c.args.pattern in
    subst (λ (t : Bool). T (not t)) (sym (nan_bits_above binary64 b ∙ le-ltb (2047 * 2 ^ 52) (b % 2 ^ 63) c.if-pattern-gt9218868437227405312.false)) tt
