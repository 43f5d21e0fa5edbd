use Prim.Native.Nat.{◌*◌, ◌/◌, ◌^◌, ◌<◌}
use native.Mathlib.Omega.{arith}
use mathlib.Core.Path.{refl}
use lib.Bits.{bit_or, or_lt}
use Rattle.corner.specs.Window.{beside}
use Rattle.corner.proofs.window.beside.Goals as goal

-- `window::beside` is the definition's steps. Assumes nothing.
pub overflow_mul-result : goal.overflow_mul-result
overflow_mul-result c =
    let n = c.args.n in
    let two : bit_or (n / 2) n < 2 ^ 26 = or_lt 26 (n / 2) n (omega arith) (omega arith) in
    let three : bit_or (bit_or (n / 2) n) (n * 2) < 2 ^ 26 = or_lt 26 (bit_or (n / 2) n) (n * 2) two (omega arith) in
    omega (arith, three)

pub returns : goal.returns
unfolding beside
returns c = refl
