use Prim.Native.Nat.{◌^◌}
use native.Mathlib.Omega.{arith}
use mathlib.Core.Path.{◌≡◌}
use lib.Pow.{pow_pos}
use Rattle.table.proofs.SearchLaws.{look_is, looked_le}
use Rattle.table.proofs.look.look.Goals as goal

-- `look::look` is the definition's step, the test taken as a number. Assumes nothing.
pub overflow_sub-last : goal.overflow_sub-last
overflow_sub-last c =
    let e : c.power.result ≡ 2 ^ c.args.s = c.power.ensures in
    omega (arith, pow_pos c.args.s)

pub bounds-t-last : goal.bounds-t-last
bounds-t-last c =
    let a = c.args in
    let e : c.power.result ≡ 2 ^ a.s = c.power.ensures in
    omega (arith, pow_pos a.s, c.requires.1)

pub overflow_add-result : goal.overflow_add-result
overflow_add-result c =
    let a = c.args in
    rw (look_is a.t.now a.at a.s a.k c.power.result c.requires.0 c.power.ensures) (omega (arith, looked_le a.t.now a.at (2 ^ a.s) a.k, c.requires.1))

pub returns : goal.returns
returns c =
    let a = c.args in
    look_is a.t.now a.at a.s a.k c.power.result c.requires.0 c.power.ensures
