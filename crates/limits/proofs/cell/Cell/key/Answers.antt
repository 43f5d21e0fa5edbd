use Prim.Native.Nat.{◌<◌, ◌^◌}
use native.Mathlib.Omega.{arith}
use mathlib.Core.Path.{◌≡◌, refl, ap, ◌∙◌}
use mir.Syntax.{w64}
use mir.ValLaws.{to_z-of_z}
use Rattle.ieee.specs.Whole.{biased}
use Rattle.ieee.proofs.Bias.{biased_lt}
use Rattle.model.specs.Cell.{key}
use Rattle.limits.proofs.cell.Cell.key.Goals as goal

-- `Cell::key` is the model's key. Assumes nothing.
pub overflow_mul-result : goal.overflow_mul-result
overflow_mul-result c =
    let x-is : c.bias.result ≡ biased c.args.self.x = c.bias.ensures ∙ ap biased (to_z-of_z w64 c.args.self.x (record { sfits = c.struct_told-1.given.0.1 })) in
    let x_below : c.bias.result < 2 ^ 32 = rw x-is (biased_lt c.args.self.x) in
    omega arith

pub overflow_add-result : goal.overflow_add-result
overflow_add-result c =
    let x-is : c.bias.result ≡ biased c.args.self.x = c.bias.ensures ∙ ap biased (to_z-of_z w64 c.args.self.x (record { sfits = c.struct_told-1.given.0.1 })) in
    let x_below : c.bias.result < 2 ^ 32 = rw x-is (biased_lt c.args.self.x) in
    let y-is : c.bias-2.result ≡ biased c.args.self.y = c.bias-2.ensures ∙ ap biased (to_z-of_z w64 c.args.self.y (record { sfits = c.struct_told-2-1.given.1.0.1 })) in
    let k : c.bias-2.result < 2 ^ 32 = rw y-is (biased_lt c.args.self.y) in
    omega arith

pub returns : goal.returns
unfolding key
returns c =
    let x-is : c.bias.result ≡ biased c.args.self.x = c.bias.ensures ∙ ap biased (to_z-of_z w64 c.args.self.x (record { sfits = c.struct_told-1.given.0.1 })) in
    let y-is : c.bias-2.result ≡ biased c.args.self.y = c.bias-2.ensures ∙ ap biased (to_z-of_z w64 c.args.self.y (record { sfits = c.struct_told-2-1.given.1.0.1 })) in
    rw (x-is, y-is) refl
