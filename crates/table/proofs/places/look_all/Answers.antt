use Prim.Native.Nat.{ℕ, ◌+◌, ◌*◌, ◌^◌}
use native.Mathlib.Nat.{le_refl}
use mathlib.Core.Path.{ap, ◌∙◌}
use Rattle.model.specs.Cell.{W}
use Rattle.table.specs.Search.{looked}
use Rattle.table.proofs.FiveLaws.{five_none, five_more}
use Rattle.table.proofs.places.look_all.Goals as goal

pub loop-i-init : goal.loop-i-init
loop-i-init c = five_none _ c.args.f.now c.told-f

pub look-requires : goal.look-requires
look-requires c = let l = c.loop-i in (c.requires.0, rw (l.invariant.left l.i (le_refl l.i)) (c.requires.2 l.i c.loop-i-test.true))

pub loop-i-preserved : goal.loop-i-preserved
loop-i-preserved c =
    let l = c.loop-i in
    five_more _ c.args.f.now l.f l.i c.look.result c.loop-i-test.true l.invariant
    (c.look.ensures ∙ ap (λ (at : ℕ). looked c.args.t.now at (2 ^ c.args.s) (c.args.low + l.i * W)) (l.invariant.left l.i (le_refl l.i)))
