use Prim.Native.Nat.{◌+◌, ◌-◌, ◌*◌}
use native.Mathlib.Omega.{arith}
use mathlib.Core.Path.{◌≡◌}
use lib.Bits.{xor_lt}
use lib.ListN.{get_or}
use Rattle.model.specs.Cell.{W}
use Rattle.corner.proofs.ChangeLaws.{given_inner, words_fresh}
use Rattle.corner.proofs.changes.put_around.Goals as goal
use Rattle.corner.proofs.changes.put_around.Goals.{then-e-lt-MIDDLE-via-then-e-lt-MIDDLE, then-e-lt-MIDDLE-via-else-e-lt-MIDDLE+then-e-ge-OUTERMOST}

-- `changes::put_around`: the words of the window say what the cell adds. Assumes nothing.
pub returns-then-e-lt-MIDDLE : goal.returns-then-e-lt-MIDDLE
returns-then-e-lt-MIDDLE c =
    let a = c.args in (
      omega arith,
      λ C g. let i = given_inner a.cells.now a.confirmed.now C a.i g c.requires.0 in absurd (elim c.then-e-lt-MIDDLE.branch [
        | then-e-lt-MIDDLE-via-then-e-lt-MIDDLE w ↦ omega (arith, i.0, w.if-e-lt-MIDDLE.true)
        | then-e-lt-MIDDLE-via-else-e-lt-MIDDLE+then-e-ge-OUTERMOST w ↦ omega (arith, i.1, w.if-e-ge-OUTERMOST.true)
      ]),
    )

pub corners_of-now-requires : goal.corners_of-now-requires
corners_of-now-requires c =
    let v = c.window-before in
    let w = c.window-toggled in
    xor_lt 25 v.result w.result v.ensures.0 w.ensures.0

pub returns : goal.returns
returns c =
    let a = c.args in
    let e = get_or a.confirmed.now a.i 0 in
    let middle : e ≡ e - (2 * W + 2) + (2 * W + 2) = omega (arith, c.if-e-lt-MIDDLE.false) in (
      c.put_nine.ensures.0,
      λ C g.
          let w = c.corners_of-was.result in
          let v = c.corners_of-now.result in
          rw (words_fresh a.cells.now a.confirmed.now C a.i (e - (2 * W + 2)) c.window-before.result c.window-toggled.result g c.requires.0 middle (c.window-before.ensures.1 g.cells) (c.window-toggled.ensures.1 g.confirmed) w.sw w.se w.nw w.ne v.sw v.se v.nw v.ne c.beside-met.result c.differing_but.result c.corners_of-was.ensures c.corners_of-now.ensures c.beside-met.ensures c.differing_but.ensures) at c.put_nine.ensures.1,
    )
