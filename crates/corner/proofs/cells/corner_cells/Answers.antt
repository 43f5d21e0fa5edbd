use Prim.Native.Nat.{zero-le}
use native.Mathlib.Omega.{arith}
use mathlib.Core.Path.{refl}
use Rattle.corner.proofs.CellsLaws.{corners_all, corners_none, corners_pass, corners_put}
use Rattle.corner.proofs.cells.corner_cells.Goals as goal
use Rattle.corner.proofs.cells.corner_cells.Goals.{else-s-ne0, then-s-ne0, then-out-cells-via-then-out-cells, then-out-cells-via-else-out-cells+then-statuses-cells}

pub returns-then-out-cells : goal.returns-then-out-cells
returns-then-out-cells c = (
  λ a i ra rb. absurd (elim c.then-out-cells.branch [ then-out-cells-via-then-out-cells w ↦ omega (arith, w.if-out-cells.true) | then-out-cells-via-else-out-cells+then-statuses-cells w ↦ omega (arith, w.if-statuses-cells.true) ]),
  λ h. record { count = refl; cells = refl; numbers = refl },
  λ h. record { count = refl; cells = refl; numbers = refl },
  zero-le,
)

pub loop-k-init : goal.loop-k-init
loop-k-init c = let a = c.args in corners_none a.cells.now a.out.now a.statuses.now

pub loop-k-preserved : goal.loop-k-preserved
loop-k-preserved c =
    let l = c.loop-k in
    let a = c.args in
    let s = c.status_of-s in
    elim c.if-s-ne0.branch [ then-s-ne0 w ↦ rw (w.out-is, w.statuses-is, w.n-is) (corners_put a.cells.now a.out.now l.out a.statuses.now l.statuses l.n l.k-index s.result c.loop-k-test.true c.if-out-cells.false c.if-statuses-cells.false s.ensures l.invariant w.if-s-ne0.true) | else-s-ne0 w ↦ rw (w.out-is, w.statuses-is, w.n-is) (corners_pass a.cells.now a.out.now l.out a.statuses.now l.statuses l.n l.k-index s.result c.loop-k-test.true c.if-out-cells.false c.if-statuses-cells.false s.ensures l.invariant w.if-s-ne0.false) ]

pub returns : goal.returns
returns c =
    let l = c.loop-k in
    let a = c.args in (
      λ u i ra rb. corners_all a.cells.now a.out.now l.out a.statuses.now l.statuses l.n l.k-index c.loop-k-test.false l.invariant (u, i),
      λ h. absurd (omega (arith, c.if-out-cells.false)),
      λ h. absurd (omega (arith, c.if-statuses-cells.false)),
      omega (arith, l.invariant.up, l.invariant.few),
    )
