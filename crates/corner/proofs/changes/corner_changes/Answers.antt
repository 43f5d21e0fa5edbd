use Prim.Native.Nat.{zero-le}
use native.Mathlib.Omega.{arith}
use mathlib.Core.Path.{refl}
use Rattle.corner.proofs.ChangeLaws.{sofar_none, sofar_next, sofar_all}
use Rattle.corner.proofs.changes.corner_changes.Goals as goal
use Rattle.corner.proofs.changes.corner_changes.Goals.{then-out-room-via-then-out-room, then-out-room-via-else-out-room+then-statuses-room}

pub returns-then-out-room : goal.returns-then-out-room
returns-then-out-room c = (
  λ ch C e t a b i ra rb. absurd (elim c.then-out-room.branch [ then-out-room-via-then-out-room w ↦ omega (arith, w.if-out-room.true) | then-out-room-via-else-out-room+then-statuses-room w ↦ omega (arith, w.if-statuses-room.true) ]),
  λ h. record { count = refl; cells = refl; numbers = refl },
  λ h. record { count = refl; cells = refl; numbers = refl },
  zero-le,
)

pub loop-i-init : goal.loop-i-init
loop-i-init c =
    let a = c.args in
    sofar_none a.cells.now a.confirmed.now a.out.now a.statuses.now

pub loop-i-preserved : goal.loop-i-preserved
loop-i-preserved c =
    let l = c.loop-i in
    let a = c.args in
    let r = c.put_around-n in
    sofar_next a.cells.now a.confirmed.now a.out.now l.out r.new.out a.statuses.now l.statuses r.new.statuses l.n l.i r.result c.loop-i-test.true c.if-out-room.false c.if-statuses-room.false l.invariant r.auto.out r.auto.statuses r.ensures.0 r.ensures.1

pub returns : goal.returns
returns c =
    let l = c.loop-i in
    let a = c.args in (
      λ ch C e t ca ka i ra rb. sofar_all a.cells.now a.confirmed.now a.out.now l.out a.statuses.now l.statuses l.n l.i c.loop-i-test.false l.invariant ch C e (record { toggled = t; cells = ca; confirmed = ka; inner = i }),
      λ h. absurd (omega (arith, c.if-out-room.false)),
      λ h. absurd (omega (arith, c.if-statuses-room.false)),
      omega (arith, l.invariant.up, l.invariant.few),
    )
