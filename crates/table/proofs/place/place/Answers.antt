use native.Mathlib.Omega.{arith}
use lib.Pow.{pow_pos}
use Rattle.table.proofs.SearchLaws.{placed_none, within_first, within_last, within_last_room, within_next, within_room}
use Rattle.table.proofs.place.place.Goals as goal

pub returns-then-t-eq0 : goal.returns-then-t-eq0
returns-then-t-eq0 c =
    let a = c.args in
    let p = placed_none a.t.now c.if-t-eq0.true a.k in
    (p.inside, p.place)

pub exponent-first-requires : goal.exponent-first-requires
exponent-first-requires c = omega (arith, c.if-t-eq0.false)

pub begin-at-requires : goal.begin-at-requires
begin-at-requires c =
    let s = c.exponent-first in
    rw c.power.ensures (pow_pos s.result, s.ensures.1)

pub loop-s-init : goal.loop-s-init
loop-s-init c =
    let a = c.args in
    let s = c.exponent-first in
    (s.ensures.0, rw (c.begin-at.ensures, c.power.ensures) (within_first a.k a.t.now s.result s.ensures.1 s.ensures.2))

pub look-at-requires : goal.look-at-requires
look-at-requires c =
    let a = c.args in
    let l = c.loop-s in
    (omega (arith, l.invariant.0), within_room a.k a.t.now l.at l.s c.loop-s-test.true l.invariant.1)

pub loop-s-preserved : goal.loop-s-preserved
loop-s-preserved c =
    let a = c.args in
    let l = c.loop-s in
    (omega (arith, l.invariant.0), rw c.look-at.ensures (within_next a.k a.t.now l.at l.s c.loop-s-test.true l.invariant.1))

pub look-requires : goal.look-requires
look-requires c =
    let a = c.args in
    let l = c.loop-s in
    (omega arith, within_last_room a.k a.t.now l.at l.s c.loop-s-test.false l.invariant.1)

pub returns : goal.returns
returns c =
    let a = c.args in
    let l = c.loop-s in
    let p = within_last a.k a.t.now l.at l.s c.loop-s-test.false l.invariant.1 in
    rw c.look.ensures (p.inside, p.place)
