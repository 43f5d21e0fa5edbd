use native.Mathlib.Omega.{arith}
use lib.Pow.{pow_pos}
use Rattle.table.proofs.SearchLaws.{within_first, within_last, within_last_room, within_next, within_room}
use Rattle.table.proofs.places.places_from.Goals as goal

pub begin_all-requires : goal.begin_all-requires
begin_all-requires c =
    let s = c.exponent-first in
    rw c.power.ensures (pow_pos s.result, s.ensures.1, c.requires.0)

pub loop-s-init : goal.loop-s-init
loop-s-init c =
    let s = c.exponent-first in
    (s.ensures.0, λ i h. rw (c.begin_all.ensures i h, c.power.ensures) (within_first _ c.args.t.now s.result s.ensures.1 s.ensures.2))

pub look_all-requires : goal.look_all-requires
look_all-requires c =
    let l = c.loop-s in
    (omega (arith, l.invariant.0), c.requires.0, λ i h. within_room _ c.args.t.now _ l.s c.loop-s-test.true (l.invariant.1 i h))

pub loop-s-preserved : goal.loop-s-preserved
loop-s-preserved c =
    let l = c.loop-s in
    (omega (arith, l.invariant.0), λ i h. rw (c.look_all.ensures i h) (within_next _ c.args.t.now _ l.s c.loop-s-test.true (l.invariant.1 i h)))

pub look_all-requires-2 : goal.look_all-requires-2
look_all-requires-2 c =
    let l = c.loop-s in
    (omega arith, c.requires.0, λ i h. within_last_room _ c.args.t.now _ l.s c.loop-s-test.false (l.invariant.1 i h))

pub returns : goal.returns
returns c =
    let l = c.loop-s in
    λ i h. rw (c.look_all-2.ensures i h) (within_last _ c.args.t.now _ l.s c.loop-s-test.false (l.invariant.1 i h))
