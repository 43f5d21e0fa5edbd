use Rattle.corner.specs.Window.{picked_at}
use Rattle.corner.proofs.AddedLaws.{Gathering}
use Rattle.corner.proofs.changes.put_nine.Given as goal

-- `changes::put_nine`: the nine one after another, each written where its bit is set. Assumes nothing.
abbrev pub invariant-loop-d : goal.invariant-loop-d
invariant-loop-d l = Gathering (Unit {0}) 9 (picked_at l.low l.fresh l.w.sw l.w.se l.w.nw l.w.ne) l.initial.out l.out l.initial.statuses l.statuses l.n l.m l.d
