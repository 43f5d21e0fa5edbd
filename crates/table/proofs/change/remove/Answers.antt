use lib.ListN.{take}
use Rattle.model.specs.Maps.{cut}
use Rattle.table.proofs.LookLaws.{absent}
use Rattle.table.proofs.TableLaws.{changed_none, removed}
use Rattle.table.proofs.change.remove.Goals as goal

-- `change::remove`: nothing is altered where k does not stand there. Assumes nothing.
pub returns-in_default : goal.returns-in_default
returns-in_default c =
    let s = c.args in
    let f = c.in_default.ensures in
    changed_none (cut s.k) s.t.now s.n (λ T. (absent s.k c.in_default.field-0 (take s.n s.t.now) T.asc (f.0.place T.asc) f.1).took)

pub returns : goal.returns
returns c =
    let s = c.args in
    let f = c.in-Ok.ensures in
    removed s.t.now s.n s.k c.in-Ok.at f.0.place c.shift_down.new.t c.if-t-n.false f.1 c.shift_down.ensures
