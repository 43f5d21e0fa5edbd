use native.Mathlib.Omega.{arith}
use mathlib.Core.Path.{◌≡◌, ◌∙◌}
use lib.ListN.{length, take}
use lib.Seq.{length-take-le}
use Rattle.table.specs.Tables.{added}
use Rattle.table.proofs.LookLaws.{there}
use Rattle.table.proofs.TableLaws.{added_full, added_there, changed_none, inserted}
use Rattle.table.proofs.change.insert.Goals as goal

-- `change::insert`: nothing is altered where the table is full or k stands there already. Assumes nothing.
pub returns-then-t-n : goal.returns-then-t-n
returns-then-t-n c =
    let s = c.args in
    changed_none (added (length s.t.now) s.k) s.t.now s.n
    (λ T. let e : s.n ≡ length s.t.now = omega arith in added_full (length s.t.now) s.k (take s.n s.t.now) T.asc (length-take-le s.n s.t.now T.room ∙ e))

pub returns-in_default : goal.returns-in_default
returns-in_default c =
    let s = c.args in
    let f = c.in_default.ensures in
    changed_none (added (length s.t.now) s.k) s.t.now s.n
    (λ T. added_there (length s.t.now) s.k (take s.n s.t.now) (there s.k c.in_default.field-0 (take s.n s.t.now) T.asc (f.0.place T.asc) f.1))

pub returns : goal.returns
returns c =
    let s = c.args in
    let f = c.in-Err.ensures in
    inserted s.t.now s.n s.k c.in-Err.at f.0.place c.put_at.new.t c.if-t-n.false f.1 c.put_at.ensures
