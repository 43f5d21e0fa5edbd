use Rattle.visibility.proofs.OpenLaws.{open_done, open_judged, open_refused, open_room}
use Rattle.held.specs.Lent.{lists_of}
use Rattle.visibility.proofs.open.open.Goals as goal

-- `open::open`: the first refusal that applies, or cleared tables. Assumes nothing.
pub returns-in_err-judge-clause-said : goal.returns-in_err-judge-clause-said
returns-in_err-judge-clause-said c =
    let a = c.args in
    open_refused a.size a.radius (lists_of a.tables.now) _ c.in_err-judge.field-0.0 c.from_residual.ensures.1
    (open_judged (lists_of a.tables.now) a.size a.radius c.is_short.result _ c.in_err-judge.ensures c.is_short.ensures)

pub clear-requires : goal.clear-requires
clear-requires c = (open_room (lists_of c.args.tables.now) c.args.size c.args.radius c.is_short.result c.in_ok-judge.ensures c.is_short.ensures).0

pub clear-requires-2 : goal.clear-requires-2
clear-requires-2 c = (open_room (lists_of c.args.tables.now) c.args.size c.args.radius c.is_short.result c.in_ok-judge.ensures c.is_short.ensures).1.0

pub clear-requires-3 : goal.clear-requires-3
clear-requires-3 c = (open_room (lists_of c.args.tables.now) c.args.size c.args.radius c.is_short.result c.in_ok-judge.ensures c.is_short.ensures).1.1.0

pub clear-requires-4 : goal.clear-requires-4
clear-requires-4 c = (open_room (lists_of c.args.tables.now) c.args.size c.args.radius c.is_short.result c.in_ok-judge.ensures c.is_short.ensures).1.1.1.0

pub clear-requires-5 : goal.clear-requires-5
clear-requires-5 c = (open_room (lists_of c.args.tables.now) c.args.size c.args.radius c.is_short.result c.in_ok-judge.ensures c.is_short.ensures).1.1.1.1.0

pub returns-clause-said : goal.returns-clause-said
returns-clause-said c =
    let a = c.args in
    open_done (lists_of a.tables.now) a.size a.radius c.is_short.result c.in_ok-judge.ensures c.is_short.ensures
    c.clear.ensures c.clear-2.ensures c.clear-3.ensures c.clear-4.ensures c.clear-5.ensures
