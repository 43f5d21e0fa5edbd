-- `counts::count_open`: how many `open_pairs` lists, in arrays that are long enough.
use Rattle.std.proofs.Common.{refl, ◌∙◌, le_refl}
use Rattle.held.specs.Holds.{needs}
use Rattle.held.specs.Lent.{viewed}
use Rattle.model.specs.Limits.{need_pairs}
use Rattle.model.specs.Answers.{open_pairs}
use Rattle.report.proofs.CallLaws.{call_accepted, enough_of, listed_some, map_accepted}
use Rattle.report.proofs.ColumnLaws.{lessers_length}
use Rattle.report.proofs.counts.count_open.Goals as goal

pub returns : goal.returns
returns c e =
    let m = c.args.map in
    let t = viewed c.args.tables in
    let l = enough_of (needs t) m e in
    let p = listed_some _ c.open_pairs.ensures (call_accepted _ m (map_accepted (needs t) m e) (l.1.0, (l.1.1.1.0, (l.1.1.1.1.0, (le_refl need_pairs, (le_refl need_pairs, tt)))))) in
    (p.0, p.1, λ M h. (p.2 M (t, h, (refl, refl, refl))).0 ∙ lessers_length (open_pairs M))
