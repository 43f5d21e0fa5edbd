-- `counts::count_corners`: how many `corner_cells` lists, in arrays that are long enough.
use Rattle.std.proofs.Common.{refl, ◌∙◌, le_refl}
use Rattle.corner.specs.Changes.{numbered}
use Rattle.corner.proofs.ChangeLaws.{numbered_count}
use Rattle.held.specs.Holds.{needs}
use Rattle.held.specs.Lent.{viewed}
use Rattle.model.specs.Limits.{need_cells}
use Rattle.model.specs.Answers.{corners}
use Rattle.table.proofs.ListedLaws.{keys_length}
use Rattle.report.proofs.CallLaws.{call_accepted, enough_of, listed_some, map_accepted}
use Rattle.report.proofs.counts.count_corners.Goals as goal

pub returns : goal.returns
returns c e =
    let m = c.args.map in
    let t = viewed c.args.tables in
    let p = listed_some _ c.corner_cells.ensures (call_accepted _ m (map_accepted (needs t) m e) ((enough_of (needs t) m e).0, (le_refl need_cells, (le_refl need_cells, tt)))) in
    (p.0, p.1, λ M h. (p.2 M (t, h, refl)).0 ∙ keys_length (numbered (corners M)) ∙ numbered_count (corners M))
