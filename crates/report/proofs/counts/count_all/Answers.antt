-- `counts::count_all`: each count by its own call.
use Rattle.std.proofs.Common.{refl}
use Rattle.held.specs.Lent.{viewed}
use Rattle.report.proofs.CallLaws.{told_is}
use Rattle.report.proofs.MapLaws.{counted}
use Rattle.report.proofs.counts.count_all.Goals as goal

pub returns : goal.returns
returns c e =
    (_, refl, λ M h. counted c.args.map (viewed c.args.tables) M h _ refl _ _ _ _ _ (told_is e c.in_ok-count_corners.ensures M h) (told_is e c.in_ok-count_open.ensures M h) c.count_blocks.ensures.1)
