use Rattle.std.proofs.Common.{ℕ, List, length, rules, ap, ◌∙◌}
use borrow.Author.Tests.{tests}
use Rattle.std.proofs.lemmas.Iterator.{YieldsList-from_slice}
use Rattle.std.proofs.lemmas.Iterator.Consumers.{YieldsList-from_filter, count_from_yields_List}
use Rattle.std.specs.List.{filter}
use Rattle.marks.proofs.EndingLaws.{ending_count, has_status}
use Rattle.marks.proofs.points.count.Goals as goal

pub returns : goal.returns
returns c = λ f K e.
    count_from_yields_List c.filter.result _ c.count.ensures.ran
    (YieldsList-from_filter _ has_status (YieldsList-from_slice c.args.moods.now (cc)) c.filter.ensures.closure (λ x r q k. search (rules, tests)))
    ∙ ap (λ (l : List ℕ). length (filter has_status l)) e
    ∙ ending_count f K
