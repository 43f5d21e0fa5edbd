-- `segment::search::SearchF64::check_max` meets its contract: the shared walk, at `greatest`. Assumes nothing.
use Rattle.std.proofs.Common.{refl}
use Rattle.model.specs.Segment.{check_max}
use Rattle.segment.specs.Search.{held, kept}
use Rattle.segment.proofs.SearchWalk.{stores}
use Rattle.segment.proofs.search.SearchF64.greatest.Symbol as callee
use Rattle.segment.proofs.search.SearchF64.greatest.Met.{met}
use Rattle.segment.specs.contracts.search.SearchF64.check_max.Key.{name}
use Rattle.segment.proofs.search.SearchF64.check_max.Statement.{statement}
use Rattle.segment.proofs.search.SearchF64.check_max.Code as code

pub check_max_spec : {M : Type 1} → statement M
check_max_spec 𝓤 𝓛 𝓜 𝓡 wired =
    stores (λ s a. kept (check_max (held s) a)) 𝓛 𝓜 𝓡 𝓡.env name callee.name (𝓡.env callee.name) (code.unfolded 𝓤 𝓛.H 𝓜 𝓡 wired) refl
    (met 𝓤 𝓛 𝓜 𝓡 (code.calls-segment::search::SearchF64::greatest 𝓡.env wired))
