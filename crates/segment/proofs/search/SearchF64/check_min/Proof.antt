-- `segment::search::SearchF64::check_min` meets its contract: the shared walk, at `least`. Assumes nothing.
use Rattle.std.proofs.Common.{refl}
use Rattle.model.specs.Segment.{check_min}
use Rattle.segment.specs.Search.{held, kept}
use Rattle.segment.proofs.SearchWalk.{stores}
use Rattle.segment.proofs.search.SearchF64.least.Symbol as callee
use Rattle.segment.proofs.search.SearchF64.least.Met.{met}
use Rattle.segment.specs.contracts.search.SearchF64.check_min.Key.{name}
use Rattle.segment.proofs.search.SearchF64.check_min.Statement.{statement}
use Rattle.segment.proofs.search.SearchF64.check_min.Code as code

pub check_min_spec : {M : Type 1} → statement M
check_min_spec 𝓤 𝓛 𝓜 𝓡 wired =
    stores (λ s a. kept (check_min (held s) a)) 𝓛 𝓜 𝓡 𝓡.env name callee.name (𝓡.env callee.name) (code.unfolded 𝓤 𝓛.H 𝓜 𝓡 wired) refl
    (met 𝓤 𝓛 𝓜 𝓡 (code.calls-segment::search::SearchF64::least 𝓡.env wired))
