-- The listing of a map in a lent buffer, as a call on the map (RULES 6.1): the refusal that is due, the map that is held, the output. Definitions only.
use Rattle.std.specs.Prelude.{ℕ, ◌≡◌, List, [], ◌∷◌, length}
use Rattle.answers.specs.Asking.{HoldsSome, Listing, Output, refuse_map}
use Rattle.answers.specs.Walks.{table_needs}
use Rattle.answers.specs.declared.judge.Count.{Count}
use Rattle.held.specs.declared.map.Map.{Map}
use Rattle.model.specs.Limits.{need_listing}
use Rattle.model.specs.Listing.{listed}
use Rattle.model.specs.Map as model
use Rattle.model.specs.MapFile.{done}
use Rattle.model.specs.Refusal.{short}

-- the map that the lent tables hold, and the buffer `out`, which became out'
module _ (m : Map) (cells points statuses blockers pairs out : List ℕ) where
  abbrev pub map_due : ℕ
  map_due = refuse_map (short (table_needs (length cells) (length points) (length statuses) (length blockers) (length pairs) ((length out, need_listing) ∷ []))) m []

  abbrev pub MapHeld : model.Map → Type 0
  MapHeld = HoldsSome m (λ t. (t.cells ≡ cells) × (t.points ≡ points) × (t.statuses ≡ statuses) × (t.blockers ≡ blockers) × (t.pairs ≡ pairs))

  abbrev pub map_out : List ℕ → List Output
  map_out out' = record { was = out; is = out'; wanted = λ M. listed (done M) } ∷ []

  abbrev pub MapListed : List ℕ → Count → Type 0
  MapListed out' r = Listing map_due MapHeld (map_out out') r
