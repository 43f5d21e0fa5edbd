-- Between functions: the counts of a listing's first line (the model's `summary`). Definitions only.
use Rattle.std.specs.Prelude.{ℕ, ◌≡◌, [], length, Result, Ok}
use Rattle.answers.specs.Asking.{refuse_map}
use Rattle.held.specs.Holds.{Holds, Tables, needs}
use Rattle.held.specs.declared.map.Map.{Map}
use Rattle.limits.specs.declared.refusal.Refusal.{Refusal}
use Rattle.model.specs.Refusal.{short}
use Rattle.model.specs.Answers.{corners, open_pairs}
use Rattle.model.specs.Blocks.{block_count}
use Rattle.model.specs.Map as model
use Rattle.print.specs.declared.counts.Counts.{Counts}

-- where the map m is not refused, and none of the lent tables t is short, r is a value, and what f says of the map that they hold
abbrev pub Tells : {A : Type 0} → Map → Tables → (model.Map → A) → Result A Refusal → Type 0
Tells {A} m t f r = refuse_map (short (needs t)) m [] ≡ 0 → (n : A) × (r ≡ Ok n) × ((M : model.Map) → Holds m t M → n ≡ f M)

-- those of a map with so many points and pairs
abbrev pub counts_of : ℕ → ℕ → model.Map → Counts
counts_of points edges M = record { cells = length M.cells; corners = length (corners M); points = points; edges = edges; «open» = length (open_pairs M); blocks = block_count M.cells }
