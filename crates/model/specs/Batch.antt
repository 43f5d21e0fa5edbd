-- A batch on the occupied cells: what is confirmed, what is occupied afterwards, which statuses altered (RULES 1.9; sparse_grid.rs, `change_cells`). Definitions only.
use Rattle.std.specs.Prelude.{ℕ, Bool, true, false, cond, ◌||◌, List, [], ◌∷◌, ◌++◌}
use Rattle.std.specs.Bool.{beq}
use Rattle.model.specs.Maps.{has, add, cut}
use Rattle.model.specs.Cell.{around}
use Rattle.model.specs.Corner.{Bits, same_bits, status_of}

-- cells with their wanted occupancy, ascending
abbrev pub Batch : Type 0
Batch = List (ℕ × Bool)

abbrev pub write : ℕ → Bool → List ℕ → List ℕ
write k true C = add k C
write k false C = cut k C

-- the entries in turn (`update_cell`)
unfoldable pub cells_after : Batch → List ℕ → List ℕ
cells_after [] C = C
cells_after (e ∷ b) C = cells_after b (write e.0 e.1 C)

-- an entry is confirmed if it alters occupancy
unfoldable pub confirmed : Batch → List ℕ → Batch
confirmed [] C = []
confirmed (e ∷ b) C = let r = confirmed b (write e.0 e.1 C) in cond (beq (has e.0 C) e.1) r (e ∷ r)

-- the cells met: over the confirmed changes, then i from -1 to 1, then j
unfoldable pub met : Batch → List ℕ
met [] = []
met (e ∷ b) = around e.0 ++ met b

-- of the cells l, those not checked before, each with its new status if that is another
unfoldable pub altered : List ℕ → List ℕ → List ℕ → List ℕ → List (ℕ × Bits)
altered C C' checked [] = []
altered C C' checked (k ∷ l) =
    let rest = altered C C' (k ∷ checked) l in
    cond (has k checked || same_bits (status_of C k) (status_of C' k)) rest ((k, status_of C' k) ∷ rest)

-- C before, C' after
unfoldable pub corner_changes : List ℕ → List ℕ → Batch → List (ℕ × Bits)
corner_changes C C' ch = altered C C' [] (met ch)
