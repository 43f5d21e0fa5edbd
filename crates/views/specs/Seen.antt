-- What is seen from the cell (x, y), and the cells beside it that can be reached, as calls on a map (RULES 2.5; occupancy/mod.rs, `calculate_visibility`, `neighbors`). Definitions only.
use Rattle.std.specs.Prelude.{ℕ, ◌+◌, ◌≡◌, ◌||◌, List, [], ◌∷◌, ℤ, length}
use Rattle.answers.specs.Asking.{HoldsSome, Listing, refuse_map}
use Rattle.answers.specs.declared.judge.Count.{Count}
use Rattle.model.specs.Answers.{neighbours, visible_from}
use Rattle.model.specs.Cell.{key}
use Rattle.model.specs.Limits.{beyond, max_cells, max_coordinate, max_points, need_others}
use Rattle.model.specs.Refusal.{off_map, short}
use Rattle.held.specs.Pairs.{pair_places}
use Rattle.held.specs.Holds.{Tables}
use Rattle.held.specs.declared.map.Map.{Map}

-- the refusal that is due, by the lent lengths with their needs: 5 where the cell is more than 64 beyond the batch coordinates
abbrev pub refusal : Map → List (ℕ × ℕ) → ℤ → ℤ → ℕ
refusal m lent x y = refuse_map (short lent) m ((5, off_map (max_coordinate + beyond) x || off_map (max_coordinate + beyond) y) ∷ [])

-- the neighbours, written to out, which became out'
abbrev pub beside_lengths : List ℕ → List ℕ → List (ℕ × ℕ)
beside_lengths cells out = (length cells, max_cells) ∷ (length out, need_others) ∷ []

abbrev pub Beside : Map → List ℕ → List ℕ → ℤ → ℤ → List ℕ → Count → Type 0
Beside m cells out x y out' r =
    Listing (refusal m (beside_lengths cells out) x y) (HoldsSome m (λ t. t.cells ≡ cells)) (record { was = out; is = out'; wanted = λ M. neighbours M (key x y) } ∷ []) r

-- the points in sight
abbrev pub sight_lengths : Tables → List ℕ → List (ℕ × ℕ)
sight_lengths t out =
    (length t.cells, max_cells) ∷ (length t.points, max_points) ∷ (length t.statuses, max_points) ∷ (length t.blockers, max_points) ∷ (length t.pairs, pair_places)
    ∷ (length out, need_others) ∷ []

abbrev pub InSight : Map → Tables → List ℕ → ℤ → ℤ → List ℕ → Count → Type 0
InSight m t out x y out' r = Listing (refusal m (sight_lengths t out) x y) (HoldsSome m (λ u. u ≡ t)) (record { was = out; is = out'; wanted = λ M. visible_from M (key x y) } ∷ []) r
