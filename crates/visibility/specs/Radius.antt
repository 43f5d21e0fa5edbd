-- Changing the radius of a map (RULES 7.2, 4; occupancy/mod.rs, `change_agent_radius`). Definitions only.
use Rattle.std.specs.Prelude.{ℕ, suc, ◌≡◌, ◌⊎◌, Bool, ◌||◌, [], ◌∷◌, ltb, Float, length}
use Rattle.model.specs.Limits.{max_cells, max_points}
use Rattle.model.specs.Map as model
use Rattle.model.specs.Refusal.{bad_radius, bad_size, judge, short, verdict}
use Rattle.held.specs.Holds.{Behind, Holds, Tables, needs}
use Rattle.visibility.specs.Open.{refused_with}
use Rattle.held.specs.declared.map.Map.{Map}
use Rattle.held.specs.declared.map.Outcome.{Outcome}

-- the model's refusals of a radius change (`judge`), by the map handed in alone
unfoldable pub refuse_radius : Bool → Map → Float → ℕ
refuse_radius lent m r =
    verdict
    ((9, lent)
    ∷ (1, bad_size m.size)
    ∷ (2, bad_radius m.size m.radius || bad_radius m.size r)
    ∷ (6, ltb max_cells m.cells)
    ∷ (7, ltb max_points m.points)
    ∷ [])

-- the call. Of tables that hold no map (no call gives such) no more is promised than what the struct alone decides
pub record Rebuilding (m : Map) (r : Float) (t t' : Tables) (o : Outcome) : Type 0 where
  pub input : (n : ℕ) → refuse_radius (short (needs t)) m r ≡ suc n → o ≡ refused_with (suc n)
  pub refusal : (M : model.Map) → Holds m t M → o.refusal ≡ judge (needs t) (model.radius r) M (model.next (model.radius r) M)
  pub refused : (n : ℕ) → o.refusal ≡ suc n → (t' ≡ t) × (o ≡ refused_with (suc n))
  pub answer : (M : model.Map) → Holds m t M → o.refusal ≡ 0 → o.map ≡ record { size = m.size; radius = r; cells = m.cells; points = length (model.next (model.radius r) M).layer.points }
  pub holds : (M : model.Map) → Holds m t M → o.refusal ≡ 0 → Holds o.map t' (model.next (model.radius r) M)
  pub behind : (M : model.Map) → Holds m t M → o.refusal ≡ 0 → Behind t t'

-- the calls that the record above decides whole: of tables that hold a map, and any that the input alone refuses
abbrev pub Decided : Map → Float → Tables → Type 0
Decided m r t = ((M : model.Map) × Holds m t M) ⊎ ((n : ℕ) × (refuse_radius (short (needs t)) m r ≡ suc n))
