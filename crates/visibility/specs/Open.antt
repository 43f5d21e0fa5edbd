-- Opening a map (RULES 2.2, 4.4: opening starts empty, a refused one gives a map that is all zero). Definitions only.
use Rattle.std.specs.Prelude.{ℕ, suc, ◌≡◌, Float}
use Rattle.model.specs.Map.{fresh}
use Rattle.model.specs.Refusal.{refuse_open}
use Rattle.held.specs.Holds.{Behind, Holds, Tables, needs, no_map}
use Rattle.held.specs.declared.map.Outcome.{Outcome}

-- a refused call answers its number, and all else is zero
abbrev pub refused_with : ℕ → Outcome
refused_with n = record { refusal = n; map = no_map }

-- the opening with c and r
pub record Opening (c r : Float) (t t' : Tables) (o : Outcome) : Type 0 where
  pub refusal : o.refusal ≡ refuse_open (needs t) c r
  pub refused : (n : ℕ) → o.refusal ≡ suc n → (t' ≡ t) × (o ≡ refused_with (suc n))
  pub answer : o.refusal ≡ 0 → o.map ≡ record { size = c; radius = r; cells = 0; points = 0 }
  pub holds : o.refusal ≡ 0 → Holds o.map t' (fresh c r)
  pub behind : o.refusal ≡ 0 → Behind t t'
