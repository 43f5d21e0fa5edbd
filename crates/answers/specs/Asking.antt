-- What every call has in common that leaves the map as it is: its refusals, and the lists that it writes to lent places (RULES 4.2, 2.2). Definitions only.
use Rattle.std.specs.Prelude.{ℕ, suc, ◌≡◌, Bool, List, [], ◌∷◌, ◌++◌, ltb, drop, length}
use Rattle.model.specs.Limits.{max_cells, max_points}
use Rattle.model.specs.Map as model
use Rattle.model.specs.Refusal.{Dues, bad_radius, bad_size, verdict}
use Rattle.held.specs.Holds.{Holds, Tables}
use Rattle.held.specs.declared.map.Map.{Map}
use Rattle.answers.specs.declared.judge.Count.{Count}

-- the model's refusals of such a call (`refuse_asking`), by what is handed in alone: whether a lent table is short, the map, and what the call is judged by besides
abbrev pub on_map : Bool → Map → Dues → Dues
on_map lent m more = (9, lent) ∷ (1, bad_size m.size) ∷ (2, bad_radius m.size m.radius) ∷ (6, ltb max_cells m.cells) ∷ (7, ltb max_points m.points) ∷ more

unfoldable pub refuse_map : Bool → Map → Dues → ℕ
refuse_map lent m more = verdict (on_map lent m more)

-- a refused call answers its number, and all else is zero
abbrev pub refused_with : ℕ → Count
refused_with n = record { refusal = n; count = 0 }

-- the struct and tables of which the lent ones are some (P) hold the model's map M
abbrev pub HoldsSome : Map → (Tables → Type 0) → model.Map → Type 0
HoldsSome m P M = (t : Tables) × Holds m t M × P t

-- the n things v stand at the front of t', and behind them is what t had there
abbrev pub Front : List ℕ → ℕ → List ℕ → List ℕ → Type 0
Front v n t t' = (n ≡ length v) × (t' ≡ v ++ drop n t)

-- a lent output: what it was, what it is then, and the list that is wanted of a map
pub record Output : Type 0 where
  pub was : List ℕ
  pub is : List ℕ
  pub wanted : model.Map → List ℕ

-- n things stand at the front of each output, and what follows is untouched
abbrev pub Written : model.Map → ℕ → List Output → Type 0
Written M n [] = Unit {0}
Written M n (o ∷ os) = (n ≡ length (o.wanted M)) × (o.is ≡ o.wanted M ++ drop n o.was) × Written M n os

abbrev pub Untouched : List Output → Type 0
Untouched [] = Unit {0}
Untouched (o ∷ os) = (o.is ≡ o.was) × Untouched os

-- the call that is refused with n, or lists what is wanted of the map that Hold names. Of tables that hold no map (no call gives such) no more is promised
pub record Listing (n : ℕ) (Hold : model.Map → Type 0) (os : List Output) (r : Count) : Type 0 where
  pub refusal : r.refusal ≡ n
  pub refused : (k : ℕ) → n ≡ suc k → (r ≡ refused_with (suc k)) × Untouched os
  pub answer : (M : model.Map) → Hold M → n ≡ 0 → Written M r.count os
