-- Runs of calls on a map, by the contracts alone, with any tables lent to each call. Definitions only.
use Rattle.std.specs.Prelude.{ℕ, zero, suc, ◌≡◌, cond, ◌||◌, List, [], ◌∷◌, ◌++◌, ℤ, Float}
use Rattle.limits.specs.Batches.{entries, ragged}
use Rattle.model.specs.Map as model
use Rattle.model.specs.Refusal.{short}
use Rattle.visibility.specs.Change.{Changing, Lent, lent_needs}
use Rattle.held.specs.Holds.{Tables, needs}
use Rattle.visibility.specs.Radius.{Rebuilding}
use Rattle.visibility.specs.declared.change.Changed.{Changed}
use Rattle.held.specs.declared.map.Map.{Map}
use Rattle.held.specs.declared.map.Outcome.{Outcome}

-- what a caller keeps: his struct and his tables
pub record State : Type 0 where
  pub map : Map
  pub tables : Tables

-- each of his tables is the part u that he lends, from its front on, and then the part k that he does not
abbrev pub joined : Tables → Tables → Tables
joined u k =
    record { cells = u.cells ++ k.cells; points = u.points ++ k.points; statuses = u.statuses ++ k.statuses; blockers = u.blockers ++ k.blockers; pairs = u.pairs ++ k.pairs }

-- after a refused call he goes on with the struct that he had
abbrev pub goes_on : ℕ → Map → Map → Map
goes_on zero given had = given
goes_on (suc n) given had = had

-- a batch of any numbers, with any tables lent; what is not lent stays
pub record Batched (s s' : State) : Type 0 where
  pub numbers : List ℤ
  pub lent : Lent
  pub kept : Tables
  pub left : Lent
  pub answer : Changed
  pub own : s.tables ≡ joined lent.tables kept
  pub call : Changing s.map numbers lent left answer
  pub then : s' ≡ record { map = goes_on answer.refusal answer.map s.map; tables = joined left.tables kept }

-- a change to any radius
pub record Resized (s s' : State) : Type 0 where
  pub radius : Float
  pub lent : Tables
  pub kept : Tables
  pub left : Tables
  pub answer : Outcome
  pub own : s.tables ≡ joined lent kept
  pub call : Rebuilding s.map radius lent left answer
  pub then : s' ≡ record { map = goes_on answer.refusal answer.map s.map; tables = joined left kept }

-- calls one after another
pub data Calls : State → State → Type 0 where
  none : {s : State} → Calls s s
  batch : {s m s' : State} → Batched s m → Calls m s' → Calls s s'
  radius : {s m s' : State} → Resized s m → Calls m s' → Calls s s'

-- what the model hears of them: nothing of a call with a buffer short of its need, or with a ragged batch, which its input alone refuses; else the operation
abbrev pub heard : {s s' : State} → Calls s s' → List model.Op
heard none = []
heard (batch b k) = let os = heard k in cond (short (lent_needs b.lent) || ragged b.numbers) os (model.batch (entries b.numbers) ∷ os)
heard (radius b k) = let os = heard k in cond (short (needs b.lent)) os (model.radius b.radius ∷ os)
