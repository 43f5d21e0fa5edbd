-- The changes of a batch one after another: what blocks a point, or a pair, after each. Assumes nothing.
use Prim.Native.Nat.{ℕ}
use mathlib.Core.Path.{◌≡◌, refl, sym}
use mathlib.Core.Bool.{Bool, cond}
use mathlib.Core.List.{List, [], ◌∷◌}
use mathlib.Core.Option.{Option}
use Rattle.limits.specs.Batches.{flags}
use Rattle.model.specs.Batch.{Batch}
use Rattle.model.specs.ClosedForm.{point_run}
use Rattle.model.specs.Good.{Inside}
use Rattle.model.specs.Layer.{Tests, edge_after, edge_run, point_after}
use Rattle.model.specs.Limits.{max_coordinate}
use Rattle.model.specs.Maps.{keys}
use Rattle.std.specs.List.{zip}
use Rattle.table.specs.Listed.{values}
use Rattle.table.specs.Tables.{All}
use Rattle.held.specs.Codes.{Named, block_code}
use Rattle.sight.specs.Run.{Ran, Turns}

-- the run F makes one step for each change
pub record Steps (F : Batch → Option ℕ → Option ℕ) (step : ℕ → Bool → Option ℕ → Option ℕ) : Type 0 where
  pub done : (o : Option ℕ) → F [] o ≡ o
  pub next : (e : ℕ × Bool) (ch : Batch) (o : Option ℕ) → F (e ∷ ch) o ≡ F ch (step e.0 e.1 o)

pub point_steps : (t : Tests) (C : List ℕ) (k : ℕ) → Steps (point_run t C k) (point_after t C k)
unfolding point_run
point_steps t C k = record { done = λ o. refl; next = λ e ch o. refl }

pub edge_steps : (t : Tests) (C : List ℕ) (p q : ℕ) → Steps (edge_run t C p q) (edge_after t C p q)
unfolding edge_run
edge_steps t C p q = record { done = λ o. refl; next = λ e ch o. refl }

-- the number of a blocker that is no other code
pub record Coded (block : ℕ) (o : Option ℕ) : Type 0 where
  pub code : block ≡ block_code o
  pub named : Named o

-- a turn of the loop is a step of the run
abbrev pub Follows : (ℕ → ℕ → Bool → Type 0) → (ℕ → Type 0) → (ℕ → Bool → Option ℕ → Option ℕ) → Type 0
Follows meets again step =
    (c : ℕ) (u : Bool) (o : Option ℕ) (b r : ℕ) → Inside max_coordinate c → Coded b o → Turns meets again b (c, cond u 1 0) r → Coded r (step c u o)

-- .. and so the loop over the listed changes makes what all steps make
pub run_follows : (F : Batch → Option ℕ → Option ℕ) (step : ℕ → Bool → Option ℕ → Option ℕ) → Steps F step → (meets : ℕ → ℕ → Bool → Type 0) (again : ℕ → Type 0) → Follows meets again step
    → (ch : Batch) (o : Option ℕ) (b r : ℕ) → All (Inside max_coordinate) (keys ch) → Coded b o → Ran meets again (zip (keys ch) (values (flags ch))) b r → Coded r (F ch o)
unfolding keys
run_follows F step s meets again f [] o b r a w g = rw (s.done o, sym g) w
run_follows F step s meets again f (e ∷ ch) o b r a w g =
    rw (s.next e ch o) (run_follows F step s meets again f ch (step e.0 e.1 o) g.0 r a.1 (f e.0 e.1 o b g.0 a.0 w g.1) g.2)
