-- Any two outcomes that a call's contract permits are equal: of tables that hold a map, and wherever the call is refused. Assumes nothing.
use Prim.Native.Nat.{ℕ}
use mathlib.Core.Path.{◌≡◌, refl}
use mathlib.Core.List.{List, []}
use lib.IntN.{ℤ}
use Rattle.answers.specs.Asking.{HoldsSome, Output}
use Rattle.answers.specs.declared.judge.Count.{Count}
use Rattle.answers.proofs.ListingLaws.{Settled, list_one}
use Rattle.model.specs.Answers.{neighbours, visible_from}
use Rattle.model.specs.Cell.{key}
use Rattle.model.specs.Map as model
use Rattle.held.specs.Holds.{Tables}
use Rattle.held.specs.declared.map.Map.{Map}
use Rattle.views.specs.Seen.{Beside, InSight, beside_lengths, refusal, sight_lengths}

module _ (m : Map) (cells out a b : List ℕ) (x y : ℤ) (r q : Count) (u : Beside m cells out x y a r) (v : Beside m cells out x y b q) where
  abbrev Cells : model.Map → Type 0
  Cells = HoldsSome m (λ t. t.cells ≡ cells)

  abbrev steps : List ℕ → Output
  steps l = record { was = out; is = l; wanted = λ M. neighbours M (key x y) }

  pub neighbours_one : Settled (refusal m (beside_lengths cells out) x y) Cells → (r ≡ q) × (a ≡ b)
  neighbours_one s = let z = list_one (refusal m (beside_lengths cells out) x y) Cells (steps a) (steps b) [] [] r q (refl, refl, tt) u v s in (z.0, z.1.0)

module _ (m : Map) (t : Tables) (out a b : List ℕ) (x y : ℤ) (r q : Count) (u : InSight m t out x y a r) (v : InSight m t out x y b q) where
  abbrev Whole : model.Map → Type 0
  Whole = HoldsSome m (λ w. w ≡ t)

  abbrev points : List ℕ → Output
  points l = record { was = out; is = l; wanted = λ M. visible_from M (key x y) }

  pub visibility_one : Settled (refusal m (sight_lengths t out) x y) Whole → (r ≡ q) × (a ≡ b)
  visibility_one s = let z = list_one (refusal m (sight_lengths t out) x y) Whole (points a) (points b) [] [] r q (refl, refl, tt) u v s in (z.0, z.1.0)
