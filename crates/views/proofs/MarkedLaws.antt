-- The entries whose number is 1: the open pairs of a point, where the numbers tell its pairs. Assumes nothing.
use Prim.Native.Nat.{ℕ, ◌<◌}
use mathlib.Core.Path.{◌≡◌, sym, ap, ◌∙◌}
use mathlib.Core.List.{List}
use lib.Dec.{eqb}
use lib.ListN.{get_or, length}
use Rattle.answers.proofs.KeepLaws.{picked_keys, picked_same}
use Rattle.answers.proofs.PointLaws.{key_at_lem, nowhere, point_at}
use Rattle.held.specs.Codes.{NamedPair, pair_code}
use Rattle.model.specs.Answers.{open_edge}
use Rattle.model.specs.Layer.{Edges, Points, edge}
use Rattle.model.specs.Maps.{keys, sift}
use Rattle.table.proofs.ListedLaws.{keys_length}
use Rattle.views.specs.Kept.{marked}
use Rattle.views.proofs.FreeLaws.{pair_open}

-- a row that tells the pairs of k with the points
module _ (k : ℕ) (E : Edges) where
  abbrev pub Tells : Points → List ℕ → Type 0
  Tells ps row = (j : ℕ) → j < length ps → (get_or row j 0 ≡ pair_code (edge k (get_or (keys ps) j 0) E)) × NamedPair (edge k (get_or (keys ps) j 0) E)

  pub marked_open : (ps : Points) (row : List ℕ) → Tells ps row → marked (keys ps) row ≡ keys (sift (λ q. open_edge (edge k q.0 E)) ps)
  marked_open ps row f =
      picked_same (λ i. eqb (get_or row i 0) 1) (λ i. open_edge (edge k (point_at ps i).0 E)) (keys ps) each ∙ picked_keys (λ q. open_edge (edge k q.0 E)) nowhere ps
    where
      each : (i : ℕ) → i < length (keys ps) → eqb (get_or row i 0) 1 ≡ open_edge (edge k (point_at ps i).0 E)
      each i h =
          let told = f i (rw (keys_length ps) at h) in
          ap (λ (x : ℕ). eqb x 1) told.0 ∙ sym (pair_open (edge k (get_or (keys ps) i 0) E) told.1) ∙ ap (λ (q : ℕ). open_edge (edge k q E)) (key_at_lem ps i)
