-- The blockers of a good layer are keys that are no other code. Assumes nothing.
use Prim.Native.Nat.{ℕ, ◌≤◌}
use native.Mathlib.Omega.{arith}
use mathlib.Core.Path.{◌≡◌, refl}
use mathlib.Core.Bool.{Bool, true, false, cond, ◌&&◌}
use mathlib.Core.List.{List, [], ◌∷◌}
use mathlib.Core.Option.{Option, none, some}
use lib.Dec.{T, ltb}
use lib.ListN.{get_or, length}
use Rattle.model.specs.Good.{Good, Inside}
use Rattle.model.specs.Layer.{Layer, Points, edge}
use Rattle.model.specs.Limits.{max_coordinate}
use Rattle.model.specs.Maps.{has, keys}
use Rattle.model.proofs.OrderLaws.{Within, asc_within}
use Rattle.held.specs.Codes.{AllNamed, Named, NamedPair}
use Rattle.held.specs.Pairs.{PairsNamed}
use Rattle.held.specs.Layers.{blocks_of, edge_at}

-- the key of a cell within the batch coordinates is no other code
pub inside_named : (k : ℕ) → Inside max_coordinate k → 2 ≤ k
inside_named k h = omega arith

module _ {s : ℕ} {C : List ℕ} {l : Layer} (g : Good s C l) where
  occupied_named : (o : Option ℕ) → ((b : ℕ) → o ≡ some b → T (has b C)) → Named o
  occupied_named none f = tt
  occupied_named (some b) f = inside_named b (g.inside b (f b refl))

  within_named : (r : Points) → Within l.points r → AllNamed (blocks_of r)
  within_named [] w = tt
  within_named (e ∷ r) w = (occupied_named e.1.block (λ b q. g.point_block e.0 b e.1 w.0 q), within_named r w.1)

  pub blocks_named_lem : AllNamed (blocks_of l.points)
  blocks_named_lem = within_named l.points (asc_within 0 l.points g.point_order)

  pub pairs_named : PairsNamed (edge_at l)
  unfolding edge_at
  pairs_named i j = go (ltb i (length l.points) && ltb j (length l.points)) (edge p q l.edges) refl
    where
      p : ℕ
      p = get_or (keys l.points) i 0

      q : ℕ
      q = get_or (keys l.points) j 0

      go : (v : Bool) (o : Option (Option ℕ)) → edge p q l.edges ≡ o → NamedPair (cond v o none)
      go true none e = tt
      go true (some o) e = occupied_named o (λ b x. g.edge_block p q b (rw x at e))
      go false o e = tt
