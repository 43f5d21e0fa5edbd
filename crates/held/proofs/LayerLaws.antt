-- What a layer's tables hold, taken out of their used places, and the room that they have. Assumes nothing.
use Prim.Native.Nat.{ℕ, suc, ◌≤◌}
use mathlib.Core.Path.{◌≡◌, refl, sym, ap, ◌∙◌}
use mathlib.Core.List.{List, [], ◌∷◌}
use mathlib.Core.Option.{Option}
use lib.ListN.{length, take}
use Rattle.held.specs.Layers.{HoldsLayer, blocks_of, statuses_of}
use Rattle.model.specs.Layer.{Layer, Points}
use Rattle.model.specs.Limits.{max_points}
use Rattle.model.specs.Maps.{keys}
use Rattle.held.specs.Codes.{codes}
use Rattle.table.proofs.ListedLaws.{keys_length}
use Rattle.held.proofs.PadLaws.{padded_room, padded_used}

pub statuses_length : (ps : Points) → length (statuses_of ps) ≡ length ps
statuses_length [] = refl
statuses_length (e ∷ ps) = ap suc (statuses_length ps)

pub codes_length : (B : List (Option ℕ)) → length (codes B) ≡ length B
codes_length [] = refl
codes_length (o ∷ B) = ap suc (codes_length B)

pub blocks_length : (ps : Points) → length (blocks_of ps) ≡ length ps
blocks_length [] = refl
blocks_length (e ∷ ps) = ap suc (blocks_length ps)

pub codes_count : (ps : Points) → length (codes (blocks_of ps)) ≡ length ps
codes_count ps = codes_length (blocks_of ps) ∙ blocks_length ps

module _ {points statuses blockers pairs : List ℕ} {n : ℕ} {l : Layer} (h : HoldsLayer points statuses blockers pairs n l) where
  -- no more points than there may be
  pub layer_few : n ≤ max_points
  layer_few = rw h.count h.room

  pub layer_keys : take n points ≡ keys l.points
  layer_keys = padded_used max_points (keys l.points) points n (h.count ∙ sym (keys_length l.points)) h.keys_are

  pub layer_statuses : take n statuses ≡ statuses_of l.points
  layer_statuses = padded_used max_points (statuses_of l.points) statuses n (h.count ∙ sym (statuses_length l.points)) h.statuses_are

  pub layer_blocks : take n blockers ≡ codes (blocks_of l.points)
  layer_blocks = padded_used max_points (codes (blocks_of l.points)) blockers n (h.count ∙ sym (codes_count l.points)) h.blocks_are

  -- each table has room for as many points as there may be
  pub layer_rooms : (max_points ≤ length points) × (max_points ≤ length statuses) × (max_points ≤ length blockers)
  layer_rooms = (
    padded_room max_points (keys l.points) points (rw (keys_length l.points) h.room) h.keys_are,
    padded_room max_points (statuses_of l.points) statuses (rw (statuses_length l.points) h.room) h.statuses_are,
    padded_room max_points (codes (blocks_of l.points)) blockers (rw (codes_count l.points) h.room) h.blocks_are,
  )
