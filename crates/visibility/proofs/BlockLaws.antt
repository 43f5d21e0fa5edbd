-- What blocks the points after an update, by what is kept of them: the blockers of the layer afterwards. Assumes nothing.
use Prim.Native.Nat.{ℕ, suc, ◌-◌}
use native.Mathlib.Omega.{arith}
use mathlib.Core.Path.{◌≡◌, refl, sym, ap, ◌∙◌}
use mathlib.Core.Bool.{Bool, true, false, cond, ◌||◌}
use mathlib.Core.List.{List, [], ◌∷◌}
use mathlib.Core.Option.{Option, none, some, some-injective, none-ne-some}
use lib.Dec.{T, eqb, ltb}
use lib.ListN.{get_or}
use borrow.Author.Tests.{eqb-true, lt-ltb, le-ltb}
use Rattle.model.specs.Batch.{Batch}
use Rattle.model.specs.ClosedForm.{Closed, block_in, block_of, closed_point, kept, point_run, start_block, stays}
use Rattle.model.specs.Corner.{any_bit}
use Rattle.model.specs.Good.{bits_in, want}
use Rattle.model.specs.Layer.{Layer, Mark, Point, Points, Tests}
use Rattle.model.specs.Maps.{Asc, get, has, is_some, keys}
use Rattle.model.proofs.MapLaws.{true→T}
use Rattle.model.proofs.OrderLaws.{Within, asc_within}
use Rattle.model.proofs.SingleLaws.{asc_above}
use Rattle.sight.specs.Blocked.{point_blocks, point_start}
use Rattle.table.specs.Tables.{rank}
use Rattle.held.specs.Layers.{blocks_of}
use Rattle.visibility.specs.Layers.{stood_of}
use Rattle.held.proofs.PlaceLaws.{place_back, place_some}
use Rattle.visibility.proofs.StoodLaws.{left, left_old, stays_has}

-- a key's blocker is at the key's place
pub blocks_at : (lo : ℕ) (ps : Points) (k : ℕ) → Asc lo ps → has k (keys ps) ≡ true → get_or (blocks_of ps) (rank k (keys ps)) none ≡ block_in ps k
unfolding block_in get has keys rank
blocks_at lo [] k a h = refl
blocks_at lo (e ∷ ps) k a h = go (eqb k e.0) refl h (blocks_at (suc e.0) ps k a.1)
  where
    go : (s : Bool) → eqb k e.0 ≡ s → s || has k (keys ps) ≡ true → (has k (keys ps) ≡ true → get_or (blocks_of ps) (rank k (keys ps)) none ≡ block_of (get k ps))
        → get_or (e.1.block ∷ blocks_of ps) (cond (ltb e.0 k) (suc (rank k (keys ps))) 0) none ≡ block_of (cond s (some e.1) (get k ps))
    go true q u ih = let x : k ≡ e.0 = eqb-true k e.0 q in rw (le-ltb e.0 k (omega arith)) refl
    go false q u ih = rw (lt-ltb e.0 k (asc_above (suc e.0) k ps a.1 (true→T (has k (keys ps)) u))) (ih u)

module _ {t : Tests} {C : List ℕ} {ch : Batch} {ms : List Mark} {l l' : Layer} (cl : Closed t C ch ms l l') (order : Asc 0 l.points)
    (real : (k : ℕ) → is_some (get k l.points) ≡ any_bit (bits_in l.points k)) where
  -- where a blocker begins
  start_is : (k : ℕ) → point_start t C (blocks_of l.points) k (left ms l.points k) ≡ start_block t C ms l k
  unfolding point_start start_block kept
  start_is k = rw (left_old ms l.points real k) (go (stays ms k (bits_in l.points k)) (stays_has ms l.points real k))
    where
      r : ℕ
      r = rank k (keys l.points)

      go : (s : Bool) → (T s → has k (keys l.points) ≡ true)
          → cond (eqb (cond s (suc r) 0) 0) (t.square C k).cell (get_or (blocks_of l.points) (cond s (suc r) 0 - 1) none) ≡ cond s (block_in l.points k) (t.square C k).cell
      go true h = rw (place_some r, place_back r) (blocks_at 0 l.points k order (h tt))
      go false h = refl

  -- the blocker of a point afterwards
  block_is : (k : ℕ) (p : Point) → get k l'.points ≡ some p → point_run t C k ch (start_block t C ms l k) ≡ p.block
  unfolding closed_point
  block_is k p e = go (any_bit (want t.shift C k)) (sym (cl.point k) ∙ e)
    where
      go : (s : Bool) → ◌≡◌ {A = Option Point} (cond s (some (record { bits = want t.shift C k; block = point_run t C k ch (start_block t C ms l k) })) none) (some p)
          → point_run t C k ch (start_block t C ms l k) ≡ p.block
      go true q = ap (λ (x : Point). x.block) (some-injective _ p q)
      go false q = absurd (none-ne-some p q)

  blocks_within : (r : Points) → Within l'.points r → point_blocks t C ch (blocks_of l.points) (stood_of ms l.points r) ≡ blocks_of r
  unfolding point_blocks
  blocks_within [] w = refl
  blocks_within (e ∷ r) w = λ i. same i ∷ blocks_within r w.1 i
    where
      same : point_run t C e.0 ch (point_start t C (blocks_of l.points) e.0 (left ms l.points e.0)) ≡ e.1.block
      same = ap (point_run t C e.0 ch) (start_is e.0) ∙ block_is e.0 e.1 w.0

  -- The blockers that the points begin with, run over the changes, are those of the layer afterwards.
  pub blocks_are_lem : point_blocks t C ch (blocks_of l.points) (stood_of ms l.points l'.points) ≡ blocks_of l'.points
  blocks_are_lem = blocks_within l'.points (asc_within 0 l'.points cl.good.point_order)
