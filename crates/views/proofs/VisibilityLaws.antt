-- The points in sight of a cell, as a call lists them. Assumes nothing.
use Prim.Native.Nat.{ℕ, ◌+◌, ◌-◌, ◌*◌, ◌≤◌, ◌<◌}
use native.Mathlib.Omega.{arith}
use mathlib.Core.Path.{◌≡◌, refl, sym, ap, ◌∙◌, subst}
use mathlib.Core.Bool.{Bool, true, false, cond, ◌&&◌}
use mathlib.Core.List.{List, [], ◌∷◌}
use lib.IntN.{ℤ}
use lib.ListN.{drop, get_or, length, length-drop, take}
use lib.Seq.{get_or-drop, get_or-take, length-take-le}
use borrow.Author.Tests.{lt-ltb}
use Rattle.answers.specs.Asking.{Front, HoldsSome}
use Rattle.answers.specs.Told.{counted}
use Rattle.std.specs.Prelude.{Ok}
use Rattle.answers.proofs.ListingLaws.{listing_done}
use Rattle.limits.proofs.FloorLaws.{holds_cells}
use Rattle.held.specs.Layers.{blocks_of, edge_at, statuses_of}
use Rattle.model.specs.Answers.{free, free_points, from_elsewhere, from_point, visible_from}
use Rattle.model.specs.Cell.{key}
use Rattle.model.specs.Corner.{sees}
use Rattle.model.specs.Good.{Inside}
use Rattle.model.specs.Layer.{Points, edge}
use Rattle.model.specs.Limits.{max_coordinate, max_points}
use Rattle.model.specs.Map as model
use Rattle.model.specs.Maps.{AscL, has, keys}
use Rattle.model.proofs.SiftLaws.{sift_twice}
use Rattle.model.proofs.MapLaws.{keys_has}
use Rattle.model.proofs.OrderLaws.{asc_keys}
use Rattle.held.specs.Codes.{AllNamed, NamedPair, codes, pair_code}
use Rattle.table.specs.Tables.{All, rank, stands}
use Rattle.table.proofs.ListedLaws.{keys_length}
use Rattle.table.proofs.LookLaws.{stands_has, stands_inside}
use Rattle.held.specs.Holds.{Holds, Tables}
use Rattle.held.specs.declared.map.Map.{Map}
use Rattle.held.proofs.LayerLaws.{layer_blocks, layer_keys, layer_statuses}
use Rattle.held.proofs.NamedLaws.{blocks_named_lem, pairs_named}
use Rattle.held.proofs.RoomLaws.{Enough}
use Rattle.held.proofs.PlaceLaws.{rank_at, rank_inside}
use Rattle.views.specs.Kept.{marked, seen}
use Rattle.views.specs.Seen.{InSight, refusal, sight_lengths as lengths}
use Rattle.views.proofs.CallLaws.{few_cells, few_points, rooms}
use Rattle.views.proofs.MarkedLaws.{Tells, marked_open}
use Rattle.views.proofs.WroteLaws.{written_list}

-- ---- of the map that is held
module _ (m : Map) (t : Tables) (M : model.Map) (h : Holds m t M) (k : ℕ) where
  abbrev ps : Points
  ps = M.layer.points

  abbrev own : List ℕ
  own = take m.points t.points

  order : AscL 0 own
  order = rw (layer_keys h.layer) (asc_keys 0 ps h.good.point_order)

  -- k is a point, or none, by what is at its place
  module _ (at : ℕ) (e : AscL 0 own → at ≡ rank k own) where
    point_has : has k (keys ps) ≡ stands k at own
    point_has = ap (has k) (sym (layer_keys h.layer)) ∙ sym (stands_has k at own order (e order))

    chosen : (b : Bool) → stands k at own ≡ b → visible_from M k ≡ cond b (from_point M k) (from_elsewhere M k)
    unfolding visible_from
    chosen b s = rw (sym (keys_has k ps) ∙ point_has ∙ s) refl

    module _ (s : stands k at own ≡ true) where
      there : has k (keys ps) ≡ true
      there = point_has ∙ s

      at_is : at ≡ rank k (keys ps)
      at_is = e order ∙ ap (rank k) (layer_keys h.layer)

      at_key : get_or (keys ps) at 0 ≡ k
      at_key = ap (λ (i : ℕ). get_or (keys ps) i 0) at_is ∙ rank_at k (keys ps) (asc_keys 0 ps h.good.point_order) there

      at_inside : at < length ps
      at_inside = let b = rank_inside k (keys ps) (asc_keys 0 ps h.good.point_order) there in omega (arith, b, at_is, keys_length ps)

      -- the pair of k and the j-th point, as the table has it
      pair_at_lem : (j : ℕ) → j < length ps → edge_at M.layer at j ≡ edge k (get_or (keys ps) j 0) M.layer.edges
      unfolding edge_at
      pair_at_lem j l = rw (lt-ltb at (length ps) at_inside, lt-ltb j (length ps) l, at_key) refl

      tells : (w : ℕ) → m.points ≤ w → Tells k M.layer.edges ps (take w (drop (64 * at) t.pairs))
      tells w more j l =
          let c : m.points ≡ length ps = h.layer.count in
          let i : j < w = omega (arith, l, more, c) in
          let p = pair_at_lem j l in
          let r : length ps ≤ 64 = h.layer.room in
          let u : at < max_points = omega (arith, at_inside, r) in
          let v : j < max_points = omega (arith, l, r) in
          (get_or-take w (drop (64 * at) t.pairs) j 0 i ∙ get_or-drop (64 * at) t.pairs j 0 ∙ h.layer.pairs_are at j u v ∙ ap pair_code p, subst NamedPair p (pairs_named h.good at j))

      pub from_point_lem : (w : ℕ) → m.points ≤ w → 64 * at + w ≤ length t.pairs → visible_from M k ≡ marked own (take w (drop (64 * at) t.pairs))
      unfolding from_point
      from_point_lem w more fits =
          let c : m.points ≡ length ps = h.layer.count in
          chosen true s ∙ sym (marked_open k M.layer.edges ps (take w (drop (64 * at) t.pairs)) (tells w more)) ∙ rw (layer_keys h.layer) refl

    pub from_elsewhere_lem : stands k at own ≡ false → visible_from M k ≡ seen m.size m.radius (take m.cells t.cells) k ps
    unfolding from_elsewhere free_points
    from_elsewhere_lem s =
        chosen false s
        ∙ ap keys (sift_twice (λ p. free p.1.block) (λ q. sees k q.0 q.1.bits && free ((model.tests M.size M.layer.radius).sweep M.cells k q.0).cell) ps)
        ∙ rw (holds_cells t.cells m.cells M.cells h.cells, h.size, h.radius) refl

-- nothing is refused
pub record Going (m : Map) (t : Tables) (out : List ℕ) (x y : ℤ) : Type 0 where
  pub pass : refusal m (lengths t out) x y ≡ 0

module _ {m : Map} {t : Tables} {out : List ℕ} {x y : ℤ} (g : Going m t out x y) where
  room : Enough (lengths t out)
  room = rooms m (lengths t out) x y g.pass

  few : m.points ≤ 64
  few = few_points m (lengths t out) x y g.pass

  pub cells_used : length (take m.cells t.cells) ≡ m.cells
  cells_used = length-take-le m.cells t.cells (omega (arith, room.0, few_cells m (lengths t out) x y g.pass))

  pub points_used : length (take m.points t.points) ≡ m.points
  points_used = length-take-le m.points t.points (omega (arith, room.1.0, few))

  pub statuses_used : length (take m.points t.statuses) ≡ m.points
  statuses_used = length-take-le m.points t.statuses (omega (arith, room.1.1.0, few))

  pub blockers_used : length (take m.points t.blockers) ≡ m.points
  blockers_used = length-take-le m.points t.blockers (omega (arith, room.1.1.1.0, few))

  pub seen_fits : (length (take m.points t.points) ≤ length (take m.points t.statuses)) × (length (take m.points t.points) ≤ length (take m.points t.blockers))
      × (length (take m.points t.points) ≤ length out)
  seen_fits = (omega (arith, points_used, statuses_used), omega (arith, points_used, blockers_used), omega (arith, points_used, few, room.1.1.1.1.1.0))

  -- k's row of pairs
  module _ (k at : ℕ) (s : stands k at (take m.points t.points) ≡ true) where
    pub row_inside : (at < 64) × (m.points ≤ 64) × (64 * at + m.points ≤ length t.pairs)
    row_inside =
        let b = stands_inside k at (take m.points t.points) s in
        (omega (arith, b, points_used, few), few, omega (arith, b, points_used, few, room.1.1.1.1.0))

    pub paired_fits : (length (take m.points t.points) ≤ length (take (64 * at + m.points - 64 * at) (drop (64 * at) t.pairs))) × (length (take m.points t.points) ≤ length out)
    paired_fits =
        let d : length (drop (64 * at) t.pairs) ≡ length t.pairs - 64 * at = length-drop (64 * at) t.pairs in
        let w : length (take (64 * at + m.points - 64 * at) (drop (64 * at) t.pairs)) ≡ 64 * at + m.points - 64 * at = length-take-le (64 * at + m.points - 64 * at) (drop (64 * at) t.pairs) (omega (arith, d, row_inside.2)) in
        (omega (arith, w, points_used), omega (arith, points_used, few, room.1.1.1.1.1.0))

  module _ (k : ℕ) (q : k ≡ key x y) (at : ℕ) (p : AscL 0 (take m.points t.points) → at ≡ rank k (take m.points t.points)) (out' : List ℕ) (found : ℕ) where
    listed : (l : model.Map → List ℕ) → ((M : model.Map) → Holds m t M → (visible_from M k ≡ l M) × Front (l M) found out out') → InSight m t out x y out' (counted (Ok found))
    listed l f =
        listing_done (refusal m (lengths t out) x y) (HoldsSome m (λ u. u ≡ t)) (record { was = out; is = out'; wanted = λ M. visible_from M (key x y) } ∷ []) found (sym g.pass)
        (λ M h. let v = f M (subst (λ (u : Tables). Holds m u M) h.2 h.1) in written_list found out out' (λ M. visible_from M (key x y)) M (l M) (ap (visible_from M) (sym q) ∙ v.0) v.1)

    pub paired_listed : stands k at (take m.points t.points) ≡ true → Front (marked (take m.points t.points) (take (64 * at + m.points - 64 * at) (drop (64 * at) t.pairs))) found out out'
        → InSight m t out x y out' (counted (Ok found))
    paired_listed s f =
        listed (λ M. marked (take m.points t.points) (take (64 * at + m.points - 64 * at) (drop (64 * at) t.pairs)))
        (λ M h. (from_point_lem m t M h k at p s (64 * at + m.points - 64 * at) (omega arith) (omega (arith, (row_inside k at s).2)), f))

    pub seen_listed : stands k at (take m.points t.points) ≡ false
        → ((ps : Points) → AscL 0 (take m.cells t.cells) → All (Inside max_coordinate) (take m.cells t.cells) → take m.points t.points ≡ keys ps → take m.points t.statuses ≡ statuses_of ps
        → take m.points t.blockers ≡ codes (blocks_of ps) → AllNamed (blocks_of ps) → Front (seen m.size m.radius (take m.cells t.cells) k ps) found out out')
        → InSight m t out x y out' (counted (Ok found))
    seen_listed s f =
        listed (λ M. seen m.size m.radius (take m.cells t.cells) k M.layer.points)
        (λ M h. let c = holds_cells t.cells m.cells M.cells h.cells in (
          from_elsewhere_lem m t M h k at p s,
          f M.layer.points (subst (AscL 0) (sym c) h.cells.order) (subst (All (Inside max_coordinate)) (sym c) h.cells.inside) (layer_keys h.layer) (layer_statuses h.layer) (layer_blocks h.layer) (blocks_named_lem h.good),
        ))
