-- What blocks the pairs after an update, by what is kept of their ends: the pairs of the layer afterwards. Assumes nothing.
use Prim.Native.Nat.{ℕ, zero, suc, ◌-◌, ◌≤◌, ◌<◌}
use native.Mathlib.Nat.{le_of_suc-le-suc, not-suc-le-zero}
use native.Mathlib.Omega.{arith}
use mathlib.Core.Path.{◌≡◌, refl, sym, ap, ◌∙◌}
use mathlib.Core.Logic.{◌≢◌, ⊎_elim}
use mathlib.Core.Bool.{Bool, true, false, cond, ◌&&◌, ◌||◌, and-true, and-false}
use mathlib.Core.List.{List, [], ◌∷◌}
use mathlib.Core.Option.{Option, none, some}
use lib.Dec.{T, eqb, ltb}
use lib.ListN.{get_or, length}
use borrow.Author.Tests.{lt-ltb, le-ltb}
use Rattle.held.specs.Pairs.{PairsBy}
use Rattle.ieee.proofs.Tools.{lt_or_ge}
use Rattle.marks.specs.Standing.{Standing, begun, sooner}
use Rattle.marks.proofs.StandingLaws.{standing_ahead}
use Rattle.model.specs.Batch.{Batch}
use Rattle.model.specs.ClosedForm.{Closed, ahead, closed_pair, joins, kept, new_block, or_else, queue_run, stays, survivor}
use Rattle.model.specs.Corner.{any_bit, sees}
use Rattle.model.specs.Good.{bits_in, want}
use Rattle.model.specs.Layer.{Layer, Mark, Points, Tests, edge, edge_run}
use Rattle.model.specs.Maps.{Asc, AscL, get, has, is_some, keys}
use Rattle.model.proofs.MapLaws.{T→true}
use Rattle.model.proofs.OrderLaws.{asc_keys}
use Rattle.sight.specs.Paired.{old_pair, pair_at, pair_between, pair_start, point_at}
use Rattle.table.specs.Tables.{rank}
use Rattle.table.proofs.ListedLaws.{keys_length}
use Rattle.held.specs.Layers.{edge_at}
use Rattle.visibility.specs.Layers.{stood_of}
use Rattle.held.proofs.PlaceLaws.{place_back, place_some, rank_at, rank_inside}
use Rattle.model.proofs.MapLaws.{has_at}
use Rattle.table.proofs.AllLaws.{asc_l_less}
use Rattle.visibility.proofs.StoodLaws.{after_has, left, left_old, left_want, stays_has, stood_length}

-- the point at a place, with what is kept of it
stood_at : (ms : List Mark) (ps r : Points) (i : ℕ) → i < length r → point_at (stood_of ms ps r) i ≡ (get_or (keys r) i 0, left ms ps (get_or (keys r) i 0))
unfolding keys
stood_at ms ps [] i h = absurd (not-suc-le-zero h)
stood_at ms ps (e ∷ r) zero h = refl
stood_at ms ps (e ∷ r) (suc i) h = stood_at ms ps r i (le_of_suc-le-suc h)

-- the pair of two keys is at their places
pub edge_at_lem : (l : Layer) → Asc 0 l.points → (p q : ℕ) → has p (keys l.points) ≡ true → has q (keys l.points) ≡ true
    → edge_at l (rank p (keys l.points)) (rank q (keys l.points)) ≡ edge p q l.edges
unfolding edge_at
edge_at_lem l order p q hp hq =
    let a : AscL 0 (keys l.points) = asc_keys 0 l.points order in
    let n = keys_length l.points in
    let ip = rank_inside p (keys l.points) a hp in
    let iq = rank_inside q (keys l.points) a hq in
    rw (
      rank_at p (keys l.points) a hp,
      rank_at q (keys l.points) a hq,
      lt-ltb (rank p (keys l.points)) (length l.points) (omega arith),
      lt-ltb (rank q (keys l.points)) (length l.points) (omega arith),
    )
    refl

module _ {t : Tests} {C : List ℕ} {ch : Batch} {ms : List Mark} {l l' : Layer} (cl : Closed t C ch ms l l') (order : Asc 0 l.points)
    (real : (k : ℕ) → is_some (get k l.points) ≡ any_bit (bits_in l.points k)) where
  -- the pair of two points that both stayed
  old_is : (p q : ℕ) → old_pair (edge_at l) (left ms l.points p) (left ms l.points q) ≡ cond (kept ms l p && kept ms l q) (edge p q l.edges) none
  unfolding old_pair kept
  old_is p q =
      rw (left_old ms l.points real p, left_old ms l.points real q)
      (go (stays ms p (bits_in l.points p)) (stays ms q (bits_in l.points q)) (stays_has ms l.points real p) (stays_has ms l.points real q))
    where
      i : ℕ
      i = rank p (keys l.points)

      j : ℕ
      j = rank q (keys l.points)

      go : (u v : Bool) → (T u → has p (keys l.points) ≡ true) → (T v → has q (keys l.points) ≡ true)
          → cond (eqb (cond u (suc i) 0) 0 || eqb (cond v (suc j) 0) 0) none (edge_at l (cond u (suc i) 0 - 1) (cond v (suc j) 0 - 1)) ≡ cond (u && v) (edge p q l.edges) none
      go true true f g = rw (place_some i, place_some j, place_back i, place_back j) (edge_at_lem l order p q (f tt) (g tt))
      go true false f g = rw (place_some i) refl
      go false v f g = refl

  -- who was queued first
  sooner_is : (p q : ℕ) → p ≢ q → ahead p q (queue_run ms (bits_in l.points)) ≡ sooner (left ms l.points p).first (left ms l.points q).first
  unfolding begun
  sooner_is p q d = standing_ahead ms (bits_in l.points) p q (begun l.points p).old (begun l.points q).old d

  -- the pair of two points afterwards
  between_is : (p q : ℕ) → p < q → T (has p (keys l'.points)) → T (has q (keys l'.points))
      → pair_between t C ch (edge_at l) p (left ms l.points p) q (left ms l.points q) ≡ edge p q l'.edges
  unfolding pair_between pair_start closed_pair joins new_block survivor
  between_is p q h hp hq =
      sym (cl.pair p q h
      ∙ rw (
        sym (after_has cl p) ∙ T→true (has p (keys l'.points)) hp,
        sym (after_has cl q) ∙ T→true (has q (keys l'.points)) hq,
        cl.status p,
        cl.status q,
        old_is p q,
        sooner_is p q (λ e. omega arith),
        left_want cl p,
        left_want cl q,
      )
      (go (sees p q (want t.shift C q) && sees q p (want t.shift C p))))
    where
      b : Option ℕ
      b = cond (sooner (left ms l.points p).first (left ms l.points q).first) (t.sweep C p q).cell (t.sweep C q p).cell

      E : Option (Option ℕ)
      E = edge p q l.edges

      go : (see : Bool) → ◌≡◌ {A = Option (Option ℕ)} (cond see (some (edge_run t C p q ch (or_else (cond (kept ms l p && kept ms l q && see) E none) b))) none)
          (cond see (some (edge_run t C p q ch (or_else (cond (kept ms l p && kept ms l q) E none) b))) none)
      go true = rw (and-true (kept ms l p && kept ms l q)) refl
      go false = refl

  abbrev n : ℕ
  n = length l'.points

  abbrev key : ℕ → ℕ
  key i = get_or (keys l'.points) i 0

  -- the point at a place, and the pair of those at two places, the lesser first
  abbrev at : ℕ → ℕ × Standing
  at i = point_at (stood_of ms l.points l'.points) i

  abbrev found : PairsBy
  found i j = pair_between t C ch (edge_at l) (at i).0 (at i).1 (at j).0 (at j).1

  found_is : (i j : ℕ) → i < j → j < n → found i j ≡ edge (key i) (key j) l'.edges
  found_is i j h b =
      (λ z. pair_between t C ch (edge_at l) (first z).0 (first z).1 (second z).0 (second z).1)
      ∙ between_is (key i) (key j) (asc_l_less 0 (keys l'.points) i j (asc_keys 0 l'.points cl.good.point_order) h (inside j b)) (has_at (keys l'.points) i (inside i (omega arith)))
      (has_at (keys l'.points) j (inside j b))
    where
      inside : (k : ℕ) → k < n → k < length (keys l'.points)
      inside k u = rw (keys_length l'.points) u

      first : at i ≡ (key i, left ms l.points (key i))
      first = stood_at ms l.points l'.points i (omega arith)

      second : at j ≡ (key j, left ms l.points (key j))
      second = stood_at ms l.points l'.points j b

  -- no pair of a point with itself
  self_none : (p : ℕ) → edge p p l'.edges ≡ none
  self_none p = go (edge p p l'.edges) (λ u. ((cl.good.pairs p p).0 u).differ refl)
    where
      go : (o : Option (Option ℕ)) → (T (is_some o) → ⊥) → o ≡ none
      go none f = refl
      go (some v) f = absurd (f tt)

  -- The pairs that the kept points begin with, run over the changes, are those of the layer afterwards.
  pub pairs_are_lem : (i j : ℕ) → pair_at t C ch (edge_at l) (stood_of ms l.points l'.points) i j ≡ edge_at l' i j
  unfolding pair_at edge_at
  pairs_are_lem i j = rw (stood_length ms l.points l'.points) (⊎_elim less (λ h. ⊎_elim more (same h) (lt_or_ge j i)) (lt_or_ge i j))
    where
      Goal : Type 0
      Goal = cond (ltb i j && ltb j n) (found i j) (cond (ltb j i && ltb i n) (found j i) none) ≡ cond (ltb i n && ltb j n) (edge (key i) (key j) l'.edges) none

      less : i < j → Goal
      less h =
          ⊎_elim (λ b. rw (lt-ltb i j h, lt-ltb j n b, lt-ltb i n (omega arith)) (found_is i j h b))
          (λ b. rw (lt-ltb i j h, le-ltb j n b, le-ltb j i (omega arith), and-false (ltb i n)) refl) (lt_or_ge j n)

      more : j < i → Goal
      more h =
          ⊎_elim (λ b. rw (le-ltb i j (omega arith), lt-ltb j i h, lt-ltb i n b, lt-ltb j n (omega arith)) (found_is j i h b ∙ cl.good.twins (key j) (key i)))
          (λ b. rw (le-ltb i j (omega arith), lt-ltb j i h, le-ltb i n b) refl) (lt_or_ge i n)

      same : j ≤ i → i ≤ j → Goal
      same h g = let e : i ≡ j = omega arith in rw (le-ltb i j h, le-ltb j i g) (sym (ap (λ (o : Option (Option ℕ)). cond (ltb i n && ltb j n) o none) (rw e (self_none (key j))) ∙ both (ltb i n && ltb j n)))
        where
          both : (s : Bool) → cond {A = Option (Option ℕ)} s none none ≡ none
          both true = refl
          both false = refl
