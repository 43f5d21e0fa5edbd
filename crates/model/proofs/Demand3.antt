-- Demand 3 holds of every run from every opening. Assumes nothing.
use Prim.Native.Nat.{ℕ, ◌+◌, ◌≤◌}
use mathlib.Core.Path.{◌≡◌, refl, sym, ◌∙◌, subst}
use mathlib.Core.Bool.{true, ◌&&◌}
use mathlib.Core.List.{List, []}
use mathlib.Core.Option.{none-ne-some}
use lib.Dec.{T}
use lib.IntN.{pos}
use lib.Signed.{le_z}
use lib.Ieee.{Float, binary64, fits, le}
use lib.Ieee.Fits.{and_r}
use Rattle.ieee.specs.Constants.{nought}
use Rattle.ieee.specs.Whole.{ceil_z}
use Rattle.ieee.specs.Yard.{shift_f, is_power, is_whole, in_yard}
use Rattle.ieee.proofs.Tools.{same_test, T_true}
use Rattle.model.specs.Maps.{get, is_some}
use Rattle.model.specs.Limits.{max_coordinate, max_shift}
use Rattle.model.specs.Batch.{cells_after, confirmed, corner_changes}
use Rattle.model.specs.Corner.{corner_cells}
use Rattle.model.specs.Layer.{edge, update}
use Rattle.model.specs.Good.{bits_in, want, Inside}
use Rattle.model.specs.Map.{Map, Op, batch, radius, to_batch, shift_of, tests, empty_layer, changed, rebuilt, next}
use Rattle.model.specs.Refusal.{refusal, run, opened}
use Rattle.model.specs.Demand3.{Demand}
use Rattle.model.proofs.TestLaws.{shift_le, tests_shift}
use Rattle.model.proofs.LayerLaws.{joined_eq}
use Rattle.model.proofs.RunLaws.{Sound, run_keeps, next_sound, opened_is, open_sound, run_cells, run_radius, run_size, Roomy, next_roomy, open_roomy, refused_step}
use Rattle.model.proofs.YardSquare.{square_whole}
use Rattle.model.proofs.YardBlockers.{Blocked, change_exact, rebuild_exact}
use Rattle.model.proofs.PointPlaces.{point_inside_lem}

-- ---- the yard class over runs: what every operation keeps
abbrev Near : ℕ → Type 0
Near = Inside (max_coordinate + max_shift)

abbrev YardBlocked : Map → Type 0
YardBlocked m =
    T (fits binary64 m.size) → T (fits binary64 m.layer.radius) → in_yard m.size m.layer.radius ≡ true → Blocked Near (shift_of m.size m.layer.radius) m.cells m.layer

next_blocked : (o : Op) (m : Map) → Sound (next o m) → YardBlocked m → YardBlocked (next o m)
unfolding next changed rebuilt update
next_blocked (batch l) m s b f g y =
    let t = tests m.size m.layer.radius in
    let C = cells_after (to_batch l) m.cells in
    let ch = confirmed (to_batch l) m.cells in
    subst (λ (z : ℕ). Blocked Near z C (update t C ch (corner_changes m.cells C ch) m.layer)) (tests_shift m.size m.layer.radius)
    (change_exact t Near (to_batch l) m.cells m.layer (square_whole m.size m.layer.radius f g y C s.inside)
    (subst (λ (z : ℕ). Blocked Near z m.cells m.layer) (sym (tests_shift m.size m.layer.radius)) (b f g y)))
next_blocked (radius r) m s b f g y =
    let t = tests m.size r in
    subst (λ (z : ℕ). Blocked Near z m.cells (update t m.cells [] (corner_cells m.cells) (empty_layer r))) (tests_shift m.size r)
    (rebuild_exact t Near m.cells (square_whole m.size r f g y m.cells s.inside) r)

abbrev Kept : Map → Type 0
Kept m = Sound m × YardBlocked m × Roomy m

next_kept : (o : Op) (m : Map) → refusal o m ≡ 0 → Kept m → Kept (next o m)
next_kept o m e k = let s = next_sound o m e k.0 in (s, next_blocked o m s k.1, next_roomy o m e)

open_blocked : (c r : Float) → YardBlocked (opened c r)
unfolding get
open_blocked c r = opened_is YardBlocked c r (λ e f g y k p q. absurd (none-ne-some p q)) (λ f g y k p q. absurd (none-ne-some p q))

yard_shift : (c r : Float) → in_yard c r ≡ true → shift_of c r ≤ max_shift
unfolding in_yard
yard_shift c r y = shift_le c r (and_r (is_power 10 c && is_whole r && le nought r) (le_z (ceil_z (shift_f c r)) (pos max_shift)) (T_true y))

-- ---- Demand 3: on a fresh map, after any run of batches and radius changes, refused ones among them, the map is as it should be (specs/Demand3.antt).
pub demand3 : (c r : Float) (os : List Op) → Demand c r os (run os (opened c r))
demand3 c r os =
    record {
      size = run_size c r os;
      radius = run_radius c r os;
      cells = run_cells c r os;
      good = K.0;
      yard = λ f g y k p e. K.1 f g y k p e (point_inside_lem (shift_of m.size m.layer.radius) m.cells m.layer (yard_shift m.size m.layer.radius y) K.0 k p e);
      room = K.2;
      refused = λ o h. refused_step o m h;
    }
  where
    m : Map
    m = run os (opened c r)

    K : Kept (run os (opened c r))
    K = run_keeps Kept next_kept os (opened c r) (open_sound c r, open_blocked c r, open_roomy c r)

-- ---- Two runs that end in the same cells, cell size and radius agree on every point, status and pair, whatever came before; only blockers may differ.
pub cells_decide : (c r c' r' : Float) (os os' : List Op) → (run os (opened c r)).size ≡ (run os' (opened c' r')).size → (run os (opened c r)).cells ≡ (run os' (opened c' r')).cells
    → (run os (opened c r)).layer.radius ≡ (run os' (opened c' r')).layer.radius
    → ((k : ℕ) → bits_in (run os (opened c r)).layer.points k ≡ bits_in (run os' (opened c' r')).layer.points k)
    × ((p q : ℕ) → is_some (edge p q (run os (opened c r)).layer.edges) ≡ is_some (edge p q (run os' (opened c' r')).layer.edges))
cells_decide c r c' r' os os' z e f = go (run os (opened c r)) (run os' (opened c' r')) (demand3 c r os).good (demand3 c' r' os').good z e f
  where
    go : (m n : Map) → Sound m → Sound n → m.size ≡ n.size → m.cells ≡ n.cells → m.layer.radius ≡ n.layer.radius
        → ((k : ℕ) → bits_in m.layer.points k ≡ bits_in n.layer.points k) × ((p q : ℕ) → is_some (edge p q m.layer.edges) ≡ is_some (edge p q n.layer.edges))
    go m n g h z e f = (
      λ k. g.points k ∙ same k ∙ sym (h.points k),
      λ p q. same_test (is_some (edge p q m.layer.edges)) (is_some (edge p q n.layer.edges))
          (λ u. (h.pairs p q).1 (joined_eq (want s C) (want s' C') same p q ((g.pairs p q).0 u)))
          (λ u. (g.pairs p q).1 (joined_eq (want s' C') (want s C) (λ k. sym (same k)) p q ((h.pairs p q).0 u))),
    )
      where
        s : ℕ
        s = shift_of m.size m.layer.radius

        s' : ℕ
        s' = shift_of n.size n.layer.radius

        C : List ℕ
        C = m.cells

        C' : List ℕ
        C' = n.cells

        same : (k : ℕ) → want (shift_of m.size m.layer.radius) m.cells k ≡ want (shift_of n.size n.layer.radius) n.cells k
        same k = rw (z, e, f) refl
