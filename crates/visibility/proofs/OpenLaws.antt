-- Opening a map: its refusals in their order, and the cleared tables, which hold a fresh map. Assumes nothing.
use Prim.Native.Nat.{ℕ, ◌≤◌, ◌<◌, zero-le}
use native.Mathlib.Nat.{suc-ne-zero}
use native.Mathlib.Omega.{arith}
use mathlib.Core.Path.{◌≡◌, refl, sym, ap, ◌∙◌}
use mathlib.Core.Bool.{Bool, true, false, cond}
use mathlib.Core.List.{List, [], ◌∷◌}
use Rattle.std.specs.Prelude.{Result, Ok, Err, IsErrAnd}
use lib.Ieee.{Float}
use lib.ListN.{drop, length}
use borrow.Author.Tests.{le-ltb}
use Rattle.limits.proofs.FloorLaws.{holds_none}
use Rattle.model.proofs.DueLaws.{passed}
use Rattle.model.proofs.RunLaws.{Sound, open_sound}
use Rattle.model.specs.Limits.{max_cells, max_points}
use Rattle.model.specs.Map.{empty_layer, fresh}
use Rattle.model.specs.Maps.{keys}
use Rattle.model.specs.Refusal.{bad_radius, bad_size, first_due, is_due, opened, refuse_open, short, verdict}
use Rattle.held.specs.Pairs.{Pairs, pair_place, pair_places}
use Rattle.held.specs.Holds.{Tables, needs, tables_of}
use Rattle.held.specs.Told.{told}
use Rattle.held.specs.Layers.{HoldsLayer, edge_at}
use Rattle.visibility.specs.Open.{Opening, refused_with}
use Rattle.held.specs.declared.map.Map.{Map}
use Rattle.limits.specs.Refusals.{number}
use Rattle.limits.specs.declared.refusal.Refusal.{Refusal}
use Rattle.held.proofs.RoomLaws.{Enough, long_enough}
use Rattle.visibility.proofs.ClearLaws.{cleared, cleared_at, cleared_behind, cleared_length, cleared_pad}
use Rattle.visibility.proofs.RefuseLaws.{some_number}

-- ---- the refusals in turn
module _ (l : List (ℕ × ℕ)) (c r : Float) where
  in_turn_lem : refuse_open l c r ≡ cond (short l) 9 (cond (bad_size c) 1 (cond (bad_radius c r) 2 0))
  unfolding refuse_open verdict first_due is_due
  in_turn_lem = refl

  module _ (e : short l ≡ false) where
    module _ (f : bad_size c ≡ false) where
      pub open_radius : bad_radius c r ≡ true → 2 ≡ refuse_open l c r
      open_radius g = sym (in_turn_lem ∙ rw (e, f, g) refl)

      pub open_passes : bad_radius c r ≡ false → 0 ≡ refuse_open l c r
      open_passes g = sym (in_turn_lem ∙ rw (e, f, g) refl)

-- and what is answered with 0 has passed
pub open_passed : (l : List (ℕ × ℕ)) (c r : Float) → refuse_open l c r ≡ 0 → (short l ≡ false) × (bad_size c ≡ false) × (bad_radius c r ≡ false)
unfolding refuse_open is_due
open_passed l c r e = let p = passed _ e in (p 9 tt, p 1 tt, p 2 tt)

-- a refused opening leaves the tables as they were
pub open_refused : (c r : Float) (t : Tables) (o : Result Map Refusal) (e : Refusal) → IsErrAnd o (λ x. x ≡ e) → number e ≡ refuse_open (needs t) c r → Opening c r t t (told o)
open_refused c r t (Ok m) e u h = absurd u
open_refused c r t (Err x) e u h =
    record {
      refusal = ap number u ∙ h;
      refused = λ k z. (refl, ap refused_with z);
      answer = λ z. absurd (some_number x z);
      holds = λ z. absurd (some_number x z);
      behind = λ z. absurd (some_number x z);
    }

-- what is answered with no refusal has passed
pub open_judged : (t : Tables) (c r : Float) (s : Bool) (n : ℕ) → n ≡ verdict ((9, s) ∷ (1, bad_size c) ∷ (2, bad_radius c r) ∷ []) → s ≡ short (needs t) → n ≡ refuse_open (needs t) c r
unfolding refuse_open
open_judged t c r s n e f = e ∙ rw f refl

pub open_room : (t : Tables) (c r : Float) (s : Bool) → 0 ≡ verdict ((9, s) ∷ (1, bad_size c) ∷ (2, bad_radius c r) ∷ []) → s ≡ short (needs t) → Enough (needs t)
open_room t c r s e f = long_enough (needs t) (open_passed (needs t) c r (sym (open_judged t c r s 0 e f))).0

-- ---- the pairs of an empty layer
cleared_pairs : (r : Float) (t : List ℕ) → Pairs (edge_at (empty_layer r)) (cleared pair_places t)
unfolding edge_at
cleared_pairs r t i j hi hj =
    let h : pair_place i j < pair_places = omega arith in
    rw (le-ltb i 0 zero-le) (cleared_at pair_places t (pair_place i j) h)

-- ---- the tables of a fresh map
abbrev cleared_tables : Tables → Tables
cleared_tables t =
    record {
      cells = cleared max_cells t.cells;
      points = cleared max_points t.points;
      statuses = cleared max_points t.statuses;
      blockers = cleared max_points t.blockers;
      pairs = cleared pair_places t.pairs;
    }

fresh_sound : (c r : Float) → refuse_open [] c r ≡ 0 → Sound (fresh c r)
unfolding opened
fresh_sound c r e = rw e at (open_sound c r)

fresh_layer : (r : Float) (t : Tables) → pair_places ≤ length t.pairs
    → HoldsLayer (cleared max_points t.points) (cleared max_points t.statuses) (cleared max_points t.blockers) (cleared pair_places t.pairs) 0 (empty_layer r)
unfolding keys
fresh_layer r t h =
    record {
      count = refl;
      room = zero-le;
      keys_are = cleared_pad max_points t.points;
      statuses_are = cleared_pad max_points t.statuses;
      blocks_are = cleared_pad max_points t.blockers;
      pairs_room = rw (cleared_length pair_places t.pairs h) h;
      pairs_are = cleared_pairs r t.pairs;
    }

module _ (c r : Float) (t : Tables) (e : short (needs t) ≡ false) (f : bad_size c ≡ false) (g : bad_radius c r ≡ false) where
  all_cleared : Opening c r t (cleared_tables t) (record { refusal = 0; map = record { size = c; radius = r; cells = 0; points = 0 } })
  all_cleared =
      record {
        refusal = open_passes (needs t) c r e f g;
        refused = λ n z. absurd (suc-ne-zero _ (sym z));
        answer = λ z. refl;
        holds = λ z. record {
          size = refl;
          radius = refl;
          cells = holds_none (drop max_cells t.cells);
          layer = fresh_layer r t room;
          good = fresh_sound c r (sym (open_passes [] c r none_short f g));
        };
        behind = λ z. record {
          cells = cleared_behind max_cells t.cells;
          points = cleared_behind max_points t.points;
          statuses = cleared_behind max_points t.statuses;
          blockers = cleared_behind max_points t.blockers;
          pairs = cleared_behind pair_places t.pairs;
          pairs_long = cleared_length pair_places t.pairs room;
        };
      }
    where
      room : pair_places ≤ length t.pairs
      room = (long_enough (needs t) e).1.1.1.1.0

      none_short : short [] ≡ false
      none_short = unfold short in refl

-- an accepted opening: each table's first places, filled with zeros
pub open_done : (t : Tables) (c r : Float) (s : Bool) {cells points statuses blockers pairs : List ℕ} → 0 ≡ verdict ((9, s) ∷ (1, bad_size c) ∷ (2, bad_radius c r) ∷ []) → s ≡ short (needs t)
    → cells ≡ cleared max_cells t.cells → points ≡ cleared max_points t.points → statuses ≡ cleared max_points t.statuses → blockers ≡ cleared max_points t.blockers → pairs ≡ cleared pair_places t.pairs
    → Opening c r t (tables_of cells points statuses blockers pairs) (record { refusal = 0; map = record { size = c; radius = r; cells = 0; points = 0 } })
open_done t c r s z f u v w x y =
    let p = open_passed (needs t) c r (sym (open_judged t c r s 0 z f)) in
    rw (u, v, w, x, y) (all_cleared c r t p.0 p.1 p.2)
