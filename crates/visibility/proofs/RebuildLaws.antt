-- A change of the radius: its refusals in their order, and the tables drawn from no old point, which hold the model's map afterwards. Assumes nothing.
use Rattle.std.specs.Prelude.{Option, Some, None, Result, Ok, Err, IsErrAnd}
use Prim.Native.Nat.{ℕ, suc, ◌≤◌, ◌<◌, zero-le}
use native.Mathlib.Nat.{suc-ne-zero}
use native.Mathlib.Omega.{arith}
use mathlib.Core.Path.{◌≡◌, refl, sym, ap, ◌∙◌, subst}
use mathlib.Core.Bool.{Bool, true, false, cond, ◌||◌, true≢false}
use mathlib.Core.List.{List, [], ◌∷◌}
use lib.Ieee.{Float}
use lib.ListN.{length, length-replicate, replicate, take}
use lib.Seq.{length-take-le}
use borrow.Author.Tests.{le-ltb, lt-ltb, ltb-false}
use Rattle.corner.specs.Changes.{Cornered, numbered}
use Rattle.corner.proofs.ChangeLaws.{inside_inner}
use Rattle.limits.proofs.FloorLaws.{holds_cells}
use Rattle.marks.specs.Marked.{Marking, Marks}
use Rattle.model.specs.Cell as cell
use Rattle.model.specs.ClosedForm.{Closed}
use Rattle.model.specs.Corner.{Bits, any_bit, corner_cells}
use Rattle.model.specs.Good.{Good, bits_in}
use Rattle.model.specs.Layer.{Layer, Tests, marks, update}
use Rattle.model.specs.Limits.{max_cells, max_points, need_corners}
use Rattle.model.specs.Map as model
use Rattle.model.specs.Maps.{get, is_some, keys}
use Rattle.model.specs.Refusal.{bad_radius, bad_size, first_due, is_due, judge, packed, short, verdict}
use Rattle.model.proofs.ClosedForm.{rebuild_closed}
use Rattle.model.proofs.LayerLaws.{empty_inv}
use Rattle.model.proofs.DueLaws.{passed}
use Rattle.model.proofs.TestLaws.{lawful, tests_shift}
use Rattle.sight.specs.Blocked.{Stood}
use Rattle.table.specs.Listed.{Listed}
use Rattle.table.proofs.AllLaws.{all_map}
use Rattle.table.proofs.ListedLaws.{listed_cells, listed_numbers}
use Rattle.held.specs.Holds.{Behind, Holds, Tables, needs}
use Rattle.held.specs.Layers.{HoldsLayer, edge_at}
use Rattle.visibility.specs.Layers.{stood_of}
use Rattle.visibility.specs.Open.{refused_with}
use Rattle.visibility.specs.Radius.{Rebuilding, refuse_radius}
use Rattle.visibility.specs.Redraw.{Afresh, Drawing, Redrawn}
use Rattle.held.specs.declared.map.Map.{Map}
use Rattle.held.specs.Told.{told}
use Rattle.limits.specs.Refusals.{number}
use Rattle.limits.specs.declared.refusal.Refusal.{Refusal}
use Rattle.limits.specs.declared.refusal.Refusal.TheVariants.{ManyPoints}
use Rattle.visibility.proofs.BorderLaws.{corners_bordered, corners_length}
use Rattle.visibility.proofs.DrawnLaws.{drawn_behind, drawn_holds}
use Rattle.visibility.proofs.RowLaws.{edges_below, layer_rows}
use Rattle.held.proofs.LayerLaws.{layer_few}
use Rattle.visibility.proofs.MarkLaws.{marked_count, marked_few, marked_keys, marked_many, marked_words, numbered_keys}
use Rattle.held.proofs.RoomLaws.{Enough, long_enough}
use Rattle.visibility.proofs.RefuseLaws.{in_turn, radius_turn, some_number, turn_none, turn_some}
use Rattle.visibility.proofs.StoodLaws.{fitting, marking, stood_keys, stood_length}

-- ---- what the input alone decides, and what the model says of a map that is held
module _ (m : Map) (r : Float) (t : Tables) where
  abbrev before : List (ℕ × Bool)
  before = (9, short (needs t)) ∷ (1, bad_size m.size) ∷ (2, bad_radius m.size m.radius || bad_radius m.size r) ∷ []

  module _ {M : model.Map} (h : Holds m t M) where
    abbrev M' : model.Map
    M' = model.next (model.radius r) M

    judged : judge (needs t) (model.radius r) M M' ≡ in_turn before (cond (packed M') 7 0)
    unfolding judge verdict first_due is_due
    judged = rw (h.size, h.radius, le-ltb max_cells (length M.cells) h.cells.room, le-ltb max_points (length M.layer.points) h.layer.room) refl

    by_input : refuse_radius (short (needs t)) m r ≡ in_turn before 0
    by_input =
        let a : m.cells ≡ length M.cells = h.cells.count in
        let x : m.cells ≤ max_cells = omega (arith, a, h.cells.room) in
        radius_turn (short (needs t)) m r ∙ rw (le-ltb max_cells m.cells x, le-ltb max_points m.points (layer_few h.layer)) refl

    -- the input refuses, or nothing but the number of points afterwards may
    judged_input : (n : ℕ) → n ≡ refuse_radius (short (needs t)) m r → (n ≡ 0 → ⊥) → n ≡ judge (needs t) (model.radius r) M M'
    judged_input n e f = e ∙ by_input ∙ turn_some before (cond (packed M') 7 0) (λ z. f (e ∙ by_input ∙ z)) ∙ sym judged

    judged_points : refuse_radius (short (needs t)) m r ≡ 0 → (b : Bool) → packed M' ≡ b → cond b 7 0 ≡ judge (needs t) (model.radius r) M M'
    judged_points e b p = ap (λ (x : Bool). cond x 7 0) (sym p) ∙ turn_none before (cond (packed M') 7 0) refl (sym by_input ∙ e) ∙ sym judged

  -- a refused call leaves the tables as they were
  rebuild_refused : (o : Result Map Refusal) (e : Refusal) → IsErrAnd o (λ x. x ≡ e) → ((k : ℕ) → refuse_radius (short (needs t)) m r ≡ suc k → number e ≡ suc k)
      → ((M : model.Map) → Holds m t M → number e ≡ judge (needs t) (model.radius r) M (model.next (model.radius r) M)) → Rebuilding m r t t (told o)
  rebuild_refused (Ok p) e u input model = absurd u
  rebuild_refused (Err x) e u input model =
      record {
        input = λ k z. ap refused_with (ap number u ∙ input k z);
        refusal = λ M h. ap number u ∙ model M h;
        refused = λ k z. (refl, ap refused_with z);
        answer = λ M h z. absurd (some_number x z);
        holds = λ M h z. absurd (some_number x z);
        behind = λ M h z. absurd (some_number x z);
      }

  -- by the input
  pub rebuild_input : (o : Result Map Refusal) (e : Refusal) → IsErrAnd o (λ x. x ≡ e) → number e ≡ refuse_radius (short (needs t)) m r → Rebuilding m r t t (told o)
  rebuild_input o e u q = rebuild_refused o e u (λ k z. q ∙ z) (λ M h. judged_input h (number e) q (some_number e))

-- or it has passed
pub rebuild_passed : (m : Map) (r : Float) (t : Tables) (s : Bool) → 0 ≡ refuse_radius s m r → s ≡ short (needs t) → refuse_radius (short (needs t)) m r ≡ 0
rebuild_passed m r t s e f = sym (e ∙ ap (λ (x : Bool). refuse_radius x m r) f)

or_right : (a b : Bool) → a || b ≡ false → b ≡ false
or_right true b e = absurd (true≢false e)
or_right false b e = e

-- ---- once the input has passed: the radius r of the map that m and t hold
module _ (m : Map) (r : Float) (t : Tables) (pass : refuse_radius (short (needs t)) m r ≡ 0) where
  abbrev T : Tests
  T = model.tests m.size r

  new_radius : bad_radius m.size r ≡ false
  unfolding refuse_radius is_due
  new_radius = or_right (bad_radius m.size m.radius) (bad_radius m.size r) (passed _ pass 2 tt)

  pub rebuild_room : Enough (needs t)
  unfolding refuse_radius is_due
  rebuild_room = long_enough (needs t) (passed _ pass 9 tt)

  pub rebuild_cells : m.cells ≤ max_cells
  unfolding refuse_radius is_due
  rebuild_cells = ltb-false max_cells m.cells (passed _ pass 6 tt)

  pub rebuild_points : m.points ≤ max_points
  unfolding refuse_radius is_due
  rebuild_points = ltb-false max_points m.points (passed _ pass 7 tt)

  pub rebuild_used : m.cells ≡ length (take m.cells t.cells)
  rebuild_used = let k = rebuild_room.0 in let x = rebuild_cells in sym (length-take-le m.cells t.cells (omega arith))

  module _ {M : model.Map} (h : Holds m t M) where
    abbrev C : List ℕ
    C = M.cells

    abbrev changed : List (ℕ × Bits)
    changed = corner_cells C

    abbrev l' : Layer
    l' = (model.next (model.radius r) M).layer

    abbrev S : Stood
    S = stood_of (marks T.shift changed) [] l'.points

    -- the layer afterwards is the closed form, of no old layer
    closed : Closed T C [] (marks T.shift changed) (model.empty_layer r) l'
    unfolding model.next model.rebuilt
    closed = rw h.size (rebuild_closed (model.tests M.size r) (lawful M.size r (rw h.size at new_radius)) C h.good.cell_order h.good.inside r)

    real : (k : ℕ) → is_some (get k (model.empty_layer r).points) ≡ any_bit (bits_in (model.empty_layer r).points k)
    real = (empty_inv r).real

    corners_few : length changed ≤ need_corners
    corners_few = let x = corners_length C in omega (arith, x, h.cells.room)

    same_cells : take m.cells t.cells ≡ C
    same_cells = holds_cells t.cells m.cells C h.cells

    module _ {corners altered : List ℕ} {found : ℕ} (f : Cornered (take m.cells t.cells) (replicate max_cells 0) corners (replicate max_cells 0) altered found) where
      listed : Listed (numbered changed) (replicate max_cells 0) corners (replicate max_cells 0) altered found
      listed =
          let z : length C ≤ length (replicate {A = ℕ} max_cells 0) = rw (length-replicate {A = ℕ} max_cells 0) h.cells.room in
          subst (λ (u : List ℕ). Cornered u (replicate max_cells 0) corners (replicate max_cells 0) altered found) same_cells f h.cells.order (all_map C inside_inner h.cells.inside) z z

      given : Marking T.shift [] changed [] [] (take found corners) (take found altered)
      unfolding keys
      given =
          marking changed closed tt (lawful m.size r new_radius).small zero-le corners_few (corners_bordered C h.cells.inside) [] [] (take found corners) (take found altered) refl refl
          (listed_cells (numbered changed) (replicate max_cells 0) corners (replicate max_cells 0) altered found listed ∙ numbered_keys changed)
          (listed_numbers (numbered changed) (replicate max_cells 0) corners (replicate max_cells 0) altered found listed)

      marked : (present moods : List ℕ) (a : Option ℕ) {shift : ℕ} → shift ≡ model.shift_of m.size r → Marks shift [] [] (take found corners) (take found altered) (replicate max_points 0) present (replicate max_points 0) moods a
          → Marks T.shift [] [] (take found corners) (take found altered) (replicate max_points 0) present (replicate max_points 0) moods a
      marked present moods a e g =
          subst (λ (v : ℕ). Marks v [] [] (take found corners) (take found altered) (replicate max_points 0) present (replicate max_points 0) moods a) (e ∙ sym (tests_shift m.size r)) g

    -- where there are too many points
    many : {corners altered : List ℕ} (present moods : List ℕ) {found shift : ℕ} → Cornered (take m.cells t.cells) (replicate max_cells 0) corners (replicate max_cells 0) altered found
        → shift ≡ model.shift_of m.size r → Marks shift [] [] (take found corners) (take found altered) (replicate max_points 0) present (replicate max_points 0) moods None → max_points < length l'.points
    many present moods f e g = marked_many changed closed tt (given f) present moods (marked f present moods None e g)

    -- where there are n
    module _ {corners altered : List ℕ} (present moods : List ℕ) {found shift : ℕ} (n : ℕ) (f : Cornered (take m.cells t.cells) (replicate max_cells 0) corners (replicate max_cells 0) altered found)
        (e : shift ≡ model.shift_of m.size r) (g : Marks shift [] [] (take found corners) (take found altered) (replicate max_points 0) present (replicate max_points 0) moods (Some n)) where
      few : length l'.points ≤ max_points
      few = marked_few changed closed tt (given f) present moods n (marked f present moods (Some n) e g)

      count : n ≡ length l'.points
      count = marked_count changed closed tt (given f) present moods n (marked f present moods (Some n) e g)

      -- what the drawing is handed
      drawing : Drawing C [] S [] [] [] (take n present) (take n moods) t.points t.statuses t.blockers 0
      unfolding keys
      drawing =
          let long = stood_length (marks T.shift changed) [] l'.points in
          record {
            seeing = record {
              order = h.cells.order;
              inside = h.cells.inside;
              changes = tt;
              fitting = fitting changed closed tt zero-le corners_few;
              confirmed_are = refl;
              full_are = refl;
              points_are = marked_keys changed closed tt (given f) present moods n (marked f present moods (Some n) e g) ∙ sym (stood_keys (marks T.shift changed) [] l'.points);
              moods_are = marked_words changed closed tt (given f) present moods n (marked f present moods (Some n) e g);
            };
            few = rw long few;
            blocks_are = refl;
            blocks_named = tt;
            points_room = rebuild_room.1.0;
            statuses_room = rebuild_room.1.1.0;
            blockers_room = rebuild_room.1.1.1.0;
          }

      module _ (t' : Tables) {reach : ℕ} (same : t'.cells ≡ t.cells) (v : reach ≡ cell.reach shift) (d : Afresh m.size r reach (take m.cells t.cells) [] [] (take n present) (take n moods) m.points t t') where
        drawn : Redrawn T C [] S [] (edge_at (model.empty_layer r)) t.points t'.points t.statuses t'.statuses t.blockers t'.blockers t.pairs t'.pairs
        drawn = subst (λ (u : List ℕ). Afresh m.size r reach u [] [] (take n present) (take n moods) m.points t t') same_cells d [] S (edge_at (model.empty_layer r)) (edge_at M.layer) (v ∙ ap cell.reach e) drawing (edges_below (model.empty_layer r))
            (layer_rows h.layer)

        held : HoldsLayer t'.points t'.statuses t'.blockers t'.pairs n l'
        held = drawn_holds closed tt real few t t' drawn rebuild_room.1.1.1.1.0 n count

        holds : Holds (record { size = m.size; radius = r; cells = m.cells; points = n }) t' (model.next (model.radius r) M)
        unfolding model.next model.rebuilt update
        holds =
            record {
              size = h.size;
              radius = refl;
              cells = rw same h.cells;
              layer = held;
              good = subst (λ (z : ℕ). Good z C l') (tests_shift m.size r ∙ ap (λ (c : Float). model.shift_of c r) h.size) closed.good;
            }

        behind : Behind t t'
        behind = drawn_behind closed tt real few t t' drawn (rw same refl)

  -- ---- the call
  module _ {corners altered : List ℕ} (present moods : List ℕ) {found shift : ℕ} (f : Cornered (take m.cells t.cells) (replicate max_cells 0) corners (replicate max_cells 0) altered found) (e : shift ≡ model.shift_of m.size r) where
    -- too many points: nothing is altered
    pub rebuild_packed : (o : Result Map Refusal) → Marks shift [] [] (take found corners) (take found altered) (replicate max_points 0) present (replicate max_points 0) moods None → (x : Refusal) → IsErrAnd o (λ y. y ≡ x) → x ≡ ManyPoints → Rebuilding m r t t (told o)
    rebuild_packed o g x u q =
        rebuild_refused m r t o x u (λ i z. absurd (suc-ne-zero _ (sym z ∙ pass)))
        (λ M h. ap number q ∙ judged_points m r t h pass true (lt-ltb max_points _ (many h present moods f e g)))

    -- else the tables drawn anew
    pub rebuild_done : (n : ℕ) (t' : Tables) (reach : ℕ) → Marks shift [] [] (take found corners) (take found altered) (replicate max_points 0) present (replicate max_points 0) moods (Some n)
        → t'.cells ≡ t.cells → reach ≡ cell.reach shift → Afresh m.size r reach (take m.cells t.cells) [] [] (take n present) (take n moods) m.points t t'
        → Rebuilding m r t t' (record { refusal = 0; map = record { size = m.size; radius = r; cells = m.cells; points = n } })
    rebuild_done n t' reach g same v d =
        record {
          input = λ i z. absurd (suc-ne-zero _ (sym z ∙ pass));
          refusal = λ M h. judged_points m r t h pass false (le-ltb max_points _ (few h present moods n f e g));
          refused = λ i z. absurd (suc-ne-zero _ (sym z));
          answer = λ M h z. ap (λ (i : ℕ). record { size = m.size; radius = r; cells = m.cells; points = i }) (count h present moods n f e g);
          holds = λ M h z. holds h present moods n f e g t' same v d;
          behind = λ M h z. behind h present moods n f e g t' same v d;
        }
