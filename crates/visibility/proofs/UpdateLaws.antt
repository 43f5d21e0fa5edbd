-- A batch that nothing but the number of points may refuse: the lists handed on, and the outcome of the call. Assumes nothing.
use Rattle.std.specs.Prelude.{Option, Some, None, Result, Ok, Err, IsErrAnd}
use Prim.Native.Nat.{ℕ, ◌*◌, ◌≤◌, ◌<◌}
use native.Mathlib.Omega.{arith}
use mathlib.Core.Path.{◌≡◌, refl, sym, ap, ◌∙◌, subst}
use mathlib.Core.Logic.{inl, inr}
use mathlib.Core.List.{List}
use lib.Ieee.{Float}
use lib.IntN.{ℤ}
use lib.ListN.{length, replicate, take}
use Rattle.limits.specs.Refusals.{number}
use Rattle.limits.specs.declared.refusal.Refusal.{Refusal}
use Rattle.limits.specs.declared.refusal.Refusal.TheVariants.{ManyPoints}
use borrow.Author.Tests.{ltb-false, ltb-true}
use Rattle.limits.proofs.FloorLaws.{holds_cells}
use Rattle.limits.specs.Batches.{entries}
use Rattle.limits.proofs.EntryLaws.{entries_length}
use Rattle.marks.specs.Marked.{Marking, Marks}
use Rattle.model.specs.Cell as cell
use Rattle.model.specs.Layer.{marks}
use Rattle.model.specs.Limits.{max_points, need_confirmed, need_corners}
use Rattle.model.specs.Map as model
use Rattle.sight.specs.Blocked.{words_of}
use Rattle.table.specs.Listed.{Listed}
use Rattle.table.proofs.ListedLaws.{listed_cells, listed_numbers}
use Rattle.visibility.specs.Change.{Lent, changes_of, corners_of, refused_with}
use Rattle.held.specs.Holds.{Tables}
use Rattle.visibility.specs.Layers.{stood_of}
use Rattle.visibility.specs.Told.{changed_told}
use Rattle.visibility.specs.Update.{Finishes, Finishing, Lists, Updated, Updating, points_after}
use Rattle.visibility.specs.declared.change.Change.{Change}
use Rattle.visibility.specs.declared.change.Changed.{Changed}
use Rattle.held.specs.declared.map.Map.{Map}
use Rattle.visibility.proofs.AcceptedLaws.{C', M', T, ch, closed, changed, few_corners, good, law, same_shift, set}
use Rattle.visibility.proofs.BorderLaws.{changes_bordered}
use Rattle.held.proofs.LayerLaws.{layer_keys, layer_statuses}
use Rattle.visibility.proofs.MarkLaws.{marked_few, marked_keys, marked_many, marked_words, numbered_keys}
use Rattle.visibility.proofs.StoodLaws.{marking}

-- nine corners an entry have room: of the 16 entries that 48 numbers are
pub small_room : (b : List ℤ) → length b ≤ 48 → 9 * length (entries b) ≤ 144
small_room b h = let e = entries_length b in omega arith

-- ---- the batch l on the map M, which m and t hold
module _ {m : Map} {t : Tables} {M : model.Map} {l : List model.Entry} (u : Updating m t M l) where
  shift_is : {shift : ℕ} → shift ≡ model.shift_of m.size m.radius → shift ≡ model.shift_of M.size M.layer.radius
  shift_is e = e ∙ ap (λ (z : Float). model.shift_of z m.radius) u.holds.size ∙ ap (model.shift_of M.size) u.holds.radius

  -- the lists of the changes and of the corners
  module _ {confirmed confirmed' full full' corners corners' altered altered' : List ℕ} {changes found : ℕ}
      (f : Lists l (take m.cells t.cells) confirmed confirmed' full full' changes corners corners' altered altered' found) where
    lists : Listed (changes_of M l) confirmed confirmed' full full' changes × Listed (corners_of M l) corners corners' altered altered' found
    lists =
        subst (λ (v : List ℕ). Lists l v confirmed confirmed' full full' changes corners corners' altered altered' found) (holds_cells t.cells m.cells M.cells u.holds.cells) f
        u.holds.cells.order u.order u.bounds

    given : Marking (T M).shift M.layer.points (changed M l) (take m.points t.points) (take m.points t.statuses) (take found corners') (take found altered')
    given =
        let w : Listed (corners_of M l) corners corners' altered altered' found = lists.1 in
        marking (changed M l) (closed u) (good u).point_order (law u).small u.holds.layer.room (few_corners u)
        (changes_bordered M.cells (C' M l) (ch M l) (set u).inside) (take m.points t.points) (take m.points t.statuses) (take found corners') (take found altered')
        (layer_keys u.holds.layer) (layer_statuses u.holds.layer) (listed_cells (corners_of M l) corners corners' altered altered' found w ∙ numbered_keys (changed M l))
        (listed_numbers (corners_of M l) corners corners' altered altered' found w)

    -- the points that the marks leave
    module _ (present moods : List ℕ) (r : Option ℕ) {shift : ℕ} (e : shift ≡ model.shift_of m.size m.radius)
        (g : Marks shift (take m.points t.points) (take m.points t.statuses) (take found corners') (take found altered') (replicate max_points 0) present (replicate max_points 0) moods r) where
      marked : Marks (T M).shift (take m.points t.points) (take m.points t.statuses) (take found corners') (take found altered') (replicate max_points 0) present (replicate max_points 0) moods r
      marked =
          subst (λ (v : ℕ). Marks v (take m.points t.points) (take m.points t.statuses) (take found corners') (take found altered') (replicate max_points 0) present (replicate max_points 0) moods r)
          (shift_is e ∙ sym (same_shift M)) g

    many : (present moods : List ℕ) {shift : ℕ} → shift ≡ model.shift_of m.size m.radius
        → Marks shift (take m.points t.points) (take m.points t.statuses) (take found corners') (take found altered') (replicate max_points 0) present (replicate max_points 0) moods None → max_points < points_after M l
    many present moods e g = marked_many (changed M l) (closed u) (good u).point_order given present moods (marked present moods None e g)

    finishing : (present moods : List ℕ) (n : ℕ) {shift : ℕ} → shift ≡ model.shift_of m.size m.radius
        → Marks shift (take m.points t.points) (take m.points t.statuses) (take found corners') (take found altered') (replicate max_points 0) present (replicate max_points 0) moods (Some n)
        → Finishing m t M l (take changes confirmed') (take changes full') (take found corners') (take found altered') (take n present) (take n moods)
    finishing present moods n e g =
        let p = lists.0 in
        let q = lists.1 in
        let w = marked present moods (Some n) e g in
        record {
          updating = u;
          packed = marked_few (changed M l) (closed u) (good u).point_order given present moods n w;
          confirmed_are = listed_cells (changes_of M l) confirmed confirmed' full full' changes p;
          full_are = listed_numbers (changes_of M l) confirmed confirmed' full full' changes p;
          corners_are = listed_cells (corners_of M l) corners corners' altered altered' found q;
          altered_are = listed_numbers (corners_of M l) corners corners' altered altered' found q;
          keys_are = marked_keys (changed M l) (closed u) (good u).point_order given present moods n w;
          moods_are = marked_words (changed M l) (closed u) (good u).point_order given present moods n w ∙ ap (λ (v : ℕ). words_of (stood_of (marks v (changed M l)) M.layer.points (M' M l).layer.points)) (same_shift M);
        }

-- ---- the batch worked out: what the listing, the shift and the marking promise of a view v of the tables
module _ (m : Map) (t v : Tables) (same : v ≡ t) (l : List model.Entry) {confirmed confirmed' full full' corners corners' altered altered' : List ℕ} (present moods : List ℕ) {changes found shift : ℕ}
    (f : Lists l (take m.cells v.cells) confirmed confirmed' full full' changes corners corners' altered altered' found) (e : shift ≡ model.shift_of m.size m.radius) where
  viewed : {M : model.Map} → Updating m t M l → Updating m v M l
  viewed {M} u = subst (λ (x : Tables). Updating m x M l) (sym same) u

  pub overfull : Marks shift (take m.points v.points) (take m.points v.statuses) (take found corners') (take found altered') (replicate max_points 0) present (replicate max_points 0) moods None
      → (M : model.Map) → Updating m t M l → max_points < points_after M l
  overfull g M u = many (viewed u) f present moods e g

  pub worked_out : (n : ℕ) → Marks shift (take m.points v.points) (take m.points v.statuses) (take found corners') (take found altered') (replicate max_points 0) present (replicate max_points 0) moods (Some n)
      → (M : model.Map) → Updating m t M l → Finishing m t M l (take changes confirmed') (take changes full') (take found corners') (take found altered') (take n present) (take n moods)
  worked_out n g M u =
      subst (λ (x : Tables). Finishing m x M l (take changes confirmed') (take changes full') (take found corners') (take found altered') (take n present) (take n moods)) same
      (finishing (viewed u) f present moods n e g)

pub far : (m : Map) (t : Tables) (l : List model.Entry) {shift reach : ℕ} → shift ≡ model.shift_of m.size m.radius → reach ≡ cell.reach shift → (M : model.Map) → Updating m t M l → reach ≡ cell.reach (model.shift_of M.size M.layer.radius)
far m t l e q M u = q ∙ ap cell.reach (shift_is u e)

-- ---- the call
module _ (m : Map) (l : List model.Entry) (t : Lent) where
  -- too many points: nothing is altered
  pub update_refused : ((M : model.Map) → Updating m t.tables M l → max_points < points_after M l) → (o : Result Change Refusal) (e : Refusal) → IsErrAnd o (λ x. x ≡ e) → e ≡ ManyPoints → Updated m l t t (changed_told o)
  update_refused over (Ok c) e u q = absurd u
  update_refused over (Err x) e u q =
      record {
        either = inr (ap refused_with seven, refl);
        packed = λ M u z. seven;
        done = λ M u z. let k = over M u in absurd (omega (arith, k, ltb-false max_points (points_after M l) z));
      }
    where
      seven : number x ≡ 7
      seven = ap number (u ∙ q)

  -- else the rest is done
  pub update_finished : {confirmed full corners altered present moods : List ℕ} {reach : ℕ} → ((M : model.Map) → Updating m t.tables M l → Finishing m t.tables M l confirmed full corners altered present moods)
      → ((M : model.Map) → Updating m t.tables M l → reach ≡ cell.reach (model.shift_of M.size M.layer.radius)) → (t' : Lent) (r : Changed)
      → need_confirmed ≤ length t.confirmed → need_confirmed ≤ length t.full → need_corners ≤ length t.corners → need_corners ≤ length t.altered
      → Finishes m t t' confirmed full corners altered present moods reach r
      → Updated m l t t' r
  update_finished few far t' r x y z v w =
      record {
        either = inl w.0;
        packed = λ M u o. absurd (under M u (ltb-true max_points (points_after M l) o));
        done = λ M u o. w.1 M l (far M u) (few M u) x y z v;
      }
    where
      under : (M : model.Map) → Updating m t.tables M l → max_points < points_after M l → ⊥
      under M u o = let k = (few M u).packed in omega (arith, o, k)
