-- What a call of `change_cells` answers and leaves: refused by its input, for its cells, for its points, or done. Assumes nothing.
use Rattle.std.specs.Prelude.{Result, Ok, Err, IsErrAnd}
use Prim.Native.Nat.{ℕ, suc, ◌*◌, ◌≤◌, ◌<◌}
use native.Mathlib.Nat.{suc-ne-zero}
use native.Mathlib.Omega.{arith}
use mathlib.Core.Path.{◌≡◌, refl, sym, ap, ◌∙◌, subst}
use mathlib.Core.Logic.{◌⊎◌, ⊎_elim, inl, inr}
use mathlib.Core.Bool.{Bool, true, false, cond, ◌||◌, or_assoc}
use mathlib.Core.List.{List, [], ◌∷◌, ◌++◌}
use lib.Dec.{ltb}
use lib.IntN.{ℤ}
use lib.ListN.{length, take}
use lib.Seq.{length-take-le}
use borrow.Author.Tests.{lt-ltb, le-ltb, ltb-false, ltb-true}
use Rattle.limits.proofs.FloorLaws.{holds_cells}
use Rattle.limits.specs.Floor as floor
use Rattle.limits.specs.Batches.{entries, ragged}
use Rattle.model.proofs.DueLaws.{passed, or_parts}
use Rattle.model.specs.Batch.{cells_after}
use Rattle.limits.specs.Refusals.{number}
use Rattle.limits.specs.declared.refusal.Refusal.{Refusal}
use Rattle.model.specs.Limits.{max_batch, max_cells, max_points, need_confirmed, need_corners}
use Rattle.model.specs.Map as model
use Rattle.model.specs.Maps.{AscL}
use Rattle.model.specs.Refusal.{bad_radius, first_due, is_due, judge, outside, short, unsorted, verdict}
use Rattle.visibility.specs.Change.{Changing, Lent, lent_needs, refuse_batch, refused_with}
use Rattle.held.specs.Holds.{Holds, Tables}
use Rattle.held.proofs.RoomLaws.{Enough, long_enough}
use Rattle.visibility.specs.Update.{Updated, Updating, points_after}
use Rattle.visibility.specs.Told.{changed_told}
use Rattle.visibility.specs.declared.change.Change.{Change}
use Rattle.visibility.specs.declared.change.Changed.{Changed}
use Rattle.held.specs.declared.map.Map.{Map}
use Rattle.visibility.proofs.AcceptedLaws.{next_cells}
use Rattle.held.proofs.LayerLaws.{layer_few}
use Rattle.visibility.proofs.RefuseLaws.{in_turn_lem, of_input, some_number, turn_some}

-- ---- 9: two lists of lengths, one after the other
short_append : (k l : List (ℕ × ℕ)) → short (k ++ l) ≡ short k || short l
unfolding short
short_append [] l = refl
short_append (b ∷ k) l = let x = ltb b.0 b.1 in ap (λ (y : Bool). x || y) (short_append k l) ∙ sym (or_assoc x (short k) (short l))

pub short_first : (k l : List (ℕ × ℕ)) (x : Bool) → x ≡ short k → x ≡ true → true ≡ short (k ++ l)
short_first k l x p e = sym (short_append k l ∙ ap (λ (y : Bool). y || short l) (sym p ∙ e))

pub short_rest : (k l : List (ℕ × ℕ)) (x : Bool) → x ≡ short k → x ≡ false → short l ≡ short (k ++ l)
short_rest k l x p e = sym (short_append k l ∙ ap (λ (y : Bool). y || short l) (sym p ∙ e))

-- ---- the refusals that apply
-- a refusal that applies before cells and points are counted applies however many there are
due_early : (s : Bool) (m : Map) (l : List ℤ) (w p : Bool) → (refuse_batch s m l false false ≡ 0 → ⊥) → refuse_batch s m l w p ≡ refuse_batch s m l false false
due_early s m l w p h =
    let none = in_turn_lem s m l false false in
    in_turn_lem s m l w p ∙ sym (turn_some (of_input s m l) (cond w 6 (cond p 7 0)) (λ z. h (none ∙ z))) ∙ sym none

-- what is not refused by the input alone: nothing applies but 6 and, after it, 7
pub record Passed (s : Bool) (m : Map) (l : List ℤ) : Type 0 where
  pub long : s ≡ false
  pub radius : bad_radius m.size m.radius ≡ false
  pub few : length (entries l) ≤ max_batch
  pub order : unsorted (entries l) ≡ false
  pub bounds : outside (entries l) ≡ false
  pub small : m.cells ≤ max_cells
  pub later : (w p : Bool) → refuse_batch s m l w p ≡ cond w 6 (cond p 7 0)

pub batch_passed : (s : Bool) (m : Map) (l : List ℤ) → refuse_batch s m l (ltb max_cells m.cells) false ≡ 0 → Passed s m l
unfolding refuse_batch is_due
batch_passed s m l e =
    let q = passed _ e in
    record {
      long = q 9 tt;
      radius = q 2 tt;
      few = ltb-false max_batch (length (entries l)) (q 3 tt);
      order = (or_parts (ragged l) (unsorted (entries l)) (q 4 tt)).1;
      bounds = q 5 tt;
      small = ltb-false max_cells m.cells (q 6 tt);
      later = λ w p. in_turn_lem s m l w p ∙ rw (q 9 tt, q 1 tt, q 2 tt, q 3 tt, q 4 tt, q 5 tt) refl;
    }

-- ---- the model's judgement, where the tables hold its map
module _ (m : Map) (t : Lent) (M : model.Map) (b : List ℤ) (w : ragged b ≡ false) (h : Holds m t.tables M) where
  judged : judge (lent_needs t) (model.batch (entries b)) M (model.next (model.batch (entries b)) M)
      ≡ refuse_batch (short (lent_needs t)) m b (ltb max_cells (length (cells_after (model.to_batch (entries b)) M.cells))) (ltb max_points (points_after M (entries b)))
  unfolding judge refuse_batch
  judged = rw (w, h.size, h.radius, le-ltb max_cells (length M.cells) h.cells.room, le-ltb max_points (length M.layer.points) h.layer.room, next_cells M (entries b)) refl

-- 6 and 7, once nothing before them is due
room_turn : {a b x y : Bool} → a ≡ x → b ≡ y → verdict ((6, a) ∷ (7, b) ∷ []) ≡ cond x 6 (cond y 7 0)
unfolding verdict first_due is_due
room_turn u v = rw (u, v) refl

pub room_passed : (k p n : ℕ) → n ≡ verdict ((6, ltb max_cells k) ∷ (7, ltb max_points p) ∷ []) → n ≡ 0 → (k ≤ max_cells) × (p ≤ max_points)
unfolding is_due
room_passed k p n q z = let w = passed _ (sym q ∙ z) in (ltb-false max_cells k (w 6 tt), ltb-false max_points p (w 7 tt))

-- ---- the call
module _ (m : Map) (b : List ℤ) (t t' : Lent) (r : Changed) where
  abbrev s : Bool
  s = short (lent_needs t)

  abbrev l : List model.Entry
  l = entries b

  abbrev early : ℕ
  early = refuse_batch s m b (ltb max_cells m.cells) false

  abbrev after : List ℕ → List ℕ
  after C = cells_after (model.to_batch l) C

  abbrev HoldsCells : List ℕ → Type 0
  HoldsCells C = floor.Holds t.tables.cells m.cells C

  numbered : (n : ℕ) → r ≡ refused_with n → r.refusal ≡ n
  numbered n f = ap (λ (a : Changed). a.refusal) f

  -- a refusal that applies however many points there are, or of a map that comes with too many
  refuses : (n : ℕ) → (n ≡ 0 → ⊥) → r ≡ refused_with n → t' ≡ t → ((k : ℕ) → early ≡ suc k → n ≡ suc k) → (max_points < m.points → early ≡ 0 → (n ≡ 6) ⊎ (n ≡ 7))
      → ((C : List ℕ) → HoldsCells C → (p : Bool) → (max_points < m.points → p ≡ true) → n ≡ refuse_batch s m b (ltb max_cells (length (after C))) p) → Changing m b t t' r
  refuses n some f w first over due = record {
    input = λ k z. f ∙ ap refused_with (first k z);
    overfull = λ g z. ⊎_elim (λ e. inl (numbered n f ∙ e)) (λ e. inr (numbered n f ∙ e)) (over g z);
    packed = λ C h g. numbered n f ∙ due C h true (λ y. refl);
    refusal = λ v M h. numbered n f ∙ due M.cells h.cells (ltb max_points (points_after M l)) (λ g. absurd (let k = layer_few h.layer in omega arith)) ∙ sym (judged m t M b v h);
    refused = λ k z. (w, f ∙ ap refused_with (sym (numbered n f) ∙ z));
    done = λ M h z. absurd (some (sym (numbered n f) ∙ z));
  }

  pub early_refused : (n : ℕ) → (n ≡ 0 → ⊥) → n ≡ early → r ≡ refused_with n → t' ≡ t → Changing m b t t' r
  early_refused n some e f w = refuses n some f w (λ k z. e ∙ z) (λ g z. absurd (some (e ∙ z))) (λ C h p g. whatever C h p)
    where
      -- a map that holds its cells is not crowded itself
      calm : (C : List ℕ) → HoldsCells C → early ≡ refuse_batch s m b false false
      calm C h = ap (λ (v : Bool). refuse_batch s m b v false) (le-ltb max_cells m.cells (subst (λ (k : ℕ). k ≤ max_cells) (sym h.count) h.room))

      whatever : (C : List ℕ) → HoldsCells C → (p : Bool) → n ≡ refuse_batch s m b (ltb max_cells (length (after C))) p
      whatever C h p = e ∙ calm C h ∙ sym (due_early s m b (ltb max_cells (length (after C))) p (λ z. some (e ∙ calm C h ∙ z)))

  -- past the input's refusals, k is how many cells there would be
  module _ (e : 0 ≡ early) (k : ℕ)
      (count : AscL 0 (take m.cells t.tables.cells) → unsorted l ≡ false → outside l ≡ false → k ≡ length (after (take m.cells t.tables.cells)))
    where
      past : Passed s m b
      past = batch_passed s m b (sym e)

      counted : (C : List ℕ) → HoldsCells C → k ≡ length (after C)
      counted C h =
          let same = holds_cells t.tables.cells m.cells C h in
          count (subst (AscL 0) (sym same) h.order) past.order past.bounds ∙ ap (λ (D : List ℕ). length (after D)) same

      not_early : (n : ℕ) → early ≡ suc n → ⊥
      not_early n z = suc-ne-zero _ (sym z ∙ sym e)

      crowded_refused : max_cells < k → r ≡ refused_with 6 → t' ≡ t → Changing m b t t' r
      crowded_refused g f w =
          refuses 6 (suc-ne-zero _) f w (λ n z. absurd (not_early n z)) (λ u z. inl refl)
          (λ C h p u. sym (past.later (ltb max_cells (length (after C))) p ∙ ap (λ (v : Bool). cond v 6 (cond p 7 0)) (lt-ltb max_cells (length (after C)) (subst (λ (n : ℕ). max_cells < n) (counted C h) g))))

      module _ (g : k ≤ max_cells) where
        fits : (C : List ℕ) → HoldsCells C → length (after C) ≤ max_cells
        fits C h = subst (λ (n : ℕ). n ≤ max_cells) (counted C h) g

        -- where the cells fit, the points alone decide
        points_decide : (C : List ℕ) → HoldsCells C → (p : Bool) → refuse_batch s m b (ltb max_cells (length (after C))) p ≡ cond p 7 0
        points_decide C h p = past.later (ltb max_cells (length (after C))) p ∙ ap (λ (v : Bool). cond v 6 (cond p 7 0)) (le-ltb max_cells (length (after C)) (fits C h))

        packed_refused : max_points < m.points → r ≡ refused_with 7 → t' ≡ t → Changing m b t t' r
        packed_refused big f w =
            refuses 7 (suc-ne-zero _) f w (λ n z. absurd (not_early n z)) (λ u z. inr refl) (λ C h p u. sym (points_decide C h p ∙ ap (λ (v : Bool). cond v 7 0) (u big)))

        updated : m.points ≤ max_points → Updated m l t t' r → Changing m b t t' r
        updated few u = record {
          input = λ n z. absurd (not_early n z);
          overfull = λ big z. absurd (let j : m.points ≤ max_points = few in omega arith);
          packed = λ C h big. absurd (let j : m.points ≤ max_points = few in omega arith);
          refusal = λ v M h. answer M h (ltb max_points (points_after M l)) refl ∙ sym (points_decide M.cells h.cells (ltb max_points (points_after M l))) ∙ sym (judged m t M b v h);
          refused = λ n z. ⊎_elim (λ y. absurd (suc-ne-zero _ (sym z ∙ y))) (λ y. (y.1, y.0 ∙ ap refused_with (sym (numbered 7 y.0) ∙ z))) u.either;
          done = λ M h z. u.done M (updating M h) (enough M h (ltb max_points (points_after M l)) refl z);
        }
          where
            updating : (M : model.Map) → Holds m t.tables M → Updating m t.tables M l
            updating M h = record {
              holds = h;
              radius = rw (← h.size, ← h.radius) past.radius;
              few = past.few;
              order = past.order;
              bounds = past.bounds;
              room = fits M.cells h.cells;
            }

            answer : (M : model.Map) → Holds m t.tables M → (p : Bool) → ltb max_points (points_after M l) ≡ p → r.refusal ≡ cond p 7 0
            answer M h true q = u.packed M (updating M h) q
            answer M h false q = ap (λ (a : Changed). a.refusal) (u.done M (updating M h) q).answer

            enough : (M : model.Map) → Holds m t.tables M → (p : Bool) → ltb max_points (points_after M l) ≡ p → r.refusal ≡ 0 → ltb max_points (points_after M l) ≡ false
            enough M h true q z = absurd (suc-ne-zero _ (sym (answer M h true q) ∙ z))
            enough M h false q z = q

      -- past the input's refusals: 6 or 7, or the batch
      module _ (n : ℕ) (q : n ≡ verdict ((6, ltb max_cells k) ∷ (7, ltb max_points m.points) ∷ [])) where
        pub room_refused : (n ≡ 0 → ⊥) → r ≡ refused_with n → t' ≡ t → Changing m b t t' r
        room_refused some f w = go (ltb max_cells k) (ltb max_points m.points) refl refl
          where
            go : (x y : Bool) → ltb max_cells k ≡ x → ltb max_points m.points ≡ y → Changing m b t t' r
            go true y u v = crowded_refused (ltb-true max_cells k u) (f ∙ ap refused_with (q ∙ room_turn u v)) w
            go false true u v = packed_refused (ltb-false max_cells k u) (ltb-true max_points m.points v) (f ∙ ap refused_with (q ∙ room_turn u v)) w
            go false false u v = absurd (some (q ∙ room_turn u v))

        pub room_updated : n ≡ 0 → Updated m l t t' r → Changing m b t t' r
        room_updated z u = let p = room_passed k m.points n q z in updated p.0 p.1 u

-- ---- the call as the code has it: s is whether something is short
module _ (m : Map) (b : List ℤ) (t : Lent) (s : Bool) (is_short : s ≡ short (lent_needs t)) where
  judged_so : {n : ℕ} → n ≡ refuse_batch s m b (ltb max_cells m.cells) false → n ≡ refuse_batch (short (lent_needs t)) m b (ltb max_cells m.cells) false
  judged_so h = h ∙ ap (λ (z : Bool). refuse_batch z m b (ltb max_cells m.cells) false) is_short

  pub call_refused : (o : Result Change Refusal) (e : Refusal) → IsErrAnd o (λ x. x ≡ e) → number e ≡ refuse_batch s m b (ltb max_cells m.cells) false → Changing m b t t (changed_told o)
  call_refused (Ok c) e u h = absurd u
  call_refused (Err x) e u h = early_refused m b t t (refused_with (number x)) (number x) (some_number x) (ap number u ∙ judged_so h) refl refl

  -- past the input's refusals
  module _ (z : 0 ≡ refuse_batch s m b (ltb max_cells m.cells) false) where
    past_so : Passed (short (lent_needs t)) m b
    past_so = batch_passed (short (lent_needs t)) m b (sym (judged_so z))

    pub call_long : Enough (lent_needs t)
    call_long = long_enough (lent_needs t) past_so.long

    -- k is how many cells there would be, of a view v of the tables
    module _ (v : Tables) (same : v ≡ t.tables) (k : ℕ)
        (count : AscL 0 (take m.cells v.cells) → unsorted (entries b) ≡ false → outside (entries b) ≡ false → k ≡ length (cells_after (model.to_batch (entries b)) (take m.cells v.cells))) where
      count_so : AscL 0 (take m.cells t.tables.cells) → unsorted (entries b) ≡ false → outside (entries b) ≡ false → k ≡ length (cells_after (model.to_batch (entries b)) (take m.cells t.tables.cells))
      count_so =
          subst (λ (x : Tables). AscL 0 (take m.cells x.cells) → unsorted (entries b) ≡ false → outside (entries b) ≡ false → k ≡ length (cells_after (model.to_batch (entries b)) (take m.cells x.cells))) same count

      pub call_crowded : (o : Result Change Refusal) (e : Refusal) → IsErrAnd o (λ x. x ≡ e) → number e ≡ verdict ((6, ltb max_cells k) ∷ (7, ltb max_points m.points) ∷ []) → Changing m b t t (changed_told o)
      call_crowded (Ok c) e u h = absurd u
      call_crowded (Err x) e u h = room_refused m b t t (refused_with (number x)) (judged_so z) k count_so (number x) (ap number u ∙ h) (some_number x) refl refl

      pub call_updated : (t' : Lent) (r : Changed) → 0 ≡ verdict ((6, ltb max_cells k) ∷ (7, ltb max_points m.points) ∷ []) → Updated m (entries b) t t' r → Changing m b t t' r
      call_updated t' r h u = room_updated m b t t' r (judged_so z) k count_so 0 h refl u

    pub call_used : (v : Tables) → v ≡ t.tables → m.cells ≡ length (take m.cells v.cells)
    call_used v same =
        let x = call_long.0 in
        let y = past_so.small in
        let e : length v.cells ≡ length t.tables.cells = ap (λ (x : Tables). length x.cells) same in
        sym (length-take-le m.cells v.cells (omega arith))

    -- what the batch asks of the room N for corner changes, and of the rest
    pub call_room : (k N : ℕ) → 9 * length (entries b) ≤ N → N ≤ need_corners → 0 ≡ verdict ((6, ltb max_cells k) ∷ (7, ltb max_points m.points) ∷ [])
        → (m.cells ≤ max_cells) × (max_cells ≤ length t.tables.cells) × (m.points ≤ max_points) × (max_points ≤ length t.tables.points) × (max_points ≤ length t.tables.statuses) × (max_points ≤ length t.tables.blockers)
        × (length (entries b) ≤ max_batch) × (9 * length (entries b) ≤ N) × (need_confirmed ≤ length t.confirmed) × (need_confirmed ≤ length t.full) × (need_corners ≤ length t.corners) × (need_corners ≤ length t.altered) × (N ≤ need_corners)
    call_room k N few most h =
        let n = call_long in
        let o = n.1.1.1.1.1 in
        (past_so.small, n.0, (room_passed k m.points 0 h refl).1, n.1.0, n.1.1.0, n.1.1.1.0, past_so.few, few, o.0, o.1.0, o.1.1.0, o.1.1.1.0, most)

    pub call_few : 9 * length (entries b) ≤ need_corners
    call_few = let x = past_so.few in omega arith
