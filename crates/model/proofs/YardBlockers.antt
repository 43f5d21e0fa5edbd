-- Where the square test at a point answers the first occupied cell within the reach, every update leaves each point blocked exactly when there is such a cell. Assumes nothing.
use Prim.Native.Nat.{ℕ}
use mathlib.Core.Path.{◌≡◌, refl, sym, ap, ◌∙◌, subst}
use mathlib.Core.Bool.{Bool, true, false, cond}
use mathlib.Core.List.{List, [], ◌∷◌}
use mathlib.Core.Option.{Option, none, some, none-ne-some, some-ne-none, some-injective}
use lib.Dec.{T, eqb, eqb→eq}
use lib.Ieee.{Float}
use Rattle.model.specs.Maps.{get, has, find}
use Rattle.model.specs.Cell.{within}
use Rattle.model.specs.Corner.{Bits, corner_cells}
use Rattle.model.specs.Batch.{Batch, cells_after, confirmed, corner_changes}
use Rattle.model.specs.Layer.{Tests, Point, Layer, point_after, update}
use Rattle.model.specs.Good.{Exact}
use Rattle.model.specs.ClosedForm.{point_run}
use Rattle.model.specs.Demand3.{last_word}
use Rattle.model.proofs.MapLaws.{notT→false, true→T}
use Rattle.model.proofs.FindLaws.{find_passes, find_none}
use Rattle.model.proofs.BatchLaws.{confirmed_last}
use Rattle.model.proofs.Phase2.{point_from}

-- what the yard class owes: over the cells C, the square test at the points k that are Ok, in whole numbers
abbrev pub Whole : Tests → (ℕ → Type 0) → List ℕ → Type 0
Whole t Ok C = (k : ℕ) → Ok k → (t.square C k).cell ≡ find (λ c. within t.shift c k) C

-- the points that are Ok are blocked exactly when an occupied cell lies within the reach
abbrev pub Blocked : (ℕ → Type 0) → ℕ → List ℕ → Layer → Type 0
Blocked Ok s C l = (k : ℕ) (p : Point) → get k l.points ≡ some p → Ok k → Exact s C k p.block

-- ---- the run of a point's blocker over the changes
-- within the reach; or every occupied cell within the reach is one that the changes to come fill
record Soon (s : ℕ) (C : List ℕ) (ch : Batch) (k : ℕ) (o : Option ℕ) : Type 0 where
  reached : (b : ℕ) → o ≡ some b → T (within s b k)
  clear : o ≡ none → (c : ℕ) → T (has c C) → T (within s c k) → T (last_word ch c false)

-- a change that does not fill y says nothing of y that was not so
word_past : (y c : ℕ) (v : Bool) (ch : Batch) → (y ≡ c → v ≡ false) → last_word ((c, v) ∷ ch) y false ≡ last_word ch y false
unfolding last_word
word_past y c v ch f = ap (last_word ch y) (go (eqb y c) (eqb→eq y c))
  where
    go : (b : Bool) → (T b → y ≡ c) → cond b v false ≡ false
    go true g = f (g tt)
    go false g = refl

-- a point that b blocks, and one that nothing blocks and that the change of c leaves so
module _ (s : ℕ) (C : List ℕ) (ch : Batch) (k : ℕ) where
  soon_some : (b : ℕ) → T (within s b k) → Soon s C ch k (some b)
  soon_some b u = record { reached = λ x e. subst (λ (z : ℕ). T (within s z k)) (some-injective b x e) u; clear = λ e. absurd (some-ne-none b e) }

  soon_none : (c : ℕ) (v : Bool) → (T v → within s c k ≡ false) → Soon s C ((c, v) ∷ ch) k none → Soon s C ch k none
  soon_none c v f x = record { reached = x.reached; clear = λ e y h u. rw (word_past y c v ch (past y u)) at (x.clear e y h u) }
    where
      past : (y : ℕ) → T (within s y k) → y ≡ c → v ≡ false
      past y u e = notT→false v (λ z. let a : T (within s c k) = rw e at u in let b : T false = rw (f z) at a in b)

module _ (t : Tests) (Ok : ℕ → Type 0) (C : List ℕ) (whole : Whole t Ok C) where
  -- so the square test's answer is what it should be
  square_soon : (ch : Batch) (k : ℕ) → Ok k → Soon t.shift C ch k (t.square C k).cell
  square_soon ch k ok =
      record {
        reached = λ b e. find_passes (λ c. within t.shift c k) C b (sym (whole k ok) ∙ e);
        clear = λ e c h u. absurd (find_none (λ x. within t.shift x k) C (sym (whole k ok) ∙ e) c h u);
      }

  -- one change of c, filled or freed by v, at a point that o blocks
  soon_step : (k : ℕ) → Ok k → (c : ℕ) (v : Bool) (ch : Batch) (o : Option ℕ) → Soon t.shift C ((c, v) ∷ ch) k o → Soon t.shift C ch k (point_after t C k c v o)
  soon_step k ok c true ch none x = go (within t.shift c k) refl
    where
      go : (b : Bool) → within t.shift c k ≡ b → Soon t.shift C ch k (cond b (some c) none)
      go true q = soon_some t.shift C ch k c (true→T (within t.shift c k) q)
      go false q = soon_none t.shift C ch k c true (λ z. q) x
  soon_step k ok c true ch (some b) x = soon_some t.shift C ch k b (x.reached b refl)
  soon_step k ok c false ch none x = soon_none t.shift C ch k c false (λ z. absurd z) x
  soon_step k ok c false ch (some b) x = go (eqb b c)
    where
      go : (s : Bool) → Soon t.shift C ch k (cond s (t.square C k).cell (some b))
      go true = square_soon ch k ok
      go false = soon_some t.shift C ch k b (x.reached b refl)

  soon_run : (k : ℕ) → Ok k → (ch : Batch) (o : Option ℕ) → Soon t.shift C ch k o → Exact t.shift C k (point_run t C k ch o)
  unfolding point_run last_word
  soon_run k ok [] o x = record { reached = x.reached; clear = x.clear }
  soon_run k ok (e ∷ ch) o x = soon_run k ok ch (point_after t C k e.0 e.1 o) (soon_step k ok e.0 e.1 ch o x)

  -- an update by any corners leaves the points as they should be, if before it every occupied cell within the reach of a free point is one that its changes fill
  update_exact : (ch : Batch) (cs : List (ℕ × Bits)) (l : Layer) → ((k : ℕ) (p : Point) → get k l.points ≡ some p → Ok k → Soon t.shift C ch k p.block)
      → Blocked Ok t.shift C (update t C ch cs l)
  update_exact ch cs l f k p e ok =
      let r = point_from t C ch cs l (λ o. Soon t.shift C ch k o) k (square_soon ch k ok) (λ q d. f k q d ok) p e in
      subst (Exact t.shift C k) r.2 (soon_run k ok ch r.0 r.1)

-- ---- a batch, and a fresh build
-- a batch keeps the points blocked exactly when they should be: C before, C' after
pub change_exact : (t : Tests) (Ok : ℕ → Type 0) (b : Batch) (C : List ℕ) (l : Layer) → Whole t Ok (cells_after b C) → Blocked Ok t.shift C l
    → Blocked Ok t.shift (cells_after b C) (update t (cells_after b C) (confirmed b C) (corner_changes C (cells_after b C) (confirmed b C)) l)
change_exact t Ok b C l whole g =
    update_exact t Ok C' whole ch (corner_changes C C' ch) l (λ k p e ok. soon k p.block (g k p e ok))
  where
    C' : List ℕ
    C' = cells_after b C

    ch : Batch
    ch = confirmed b C

    soon : (k : ℕ) (o : Option ℕ) → Exact t.shift C k o → Soon t.shift C' ch k o
    soon k o x = record { reached = x.reached; clear = λ e c h u. rw (confirmed_last b C c, notT→false (has c C) (λ z. x.clear e c z u)) at h }

-- a fresh build has them so
pub rebuild_exact : (t : Tests) (Ok : ℕ → Type 0) (C : List ℕ) → Whole t Ok C → (r : Float) → Blocked Ok t.shift C (update t C [] (corner_cells C) (record { radius = r; points = []; edges = [] }))
unfolding get
rebuild_exact t Ok C whole r = update_exact t Ok C whole [] (corner_cells C) (record { radius = r; points = []; edges = [] }) (λ k p e. absurd (none-ne-some p e))
