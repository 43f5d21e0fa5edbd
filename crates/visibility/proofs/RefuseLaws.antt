-- A map's refusals in their order. Assumes nothing.
use Rattle.std.specs.Prelude.{Option, Some, None, Err, ok_or}
use Prim.Native.Nat.{ℕ, suc}
use native.Mathlib.Omega.{arith}
use mathlib.Core.Path.{◌≡◌, refl, sym, ◌∙◌}
use mathlib.Core.Bool.{Bool, true, false, cond, ◌||◌}
use mathlib.Core.List.{List, [], ◌∷◌, ◌++◌}
use lib.Dec.{eqb, ltb}
use lib.IntN.{ℤ}
use lib.ListN.{length}
use lib.Ieee.{Float}
use borrow.Author.Tests.{eqb-false}
use Rattle.limits.proofs.WordLaws.{judged}
use Rattle.limits.specs.Batches as grid
use Rattle.limits.specs.Refusals.{number}
use Rattle.limits.specs.Words.{first_on, looked, unless_long, word_on}
use Rattle.limits.specs.declared.refusal.Refusal.{Refusal}
use Rattle.limits.specs.declared.refusal.Refusal.TheVariants.{CellSize, Radius, LongBatch, Disorder, OffMap, ManyCells, ManyPoints, BadQuestion, ShortTable, BadFile}
use Rattle.model.proofs.DueLaws.{among, or_parts, refused}
use Rattle.model.specs.Limits.{max_batch, max_cells, max_points}
use Rattle.model.specs.Refusal.{bad_radius, bad_size, first_due, is_due, order, outside, short, verdict}
use Rattle.visibility.specs.Change.{refuse_batch}
use Rattle.visibility.specs.Radius.{refuse_radius}
use Rattle.held.specs.declared.map.Map.{Map}

-- ---- a refusal's number is not 0, which stands for none
pub some_number : (e : Refusal) → number e ≡ 0 → ⊥
some_number CellSize z = absurd (omega arith)
some_number Radius z = absurd (omega arith)
some_number LongBatch z = absurd (omega arith)
some_number Disorder z = absurd (omega arith)
some_number OffMap z = absurd (omega arith)
some_number ManyCells z = absurd (omega arith)
some_number ManyPoints z = absurd (omega arith)
some_number BadQuestion z = absurd (omega arith)
some_number ShortTable z = absurd (omega arith)
some_number BadFile z = absurd (omega arith)

-- ---- where there is none, the refusal is the one that was named
pub named_refusal : {A : Type 0} (r : Option A) (e f : Refusal) → r ≡ None → Err f ≡ ok_or r e → f ≡ e
named_refusal None e f z h = cc
named_refusal (Some n) e f z h = absurd (cc)

-- ---- the first refusal that is due, else n
abbrev pub in_turn : List (ℕ × Bool) → ℕ → ℕ
in_turn [] n = n
in_turn (b ∷ l) n = cond b.1 b.0 (in_turn l n)

-- where one is due, n does not count
pub turn_some : (l : List (ℕ × Bool)) (n : ℕ) → (in_turn l 0 ≡ 0 → ⊥) → in_turn l 0 ≡ in_turn l n
turn_some [] n f = absurd (f refl)
turn_some (b ∷ l) n f = go b.1 f (turn_some l n)
  where
    go : (s : Bool) → (cond s b.0 (in_turn l 0) ≡ 0 → ⊥) → ((in_turn l 0 ≡ 0 → ⊥) → in_turn l 0 ≡ in_turn l n) → cond s b.0 (in_turn l 0) ≡ cond s b.0 (in_turn l n)
    go true f ih = refl
    go false f ih = ih f

-- where none is, n is all
abbrev pub named : List (ℕ × Bool) → List ℕ
named [] = []
named (b ∷ l) = b.0 ∷ named l

pub turn_none : (l : List (ℕ × Bool)) (n : ℕ) → among 0 (named l) ≡ false → in_turn l 0 ≡ 0 → n ≡ in_turn l n
turn_none [] n a e = refl
turn_none (b ∷ l) n a e = go b.1 e (turn_none l n p.1)
  where
    p : (eqb 0 b.0 ≡ false) × (among 0 (named l) ≡ false)
    p = or_parts (eqb 0 b.0) (among 0 (named l)) a

    go : (s : Bool) → cond s b.0 (in_turn l 0) ≡ 0 → (in_turn l 0 ≡ 0 → n ≡ in_turn l n) → n ≡ cond s b.0 (in_turn l n)
    go true e ih = absurd (eqb-false 0 b.0 p.0 (sym e))
    go false e ih = ih e

-- ---- a batch
abbrev of_entries : List ℤ → List (ℕ × Bool)
of_entries l = (3, ltb max_batch (length (grid.entries l))) ∷ (4, grid.disorder l) ∷ (5, outside (grid.entries l)) ∷ []

abbrev pub of_input : Bool → Map → List ℤ → List (ℕ × Bool)
of_input s m l = (9, s) ∷ (1, bad_size m.size) ∷ (2, bad_radius m.size m.radius) ∷ of_entries l

module _ (s : Bool) (m : Map) (l : List ℤ) (w p : Bool) where
  pub in_turn_lem : refuse_batch s m l w p ≡ in_turn (of_input s m l) (cond w 6 (cond p 7 0))
  unfolding refuse_batch verdict first_due is_due
  in_turn_lem = refl

-- as a word: where the batch is too long, its entries are not looked at
looked_judged : (s z q x y v w : Bool) → verdict ((9, s) ∷ (1, z) ∷ (2, q) ∷ (unless_long x y v ++ ((6, w) ∷ []))) ≡ verdict ((9, s) ∷ (1, z) ∷ (2, q) ∷ (3, x) ∷ (4, y) ∷ (5, v) ∷ (6, w) ∷ (7, false) ∷ [])
unfolding verdict first_due is_due
looked_judged s z q true y v w = refl
looked_judged s z q false y v w = refl

pub batch_judged : (s : Bool) (m : Map) (l : List ℤ) (w : Bool) {k r : ℕ} → r ≡ first_on order k
    → k ≡ word_on 0 ((9, s) ∷ (1, bad_size m.size) ∷ (2, bad_radius m.size m.radius) ∷ (looked l ++ ((6, w) ∷ []))) → r ≡ refuse_batch s m l w false
unfolding refuse_batch
batch_judged s m l w e f = judged _ e f ∙ looked_judged s (bad_size m.size) (bad_radius m.size m.radius) (ltb max_batch (length (grid.entries l))) (grid.disorder l) (outside (grid.entries l)) w

-- a batch that is short of room, or cannot be read, is refused whatever else there is
module _ (s : Bool) (m : Map) (l : List ℤ) (w p : Bool) where
  batch_short : s ≡ true → (n : ℕ) × (refuse_batch s m l w p ≡ suc n)
  unfolding refuse_batch is_due
  batch_short e = refused _ 9 tt e

  pub batch_ragged : grid.ragged l ≡ true → (n : ℕ) × (refuse_batch s m l w p ≡ suc n)
  unfolding refuse_batch is_due
  batch_ragged e = refused _ 4 tt (rw e refl)

  pub batch_unread : s || grid.ragged l ≡ true → (n : ℕ) × (refuse_batch s m l w p ≡ suc n)
  batch_unread e = go s refl e
    where
      go : (z : Bool) → s ≡ z → z || grid.ragged l ≡ true → (n : ℕ) × (refuse_batch s m l w p ≡ suc n)
      go true i h = batch_short i
      go false i h = batch_ragged h

  -- and so is one on a map of a bad cell size
  pub batch_unsized : bad_size m.size ≡ true → (n : ℕ) × (refuse_batch s m l w p ≡ suc n)
  unfolding refuse_batch is_due
  batch_unsized e = refused _ 1 tt e

-- ---- a radius
module _ (s : Bool) (m : Map) (r : Float) where
  pub radius_turn : refuse_radius s m r ≡ cond s 9 (cond (bad_size m.size) 1 (cond (bad_radius m.size m.radius || bad_radius m.size r) 2 (cond (ltb max_cells m.cells) 6 (cond (ltb max_points m.points) 7 0))))
  unfolding refuse_radius verdict first_due is_due
  radius_turn = refl

  pub radius_judged : {k n : ℕ} → n ≡ first_on order k
      → k ≡ word_on 0 ((9, s) ∷ (1, bad_size m.size) ∷ (2, bad_radius m.size m.radius || bad_radius m.size r) ∷ (6, ltb max_cells m.cells) ∷ (7, ltb max_points m.points) ∷ []) → n ≡ refuse_radius s m r
  unfolding refuse_radius
  radius_judged = judged _

  -- a call that is short of room, or on a map of a bad cell size, is refused whatever else there is
  pub radius_short : s ≡ true → (n : ℕ) × (refuse_radius s m r ≡ suc n)
  unfolding refuse_radius is_due
  radius_short e = refused _ 9 tt e

  pub radius_size : bad_size m.size ≡ true → (n : ℕ) × (refuse_radius s m r ≡ suc n)
  unfolding refuse_radius is_due
  radius_size e = refused _ 1 tt e
