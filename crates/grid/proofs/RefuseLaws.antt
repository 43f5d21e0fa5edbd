-- A batch's refusals in their order. Assumes nothing.
use Prim.Native.Nat.{ℕ, suc, ◌≤◌}
use native.Mathlib.Nat.{suc-ne-zero}
use native.Mathlib.Omega.{arith}
use mathlib.Core.Path.{◌≡◌, refl, sym, ◌∙◌}
use mathlib.Core.Bool.{Bool, true, false, cond}
use mathlib.Core.List.{List, [], ◌∷◌, ◌++◌}
use lib.Dec.{ltb}
use lib.IntN.{ℤ}
use lib.ListN.{length}
use lib.Ieee.{Float}
use borrow.Author.Tests.{ltb-false}
use Rattle.model.proofs.DueLaws.{or_parts}
use Rattle.model.specs.Limits.{max_batch, max_cells, need_confirmed, need_corners}
use Rattle.model.specs.Refusal.{first_due, is_due, order, verdict, short, bad_size, unsorted, outside}
use Rattle.limits.proofs.WordLaws.{judged}
use Rattle.limits.specs.Batches.{disorder, entries, ragged}
use Rattle.limits.specs.Words.{first_on, looked, unless_long, word_on}
use Rattle.grid.specs.Change.{Lent, refuse_change, short_for, short_of}

-- ---- 9: where no table is short
pub record Enough (t : Lent) : Type 0 where
  pub cells : max_cells ≤ length t.cells
  pub confirmed : need_confirmed ≤ length t.confirmed
  pub full : need_confirmed ≤ length t.full
  pub corners : need_corners ≤ length t.corners
  pub altered : need_corners ≤ length t.altered

pub long_enough : (t : Lent) → short_for t ≡ false → Enough t
unfolding short_of short
long_enough t z =
    let p = or_parts (ltb (length t.cells) max_cells) _ z in
    let q = or_parts (ltb (length t.confirmed) need_confirmed) _ p.1 in
    let r = or_parts (ltb (length t.full) need_confirmed) _ q.1 in
    let s = or_parts (ltb (length t.corners) need_corners) _ r.1 in
    let u = or_parts (ltb (length t.altered) need_corners) _ s.1 in
    record {
      cells = ltb-false (length t.cells) max_cells p.0;
      confirmed = ltb-false (length t.confirmed) need_confirmed q.0;
      full = ltb-false (length t.full) need_confirmed r.0;
      corners = ltb-false (length t.corners) need_corners s.0;
      altered = ltb-false (length t.altered) need_corners u.0;
    }

-- ---- all of them, in turn
abbrev batch_then : Bool → Bool → Bool → ℕ → ℕ
batch_then x y z n = cond x 3 (cond y 4 (cond z 5 n))

module _ (s : Bool) (c : Float) (l : List ℤ) (w : Bool) where
  abbrev rest : ℕ → ℕ
  rest = batch_then (ltb max_batch (length (entries l))) (disorder l) (outside (entries l))

  in_turn_lem : refuse_change s c l w ≡ cond s 9 (cond (bad_size c) 1 (rest (cond w 6 0)))
  unfolding refuse_change verdict first_due is_due
  in_turn_lem = refl

-- as a word: where the batch is too long, its entries are not looked at
looked_judged : (s z x y v w : Bool) → verdict ((9, s) ∷ (1, z) ∷ (unless_long x y v ++ ((6, w) ∷ []))) ≡ verdict ((9, s) ∷ (1, z) ∷ (3, x) ∷ (4, y) ∷ (5, v) ∷ (6, w) ∷ [])
unfolding verdict first_due is_due
looked_judged s z true y v w = refl
looked_judged s z false y v w = refl

pub change_judged : (s : Bool) (c : Float) (l : List ℤ) (w : Bool) {k r : ℕ} → r ≡ first_on order k → k ≡ word_on 0 ((9, s) ∷ (1, bad_size c) ∷ (looked l ++ ((6, w) ∷ []))) → r ≡ refuse_change s c l w
unfolding refuse_change
change_judged s c l w e f = judged _ e f ∙ looked_judged s (bad_size c) (ltb max_batch (length (entries l))) (disorder l) (outside (entries l)) w

-- what is not refused by the input alone: nothing applies but, with another number of cells, 6
pub record Passed (s : Bool) (c : Float) (l : List ℤ) (w : Bool) : Type 0 where
  pub long : s ≡ false
  pub few : length (entries l) ≤ max_batch
  pub order : unsorted (entries l) ≡ false
  pub bounds : outside (entries l) ≡ false
  pub crowd : w ≡ false
  pub later : (v : Bool) → refuse_change s c l v ≡ cond v 6 0

pub change_passed : (s : Bool) (c : Float) (l : List ℤ) (w : Bool) → refuse_change s c l w ≡ 0 → Passed s c l w
change_passed s c l w z = go s (bad_size c) (ltb max_batch (length (entries l))) (disorder l) (outside (entries l)) w refl refl refl refl refl refl (sym (in_turn_lem s c l w) ∙ z)
  where
    go : (a b x y v u : Bool) → s ≡ a → bad_size c ≡ b → ltb max_batch (length (entries l)) ≡ x → disorder l ≡ y → outside (entries l) ≡ v → w ≡ u → ◌≡◌ {A = ℕ} (cond a 9 (cond b 1 (batch_then x y v (cond u 6 0)))) 0 → Passed s c l w
    go true b x y v u p q r o t i h = absurd (suc-ne-zero _ h)
    go false true x y v u p q r o t i h = absurd (suc-ne-zero _ h)
    go false false true y v u p q r o t i h = absurd (suc-ne-zero _ h)
    go false false false true v u p q r o t i h = absurd (suc-ne-zero _ h)
    go false false false false true u p q r o t i h = absurd (suc-ne-zero _ h)
    go false false false false false true p q r o t i h = absurd (suc-ne-zero _ h)
    go false false false false false false p q r o t i h = record { long = p; few = ltb-false max_batch (length (entries l)) r; order = (or_parts (ragged l) (unsorted (entries l)) o).1; bounds = t; crowd = i; later = λ n. in_turn_lem s c l n ∙ rw (p, q, r, o, t) refl }

-- a refusal that applies before the cells are counted applies however many there are
pub change_early : (s : Bool) (c : Float) (l : List ℤ) (v : Bool) → (refuse_change s c l false ≡ 0 → ⊥) → refuse_change s c l v ≡ refuse_change s c l false
change_early s c l v some = in_turn_lem s c l v ∙ go s (bad_size c) (ltb max_batch (length (entries l))) (disorder l) (outside (entries l)) (λ z. some (in_turn_lem s c l false ∙ z)) ∙ sym (in_turn_lem s c l false)
  where
    go : (a b x y u : Bool) → (◌≡◌ {A = ℕ} (cond a 9 (cond b 1 (batch_then x y u 0))) 0 → ⊥) → ◌≡◌ {A = ℕ} (cond a 9 (cond b 1 (batch_then x y u (cond v 6 0)))) (cond a 9 (cond b 1 (batch_then x y u 0)))
    go true b x y u h = refl
    go false true x y u h = refl
    go false false true y u h = refl
    go false false false true u h = refl
    go false false false false true h = refl
    go false false false false false h = absurd (h refl)
