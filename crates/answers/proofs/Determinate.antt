-- Any two outcomes that a call's contract permits are equal, of a map that is held; and where the call is refused, whatever the tables hold. Assumes nothing.
use Prim.Native.Nat.{ℕ, zero, suc}
use native.Mathlib.Nat.{suc-ne-zero}
use mathlib.Core.Path.{refl, sym, ap, ◌∙◌, ◌≡◌}
use mathlib.Core.Bool.{Bool}
use mathlib.Core.List.{List, [], ◌∷◌}
use lib.IntN.{ℤ}
use lib.ListN.{length}
use Rattle.answers.proofs.AskLaws.{numbered_due, unknown_refused}
use Rattle.answers.proofs.ListingLaws.{Settled, list_one, settled_one}
use Rattle.limits.proofs.RefusalLaws.{number_one, number_some}
use Rattle.answers.specs.Told.{counted, said}
use Rattle.answers.specs.declared.judge.Count.{Count}
use Rattle.model.specs.Limits.{need_cells}
use Rattle.held.specs.declared.map.Map.{Map}
use Rattle.answers.specs.Found.{Telling}
use Rattle.answers.specs.declared.cells.Told.{Told}
use Rattle.answers.specs.CellLists.{CornerCells, IsOccupied, Lent, OccupiedCells, due}
use Rattle.answers.specs.PairLists.{AllPairs, AllPoints, FreeHeld, FreePoints, OpenHeld, OpenPairs, PairsHeld, PointsHeld, free_due, open_due, pairs_due, points_due}
use Rattle.model.specs.Refusal.{bad_question}
use Rattle.question.specs.Question.{asked}
use Rattle.question.specs.declared.search.Question.{Question}
use Rattle.question.proofs.Determinate.{place_one}
use Rattle.question.specs.Answer.{placed}
use Rattle.limits.specs.Refusals.{code}
use Rattle.limits.specs.declared.cell.Cell.{Cell}
use Rattle.limits.specs.declared.refusal.Refusal.{Refusal}
use Rattle.std.specs.Prelude.{Option, Some, None, Result, Ok, Err}
use Rattle.answers.specs.Asks.{Asks, AsksNumbered}
use Rattle.model.specs.Map as model

same_told : (r q : Told) → r.refusal ≡ q.refusal → r.yes ≡ q.yes → r ≡ q
same_told r q a b = rw (a, b) refl

module _ (n : ℕ) (Hold : model.Map → Type 0) where
  telling_one : (x y : ℤ) (r q : Told) → Telling n Hold x y r → Telling n Hold x y q → Settled n Hold → r ≡ q
  telling_one x y r q u v =
      settled_one n Hold r q (λ k e. u.refused k e ∙ sym (v.refused k e)) (λ M h e. same_told r q (u.refusal ∙ sym v.refusal) (u.answer M h e ∙ sym (v.answer M h e)))

-- ---- the calls, on the cells that the map m lends
module _ (m : Map) (cells : List ℕ) where
  pub occupied_one : (x y : ℤ) (r q : Told) → IsOccupied m cells x y r → IsOccupied m cells x y q → Settled (due m cells [] []) (Lent m cells) → r ≡ q
  occupied_one = telling_one (due m cells [] []) (Lent m cells)

  module _ (out out₁ out₂ : List ℕ) (r q : Count) where
    pub cells_one : OccupiedCells m cells out out₁ r → OccupiedCells m cells out out₂ q → Settled (due m cells ((length out, need_cells) ∷ []) []) (Lent m cells) → (r ≡ q) × (out₁ ≡ out₂)
    cells_one u v s = let w = list_one (due m cells ((length out, need_cells) ∷ []) []) (Lent m cells) _ _ _ _ r q (refl, refl, tt) u v s in (w.0, w.1.0)

    module _ (statuses statuses₁ statuses₂ : List ℕ) where
      pub corners_one : CornerCells m cells out statuses out₁ statuses₁ r → CornerCells m cells out statuses out₂ statuses₂ q
          → Settled (due m cells ((length out, need_cells) ∷ (length statuses, need_cells) ∷ []) []) (Lent m cells) → (r ≡ q) × (out₁ ≡ out₂) × (statuses₁ ≡ statuses₂)
      corners_one u v s =
          let w = list_one (due m cells ((length out, need_cells) ∷ (length statuses, need_cells) ∷ []) []) (Lent m cells) _ _ _ _ r q (refl, refl, (refl, refl, tt)) u v s in
          (w.0, w.1.0, w.1.1.0)

-- `all_points`
module _ (m : Map) (points statuses blockers out bits blocks : List ℕ) where
  pub points_one : (o₁ o₂ b₁ b₂ c₁ c₂ : List ℕ) (r q : Count) → AllPoints m points statuses blockers out bits blocks o₁ b₁ c₁ r → AllPoints m points statuses blockers out bits blocks o₂ b₂ c₂ q
      → Settled (points_due m points statuses blockers out bits blocks) (PointsHeld m points statuses blockers out bits blocks) → (r ≡ q) × (o₁ ≡ o₂) × (b₁ ≡ b₂) × (c₁ ≡ c₂)
  points_one o₁ o₂ b₁ b₂ c₁ c₂ r q u v s =
      let e = list_one (points_due m points statuses blockers out bits blocks) (PointsHeld m points statuses blockers out bits blocks) _ _ _ _ r q (refl, refl, (refl, refl, (refl, refl, tt))) u v s in
      (e.0, e.1.0, e.1.1.0, e.1.1.1.0)

-- `free_points`
module _ (m : Map) (points blockers out : List ℕ) where
  pub free_one : (o₁ o₂ : List ℕ) (r q : Count) → FreePoints m points blockers out o₁ r → FreePoints m points blockers out o₂ q → Settled (free_due m points blockers out) (FreeHeld m points blockers out) → (r ≡ q) × (o₁ ≡ o₂)
  free_one o₁ o₂ r q u v s =
      let e = list_one (free_due m points blockers out) (FreeHeld m points blockers out) _ _ _ _ r q (refl, refl, tt) u v s in
      (e.0, e.1.0)

-- `all_pairs`
module _ (m : Map) (points pairs lesser greater blocks : List ℕ) where
  pub pairs_one : (a₁ a₂ b₁ b₂ c₁ c₂ : List ℕ) (r q : Count) → AllPairs m points pairs lesser greater blocks a₁ b₁ c₁ r → AllPairs m points pairs lesser greater blocks a₂ b₂ c₂ q
      → Settled (pairs_due m points pairs lesser greater blocks) (PairsHeld m points pairs lesser greater blocks) → (r ≡ q) × (a₁ ≡ a₂) × (b₁ ≡ b₂) × (c₁ ≡ c₂)
  pairs_one a₁ a₂ b₁ b₂ c₁ c₂ r q u v s =
      let e = list_one (pairs_due m points pairs lesser greater blocks) (PairsHeld m points pairs lesser greater blocks) _ _ _ _ r q (refl, refl, (refl, refl, (refl, refl, tt))) u v s in
      (e.0, e.1.0, e.1.1.0, e.1.1.1.0)

-- `open_pairs`
module _ (m : Map) (points blockers pairs lesser greater : List ℕ) where
  pub open_one : (a₁ a₂ b₁ b₂ : List ℕ) (r q : Count) → OpenPairs m points blockers pairs lesser greater a₁ b₁ r → OpenPairs m points blockers pairs lesser greater a₂ b₂ q → Settled (open_due m points blockers pairs lesser greater) (OpenHeld m points blockers pairs lesser greater)
      → (r ≡ q) × (a₁ ≡ a₂) × (b₁ ≡ b₂)
  open_one a₁ a₂ b₁ b₂ r q u v s =
      let e = list_one (open_due m points blockers pairs lesser greater) (OpenHeld m points blockers pairs lesser greater) _ _ _ _ r q (refl, refl, (refl, refl, tt)) u v s in
      (e.0, e.1.0, e.1.1.0)

-- ---- a question
-- two that are refused with the same number, and two that find the same
refused_both : (r q : Result (Option Cell) Refusal) (k : ℕ) → code r ≡ suc k → code q ≡ suc k → r ≡ q
refused_both (Ok o) q k u v = absurd (suc-ne-zero k (sym u))
refused_both (Err e) (Ok p) k u v = absurd (suc-ne-zero k (sym v))
refused_both (Err e) (Err f) k u v = ap (λ (x : Refusal). Err x) (number_one e f (u ∙ sym v))

found_both : (r q : Result (Option Cell) Refusal) → code r ≡ 0 → code q ≡ 0 → ((o p : Option Cell) → r ≡ Ok o → q ≡ Ok p → placed o ≡ placed p) → r ≡ q
found_both (Err e) q u v f = absurd (number_some e u)
found_both (Ok o) (Err e) u v f = absurd (number_some e v)
found_both (Ok o) (Ok p) u v f = ap (λ (x : Option Cell). Ok x) (place_one o p (f o p refl refl))

pub ask_one : (m : Map) (cells : List ℕ) (question : Question) (r q : Result (Option Cell) Refusal) → Asks m cells question r → Asks m cells question q
    → Settled (due m cells [] ((8, bad_question (asked question)) ∷ [])) (Lent m cells) → r ≡ q
ask_one m cells question r q u v =
    settled_one (due m cells [] ((8, bad_question (asked question)) ∷ [])) (Lent m cells) r q (λ k e. refused_both r q k (u.refusal ∙ e) (v.refusal ∙ e))
    (λ M h e. found_both r q (u.refusal ∙ e) (v.refusal ∙ e) (λ o p x y. u.answer M h o x ∙ sym (v.answer M h p y)))

-- by its shape's number
pub numbered_one : (m : Map) (cells : List ℕ) (n : Option Question) (r q : Result (Option Cell) Refusal) → AsksNumbered m cells n r → AsksNumbered m cells n q → Settled (numbered_due m cells n) (Lent m cells) → r ≡ q
numbered_one m cells (Some question) r q u v s = ask_one m cells question r q u v s
numbered_one m cells None r q u v s = go (numbered_due m cells None) refl
  where
    go : (k : ℕ) → numbered_due m cells None ≡ k → r ≡ q
    go zero e = absurd (unknown_refused m cells e)
    go (suc k) e = refused_both r q k (u ∙ e) (v ∙ e)

-- ---- what C gets of an answer is all of it
abbrev refusal_of : Count → ℕ
refusal_of c = c.refusal

abbrev count_of : Count → ℕ
count_of c = c.count

pub counted_one : (r q : Result ℕ Refusal) → counted r ≡ counted q → r ≡ q
counted_one (Ok a) (Ok b) h = ap (λ (x : ℕ). Ok x) (ap count_of h)
counted_one (Ok a) (Err f) h = absurd (number_some f (sym (ap refusal_of h)))
counted_one (Err e) (Ok b) h = absurd (number_some e (ap refusal_of h))
counted_one (Err e) (Err f) h = ap (λ (x : Refusal). Err x) (number_one e f (ap refusal_of h))

abbrev told_refusal : Told → ℕ
told_refusal t = t.refusal

abbrev told_yes : Told → Bool
told_yes t = t.yes

pub said_one : (r q : Result Bool Refusal) → said r ≡ said q → r ≡ q
said_one (Ok a) (Ok b) h = ap (λ (x : Bool). Ok x) (ap told_yes h)
said_one (Ok a) (Err f) h = absurd (number_some f (sym (ap told_refusal h)))
said_one (Err e) (Ok b) h = absurd (number_some e (ap told_refusal h))
said_one (Err e) (Err f) h = ap (λ (x : Refusal). Err x) (number_one e f (ap told_refusal h))
