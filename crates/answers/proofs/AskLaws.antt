-- The question of four shapes, answered or refused; by a number that names none it is refused. Assumes nothing.
use Prim.Native.Nat.{ℕ, ◌^◌}
use mathlib.Core.Path.{◌≡◌, refl, ap, ◌∙◌}
use mathlib.Core.Bool.{Bool, true, cond, true≢false}
use mathlib.Core.List.{List, [], ◌∷◌}
use lib.Bits.{bit_or}
use lib.ListN.{length, take}
use Rattle.std.specs.Prelude.{Option, Some, None, Result, Ok, Err}
use Rattle.std.specs.Result.{IsErrAnd}
use Rattle.answers.proofs.PassedLaws.{asked_as, passed_query, said}
use Rattle.held.specs.declared.map.Map.{Map}
use Rattle.limits.proofs.WordLaws.{due_added, none_added}
use Rattle.limits.specs.Refusals.{code, number}
use Rattle.limits.specs.declared.cell.Cell.{Cell}
use Rattle.limits.specs.declared.refusal.Refusal.{Refusal}
use Rattle.model.specs.Answers.{question}
use Rattle.model.specs.Good.{Inside}
use Rattle.model.specs.Limits.{max_cells, max_coordinate}
use Rattle.model.specs.Map as model
use Rattle.model.specs.Maps.{AscL}
use Rattle.model.specs.Refusal.{short}
use Rattle.model.specs.Shape.{ask}
use Rattle.answers.specs.CellLists.{Lent, due}
use Rattle.answers.proofs.CellLaws.{held}
use Rattle.question.specs.Question.{asked}
use Rattle.question.specs.Numbered.{bad_numbered}
use Rattle.question.specs.Walk.{found, found_as}
use Rattle.question.specs.declared.search.Found.{Found}
use Rattle.question.specs.declared.search.Question.{Question}
use Rattle.question.proofs.AskLaws.{search_placed}
use Rattle.question.specs.Answer.{cell_at, placed}
use Rattle.table.specs.Tables.{All}
use Rattle.answers.specs.Asks.{AsksNumbered}

-- the refusal that is due, of what the tests say
abbrev pub numbered_due : Map → List ℕ → Option Question → ℕ
numbered_due m cells q = due m cells [] ((8, bad_numbered q) ∷ [])

pub due_told : (m : Map) (cells : List ℕ) (q : Option Question) (n : ℕ) (s bad : Bool) (w v : ℕ) → n ≡ said s m w → s ≡ short ((length cells, max_cells) ∷ []) → w ≡ bit_or v (cond bad (2 ^ 8) 0) → v ≡ 0 → bad ≡ bad_numbered q
    → n ≡ numbered_due m cells q
due_told m cells q n s bad w v f e g z h = asked_as n s _ m w ((8, bad_numbered q) ∷ []) f e (due_added 8 0 (bad_numbered q) [] g refl h (z ∙ none_added 0))

-- a shape that no number names is always refused
pub unknown_refused : (m : Map) (cells : List ℕ) → numbered_due m cells None ≡ 0 → ⊥
unknown_refused m cells e = true≢false (passed_query (short ((length cells, max_cells) ∷ [])) m true e)

-- the call returned with the refusal e
err_code : (r : Result (Option Cell) Refusal) (e : Refusal) → IsErrAnd r (λ x. x ≡ e) → code r ≡ number e
err_code (Ok a) e i = absurd i
err_code (Err x) e i = ap number i

err_not_ok : (r : Result (Option Cell) Refusal) (e : Refusal) → IsErrAnd r (λ x. x ≡ e) → (o : Option Cell) → r ≡ Ok o → ⊥
err_not_ok (Ok a) e i o z = absurd i
err_not_ok (Err x) e i o z = cc

pub numbered_refused : (m : Map) (cells : List ℕ) (q : Option Question) (r : Result (Option Cell) Refusal) (e : Refusal) → IsErrAnd r (λ x. x ≡ e) → number e ≡ numbered_due m cells q → AsksNumbered m cells q r
numbered_refused m cells None r e i h = err_code r e i ∙ h
numbered_refused m cells (Some q) r e i h = record { refusal = err_code r e i ∙ h; answer = λ M k o z. absurd (err_not_ok r e i o z) }

-- or with what is found, a cell or none
pub numbered_done : (m : Map) (cells : List ℕ) (n : Option Question) (v : Question) (o : Option Cell) → n ≡ Some v → 0 ≡ numbered_due m cells n → ((M : model.Map) → Lent m cells M → placed o ≡ cell_at (question M (asked v)).cell)
    → AsksNumbered m cells n (Ok o)
numbered_done m cells None v o e h w = cc
numbered_done m cells (Some q) v o e h w =
    let same : q ≡ v = cc in
    record { refusal = h; answer = λ M k p z. let is : o ≡ p = cc in rw (same, ← is) (w M k) }

-- what the search finds is the model's answer, of a map that is held
pub question_told : (m : Map) (cells : List ℕ) (q : Question) (o : Found) (p : Option Cell) → placed p ≡ cell_at (found o).cell
    → (AscL 0 (take m.cells cells) → All (Inside max_coordinate) (take m.cells cells) → o ≡ found_as (ask m.size (take m.cells cells) (asked q)))
    → (M : model.Map) → Lent m cells M → placed p ≡ cell_at (question M (asked q)).cell
unfolding question
question_told m cells q o p e f M h = rw (← h.1.size) (search_placed m.size cells m.cells (asked q) o p e f M.cells (held m cells M h))
