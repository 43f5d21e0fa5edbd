-- The question of four shapes, put to a map: the refusal that is due, the map that is held, and the answer (RULES 2.4; sparse_grid.rs). Definitions only.
use Rattle.std.specs.Prelude.{ℕ, ◌≡◌, true, List, [], ◌∷◌, Option, Some, None, Result, Ok}
use Rattle.held.specs.declared.map.Map.{Map}
use Rattle.limits.specs.Refusals.{code}
use Rattle.limits.specs.declared.cell.Cell.{Cell}
use Rattle.limits.specs.declared.refusal.Refusal.{Refusal}
use Rattle.model.specs.Answers.{question}
use Rattle.model.specs.Map as model
use Rattle.model.specs.Refusal.{bad_question}
use Rattle.answers.specs.CellLists.{Lent, due}
use Rattle.question.specs.Question.{asked}
use Rattle.question.specs.declared.search.Question.{Question}
use Rattle.question.specs.Answer.{cell_at, placed}

-- the question q, where the refusal n is due or none: 0 is an answer, and any other number a refusal
pub record Asking (n : ℕ) (Hold : model.Map → Type 0) (q : Question) (r : Result (Option Cell) Refusal) : Type 0 where
  pub refusal : code r ≡ n
  pub answer : (M : model.Map) → Hold M → (o : Option Cell) → r ≡ Ok o → placed o ≡ cell_at (question M (asked q)).cell

-- of the map m, which lends its cells
abbrev pub Asks : Map → List ℕ → Question → Result (Option Cell) Refusal → Type 0
Asks m cells q r = Asking (due m cells [] ((8, bad_question (asked q)) ∷ [])) (Lent m cells) q r

-- by its shape's number: one that names no shape is a query number outside its bounds, and the call is refused, whatever the tables hold
abbrev pub AsksNumbered : Map → List ℕ → Option Question → Result (Option Cell) Refusal → Type 0
AsksNumbered m cells None r = code r ≡ due m cells [] ((8, true) ∷ [])
AsksNumbered m cells (Some q) r = Asks m cells q r
