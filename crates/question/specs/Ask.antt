-- For floors, at no border: a question put to a floor, its refusals and its answer. Definitions only.
use Rattle.std.specs.Prelude.{ℕ, ◌≡◌, Bool, List, [], ◌∷◌, ltb, length, Float, Option, Result, Ok}
use Rattle.model.specs.Limits.{max_cells}
use Rattle.model.specs.Refusal.{verdict, short, bad_size, bad_question}
use Rattle.model.specs.Shape.{ask}
use Rattle.model.specs.Shape as model
use Rattle.limits.specs.Floor.{Holds}
use Rattle.limits.specs.Refusals.{code}
use Rattle.limits.specs.declared.cell.Cell.{Cell}
use Rattle.limits.specs.declared.floor.Floor.{Floor}
use Rattle.limits.specs.declared.refusal.Refusal.{Refusal}
use Rattle.question.specs.Question.{asked}
use Rattle.question.specs.Answer.{cell_at, placed}
use Rattle.question.specs.declared.search.Question.{Question}

-- the model's refusals of a question, for a floor of which no layer is asked: the lent places, the cell size, how many cells there are, whether a query number is bad
unfoldable pub refuse_floor : ℕ → Float → ℕ → Bool → ℕ
refuse_floor room c n bad =
    verdict ((9, short ((room, max_cells) ∷ [])) ∷ (1, bad_size c) ∷ (6, ltb max_cells n) ∷ (8, bad) ∷ [])

abbrev pub refuse_ask : ℕ → Float → ℕ → model.Question → ℕ
refuse_ask room c n q = refuse_floor room c n (bad_question q)

-- a refused call answers its refusal, and nothing else
pub record Asked (floor : Floor) (t : List ℕ) (q : Question) (r : Result (Option Cell) Refusal) : Type 0 where
  pub refusal : code r ≡ refuse_ask (length t) floor.size floor.cells (asked q)
  pub answer : (C : List ℕ) → Holds t floor.cells C → (p : Option Cell) → r ≡ Ok p → placed p ≡ cell_at (ask floor.size C (asked q)).cell
