-- For floors, at no border: a question and its answer as numbers, for C: the refusal, or the cell's key, or 0 for none (RULES 2.4). Definitions only.
use Rattle.std.specs.Prelude as std
use Rattle.std.specs.Prelude.{ℕ, suc, true, List, ◌≡◌, Float, length, Some, None}
use Rattle.std.proofs.Math.Option.{Option, none, some}
use Rattle.limits.specs.Floor.{Holds}
use Rattle.model.specs.Shape.{Question, ask}
use Rattle.question.specs.Question.{asked}
use Rattle.question.specs.Ask.{refuse_ask, refuse_floor}
use Rattle.question.specs.Numbered.{question_of}
use Rattle.question.specs.declared.search.Question as code

-- by its shape's number and its numbers
abbrev pub question : ℕ → Float → Float → Float → Float → Float → std.Option code.Question
question shape x0 y0 x1 y1 extent = question_of shape (record { x = x0; y = y0 }) (record { x = x1; y = y1 }) extent

-- a cell's key, or 0
abbrev pub key_or : Option ℕ → ℕ
key_or none = 0
key_or (some k) = k

-- of the lent table t, n cells of size c: the refusal's number, whatever the table holds; else what the model answers of the cells that it holds
pub record Telling (t : List ℕ) (c : Float) (n : ℕ) (q : Question) (r : ℕ) : Type 0 where
  pub refused : (k : ℕ) → refuse_ask (length t) c n q ≡ suc k → r ≡ suc k
  pub answer : (C : List ℕ) → Holds t n C → refuse_ask (length t) c n q ≡ 0 → r ≡ key_or (ask c C q).cell

-- a number that names no shape is a query number outside its bounds
abbrev pub Tells : List ℕ → Float → ℕ → std.Option code.Question → ℕ → Type 0
Tells t c n None r = r ≡ refuse_floor (length t) c n true
Tells t c n (Some q) r = Telling t c n (asked q) r
