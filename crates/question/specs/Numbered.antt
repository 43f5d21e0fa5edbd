-- A question by its shape's number, as the border hands it over; the Rust has a function for each shape. Definitions only.
use Rattle.std.specs.Prelude.{ℕ, Bool, true, cond, eqb, Float, Option, Some, None}
use Rattle.plane.specs.declared.point.Point.{Point}
use Rattle.model.specs.Refusal.{bad_question}
use Rattle.question.specs.Question.{asked}
use Rattle.question.specs.declared.search.Question.{Question}

-- 0 is a point, 1 a square, 2 a circle, 3 a sweep; no other number names a shape
unfoldable pub question_of : ℕ → Point → Point → Float → Option Question
question_of shape p q extent =
    cond (eqb shape 0) (Some (Question.Point p))
    (cond (eqb shape 1) (Some (Question.Square p extent))
    (cond (eqb shape 2) (Some (Question.Circle p extent))
    (cond (eqb shape 3) (Some (Question.Sweep p q extent)) None)))

-- 8: the number names no shape, or one of the question's numbers is bad
abbrev pub bad_numbered : Option Question → Bool
bad_numbered None = true
bad_numbered (Some q) = bad_question (asked q)
