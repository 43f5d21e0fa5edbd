-- The code's question as the model's. Definitions only.
use Rattle.model.specs.Shape.{point, square, circle, sweep}
use Rattle.model.specs.Shape as model
use Rattle.plane.specs.Values.{pt}
use Rattle.question.specs.declared.search.Question.{Question}

abbrev pub asked : Question → model.Question
asked (Question.Point p) = point (pt p)
asked (Question.Square p w) = square (pt p) w
asked (Question.Circle p r) = circle (pt p) r
asked (Question.Sweep p q w) = sweep (pt p) (pt q) w
