-- For replayed vectors: what a line asks (oracle/src/bin/grid_vectors.rs and map_vectors/answers.rs say which letter has which operands). Definitions only.
use Rattle.std.specs.Prelude.{ℕ, ◌+◌, cond, List, ◌==◌, Float}
use Rattle.model.specs.Plane.{Pt}
use Rattle.model.specs.Shape.{Question, point, square, circle, sweep}
use Rattle.replay.specs.Patterns.{float_of, pattern_at}

-- two operands, one after the other
abbrev pub point_at : List ℕ → ℕ → Pt
point_at l from = record { x = float_of (pattern_at l from); y = float_of (pattern_at l (from + 17)) }

-- s, c and w are a square, a circle and a sweep, any other letter a point
unfoldable pub shaped : ℕ → Pt → Pt → Float → Float → Question
shaped letter p q length width = cond (letter == 115) (square p length) (cond (letter == 99) (circle p length) (cond (letter == 119) (sweep p q width) (point p)))

abbrev pub question_at : ℕ → List ℕ → Question
question_at letter l = shaped letter (point_at l 2) (point_at l 36) (float_of (pattern_at l 36)) (float_of (pattern_at l 70))
