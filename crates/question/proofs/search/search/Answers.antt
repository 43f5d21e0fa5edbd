use Rattle.model.specs.Shape.{ask}
use Rattle.question.proofs.search.search.Goals as goal

-- `search::search` goes by cases. Assumes nothing.
pub returns-in-Point : goal.returns-in-Point
unfolding ask
returns-in-Point c = λ a i. rw c.in-Point.is (c.point.ensures a)

pub returns-in-Square : goal.returns-in-Square
unfolding ask
returns-in-Square c = λ a i. rw c.in-Square.is (c.square.ensures a i)

pub returns-in-Circle : goal.returns-in-Circle
unfolding ask
returns-in-Circle c = λ a i. rw c.in-Circle.is (c.circle.ensures a i)

pub returns-in-Sweep : goal.returns-in-Sweep
unfolding ask
returns-in-Sweep c = λ a i. rw c.in-Sweep.is (c.sweep.ensures a i)
