use mathlib.Core.Path.{refl}
use Rattle.question.specs.Walk.{round}
use Rattle.question.proofs.WalkLaws.{rows_answered}
use Rattle.question.proofs.walk.RoundTaking.first_in.Goals as goal

-- `walk::Round::first_in`: the rows from the first that is asked for. Assumes nothing.
pub returns : goal.returns
returns c =
    let s = c.args in
    let b = s.self.rows in
    λ a o. rows_answered (round b s.self.circle) s._x s.col.now c.rows_from.result.now b c.first_met.result refl a o (c.rows_from.ensures s._x a o) (λ z. c.first_met.ensures z b)
