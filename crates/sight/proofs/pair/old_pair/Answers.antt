use Rattle.std.proofs.Common.{sym, ◌∙◌, arith}
use lib.ListN.{get_or-eq_default}
use Rattle.sight.proofs.PairLaws.{old_at, old_left, old_right}
use Rattle.sight.proofs.pair.old_pair.Goals as goal
use Rattle.sight.proofs.pair.old_pair.Goals.{then-a-eq0-via-then-a-eq0, then-a-eq0-via-else-a-eq0+then-b-eq0, then-a-eq0-via-else-a-eq0+else-b-eq0+then-a-gt-ROW, then-a-eq0-via-else-a-eq0+else-b-eq0+else-a-gt-ROW+then-b-gt-ROW}

-- `pair::old_pair`: the place of the two in the old table. Assumes nothing.
pub returns-then-a-eq0 : goal.returns-then-a-eq0
returns-then-a-eq0 c = λ P w v s e f x y.
    elim c.then-a-eq0.branch [
      | then-a-eq0-via-then-a-eq0 t ↦ old_left P w v (sym e ∙ t.if-a-eq0.true)
      | then-a-eq0-via-else-a-eq0+then-b-eq0 t ↦ old_right P w v (λ z. t.if-a-eq0.false (e ∙ z)) (sym f ∙ t.if-b-eq0.true)
      | then-a-eq0-via-else-a-eq0+else-b-eq0+then-a-gt-ROW t ↦ absurd (omega arith)
      | then-a-eq0-via-else-a-eq0+else-b-eq0+else-a-gt-ROW+then-b-gt-ROW t ↦ absurd (omega arith)
    ]

pub returns-then-at-old : goal.returns-then-at-old
returns-then-at-old c = λ P w v s e f x y.
    let a = c.args in
    old_at P w v a.old.now a.a a.b s e f c.if-a-eq0.false c.if-b-eq0.false x y

pub returns-else-at-old : goal.returns-else-at-old
returns-else-at-old c = λ P w v s e f x y.
    let a = c.args in
    sym (get_or-eq_default a.old.now 0 c.if-at-old.false)
    ∙ old_at P w v a.old.now a.a a.b s e f c.if-a-eq0.false c.if-b-eq0.false x y
