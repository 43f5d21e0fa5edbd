-- `head::due`: the tests in their order (HeadLaws.antt).
use Rattle.std.proofs.Common.{sym, ◌∙◌, inl, inr}
use Rattle.mapfile.proofs.HeadLaws.{due_bad, due_lacking, due_long, due_none, due_unfit, long, not_long}
use Rattle.mapfile.proofs.head.due.Goals as goal
use Rattle.mapfile.proofs.head.due.Goals.{else-tag-eq3-2-via-else-tag-eq3-2, else-tag-eq3-2-via-then-tag-eq3-2+else-bad_flags, then-not-fitting-via-else-not-fitting+then-rest-n, then-not-fitting-via-then-not-fitting}

pub returns-then-n-gt-VALUE : goal.returns-then-n-gt-VALUE
returns-then-n-gt-VALUE c = let a = c.args in due_long a.tag a.n a.rest.now (long a.tag a.n c.if-tag-eq3.true c.if-n-gt-VALUE.true)

pub returns-then-not-fitting : goal.returns-then-not-fitting
returns-then-not-fitting c =
    let a = c.args in
    let l = not_long a.tag a.n c.else-tag-eq3.either in
    elim c.then-not-fitting.branch [
      | then-not-fitting-via-then-not-fitting w ↦ due_unfit a.tag a.n a.rest.now l (sym c.fitting.ensures ∙ w.if-not-fitting.true)
      | then-not-fitting-via-else-not-fitting+then-rest-n w ↦ due_lacking a.tag a.n a.rest.now l (sym c.fitting.ensures ∙ w.if-not-fitting.false) w.if-rest-n.true
    ]

pub returns-then-bad_flags : goal.returns-then-bad_flags
returns-then-bad_flags c =
    let a = c.args in
    due_bad a.tag a.n a.rest.now (not_long a.tag a.n c.else-tag-eq3.either) (sym c.fitting.ensures ∙ c.if-not-fitting.false) c.if-rest-n.false c.if-tag-eq3-2.true (sym c.bad_flags.ensures ∙ c.if-bad_flags.true)

pub returns : goal.returns
returns c =
    let a = c.args in
    due_none a.tag a.n a.rest.now (not_long a.tag a.n c.else-tag-eq3.either) (sym c.fitting.ensures ∙ c.if-not-fitting.false) c.if-rest-n.false
    (elim c.else-tag-eq3-2.branch [
      | else-tag-eq3-2-via-then-tag-eq3-2+else-bad_flags w ↦ inl (w.if-tag-eq3-2.true, sym w.bad_flags.ensures ∙ w.if-bad_flags.false)
      | else-tag-eq3-2-via-else-tag-eq3-2 w ↦ inr w.if-tag-eq3-2.false
    ])
