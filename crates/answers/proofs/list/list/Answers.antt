use Rattle.std.proofs.Common.{◌≡◌, List, length, set, refl, ap, ◌∙◌, arith}
use Rattle.table.proofs.Front.{mix, mix_done, mix_more}
use Rattle.answers.proofs.list.list.Goals as goal

pub loop-i-init : goal.loop-i-init
loop-i-init g c = refl

pub loop-i-preserved : goal.loop-i-preserved
loop-i-preserved g c =
    let a = c.args in
    let i = c.loop-i.i in
    let x = c.index-entries-i.result in
    ap (λ (l : List g.row.T.Denot). set l i x) c.loop-i.invariant
    ∙ ap (set (mix a.entries.now a.out.now i) i) c.index-entries-i.is
    ∙ mix_more a.entries.now a.out.now i x c.loop-i-test.true (omega arith)

pub returns : goal.returns
returns g c =
    let a = c.args in
    let n = length a.entries.now in
    let e : c.loop-i.i ≡ n = omega arith in
    record {
      done = λ h. c.loop-i.invariant ∙ ap (mix a.entries.now a.out.now) e ∙ mix_done a.entries.now a.out.now n refl;
      short = λ h. absurd (omega arith);
    }
