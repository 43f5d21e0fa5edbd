use Prim.Native.Nat.{ℕ, ◌≤◌}
use native.Mathlib.Omega.{arith}
use mathlib.Core.Path.{◌≡◌, sym, ap, ◌∙◌}
use mathlib.Core.Bool.{Bool, true, false}
use mathlib.Core.List.{List}
use Rattle.marks.specs.Standing.{Standing, mood, sooner}
use Rattle.marks.specs.declared.mood.Mood.{Mood}
use Rattle.model.specs.Limits.{max_points}
use Rattle.model.specs.Map.{tests}
use Rattle.held.specs.Codes.{pair_code}
use Rattle.held.specs.Pairs.{Pairs, PairsBy}
use Rattle.sight.specs.Paired.{old_pair}
use Rattle.sight.proofs.PairLaws.{start_held, start_new, start_open}
use Rattle.sight.proofs.pair.start_pair.Goals as goal

-- what the two calls say of moods that words say
module _ (was other : Mood) (w v : Standing) (e : was ≡ mood w) (f : other ≡ mood v) where
  held : (P : PairsBy) (old : List ℕ) (r : ℕ) → ((P : PairsBy) (w v : Standing) → Pairs P old → was.old ≡ w.old → other.old ≡ v.old → was.old ≤ max_points → other.old ≤ max_points → r ≡ pair_code (old_pair P w v))
      → Pairs P old → w.old ≤ max_points → v.old ≤ max_points → r ≡ pair_code (old_pair P w v)
  held P old r told s x y =
      let g : was.old ≡ w.old = ap (λ (m : Mood). m.old) e in
      let h : other.old ≡ v.old = ap (λ (m : Mood). m.old) f in
      told P w v s g h (omega (arith, g, x)) (omega (arith, h, y))

  queued : (b r : Bool) → r ≡ sooner was.first other.first → r ≡ b → sooner w.first v.first ≡ b
  queued b r told h = ap (λ (m : Mood). sooner m.first v.first) (sym e) ∙ ap (λ (m : Mood). sooner was.first m.first) (sym f) ∙ sym told ∙ h

pub returns-then-held-eq1 : goal.returns-then-held-eq1
returns-then-held-eq1 c = λ P w v o i s n e f x y.
    let a = c.args in
    let r = c.old_pair-held in
    start_open (tests a.ground.size a.ground.radius) a.ground.cells.now P a.p.key w a.q.key v r.result (held a.p.mood a.q.mood w v e f P a.old.now r.result r.ensures s x y) n c.if-held-eq1.true

pub returns-then-held-ne0 : goal.returns-then-held-ne0
returns-then-held-ne0 c = λ P w v o i s n e f x y.
    let a = c.args in
    let r = c.old_pair-held in
    start_held (tests a.ground.size a.ground.radius) a.ground.cells.now P a.p.key w a.q.key v r.result (held a.p.mood a.q.mood w v e f P a.old.now r.result r.ensures s x y) c.if-held-ne0.true c.if-held-eq1.false

pub returns-then-is_sooner : goal.returns-then-is_sooner
returns-then-is_sooner c = λ P w v o i s n e f x y.
    let a = c.args in
    let r = c.old_pair-held in
    c.sweep_between.ensures o i
    ∙ start_new (tests a.ground.size a.ground.radius) a.ground.cells.now P a.p.key w a.q.key v r.result (held a.p.mood a.q.mood w v e f P a.old.now r.result r.ensures s x y) n c.if-held-ne0.false true (queued a.p.mood a.q.mood w v e f true c.is_sooner.result c.is_sooner.ensures c.if-is_sooner.true)

pub returns : goal.returns
returns c = λ P w v o i s n e f x y.
    let a = c.args in
    let r = c.old_pair-held in
    c.sweep_between-2.ensures o i
    ∙ start_new (tests a.ground.size a.ground.radius) a.ground.cells.now P a.p.key w a.q.key v r.result (held a.p.mood a.q.mood w v e f P a.old.now r.result r.ensures s x y) n c.if-held-ne0.false false (queued a.p.mood a.q.mood w v e f false c.is_sooner.result c.is_sooner.ensures c.if-is_sooner.false)
