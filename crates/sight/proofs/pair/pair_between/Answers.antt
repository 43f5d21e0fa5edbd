use Prim.Native.Nat.{ℕ}
use mathlib.Core.Path.{◌≡◌, sym, ap, ◌∙◌}
use mathlib.Core.Bool.{Bool}
use Rattle.marks.specs.Standing.{Standing, mood}
use Rattle.marks.specs.declared.mood.Mood.{Mood}
use Rattle.model.specs.Corner.{Bits, number, sees}
use Rattle.sight.proofs.PairLaws.{between_blocked, between_hidden, between_hiding, between_open, start_named}
use Rattle.sight.proofs.pair.pair_between.Goals as goal
use Rattle.sight.proofs.pair.pair_between.Goals.{then-not-sees-via-then-not-sees, then-not-sees-via-else-not-sees+then-not-sees-2}

-- what a call of `sees` says, where the mood is that of a standing
sight : (p q : ℕ) (m : Mood) (v : Standing) → m ≡ mood v → (r t : Bool) → ((b : Bits) → m.status ≡ number b → r ≡ sees p q b) → r ≡ t → sees p q v.bits ≡ t
sight p q m v f r t told h = sym (told v.bits (ap (λ (m : Mood). m.status) f)) ∙ h

pub returns-then-not-sees : goal.returns-then-not-sees
returns-then-not-sees c = λ ch P w v order inside changes confirmed_are full_are is_proximity pairs named e f x y.
    let a = c.args in
    elim c.then-not-sees.branch [
      | then-not-sees-via-then-not-sees u ↦ between_hidden a.ground.size a.ground.radius a.ground.cells.now ch P a.p.key w a.q.key v (sight a.p.key a.q.key a.q.mood v f c.sees.result _ c.sees.ensures u.if-not-sees.true)
      | then-not-sees-via-else-not-sees+then-not-sees-2 u ↦ between_hiding a.ground.size a.ground.radius a.ground.cells.now ch P a.p.key w a.q.key v (sight a.p.key a.q.key a.q.mood v f c.sees.result _ c.sees.ensures u.if-not-sees.false)
          (sight a.q.key a.p.key a.p.mood w e u.sees-else-not-sees.result _ u.sees-else-not-sees.ensures u.if-not-sees-2.true)
    ]

pub returns-then-block-eq0 : goal.returns-then-block-eq0
returns-then-block-eq0 c = λ ch P w v order inside changes confirmed_are full_are is_proximity pairs named e f x y.
    let a = c.args in
    between_open a.ground.size a.ground.radius a.ground.cells.now ch P a.p.key w a.q.key v (sight a.p.key a.q.key a.q.mood v f c.sees.result _ c.sees.ensures c.if-not-sees.false) (sight a.q.key a.p.key a.p.mood w e c.sees-else-not-sees.result _ c.sees-else-not-sees.ensures c.if-not-sees-2.false) c.run_pair-block.result
    (c.run_pair-block.ensures ch _ order inside changes confirmed_are full_are is_proximity (c.start_pair-start.ensures P w v order inside pairs named e f x y) (start_named a.ground.size a.ground.radius a.ground.cells.now P a.p.key w a.q.key v inside named))
    inside changes named c.if-block-eq0.true

pub returns-else-block-eq0 : goal.returns-else-block-eq0
returns-else-block-eq0 c = λ ch P w v order inside changes confirmed_are full_are is_proximity pairs named e f x y.
    let a = c.args in
    between_blocked a.ground.size a.ground.radius a.ground.cells.now ch P a.p.key w a.q.key v (sight a.p.key a.q.key a.q.mood v f c.sees.result _ c.sees.ensures c.if-not-sees.false) (sight a.q.key a.p.key a.p.mood w e c.sees-else-not-sees.result _ c.sees-else-not-sees.ensures c.if-not-sees-2.false) c.run_pair-block.result
    (c.run_pair-block.ensures ch _ order inside changes confirmed_are full_are is_proximity (c.start_pair-start.ensures P w v order inside pairs named e f x y) (start_named a.ground.size a.ground.radius a.ground.cells.now P a.p.key w a.q.key v inside named))
    c.if-block-eq0.false
