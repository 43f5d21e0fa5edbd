use Rattle.std.proofs.Common.{◌≡◌, ℕ, suc, ◌+◌, ◌<◌, cond, eqb, ap, ◌∙◌, arith}
use Rattle.model.specs.Corner.{number, set_bit}
use Rattle.corner.specs.Weights.{dir}
use Rattle.marks.proofs.MoodLaws.{number_small, number_of, marked_is, first_now, first_queued, first_passed, old_gone, old_stays, queue_set, queue_cleared}
use Rattle.marks.specs.declared.mood.Mood.{Mood}
use Rattle.marks.specs.Standing.{Standing, marked, mood}
use Rattle.marks.proofs.mood.Mood.marked.Goals as goal
use Rattle.marks.proofs.mood.Mood.marked.Goals.{Joined-stays, else-on, else-queues-via-else-queues, else-queues-via-then-queues+else-self-eq0, else-stays, then-on, then-stays}

-- what both returns share: the status, the old number, and the mood by the first mark f
shared : (c : Joined-stays) → (c.set-is.result.bits < 16) × (c.if-stays.result < 128)
    × ((f : ℕ) → f ≡ cond c.if-on.queues (cond (eqb c.args.self.first 0) (suc c.args.n) c.args.self.first) c.args.self.first
    → (w : Standing) (k : ℕ) → c.args.self ≡ mood w
    → ◌≡◌ {A = Mood} (record { status = c.set-is.result.bits; old = c.if-stays.result; first = f }) (mood (marked c.args.n (record { dir = dir c.args.corner; at = k; on = c.args.on }) w)))
shared c =
    let a = c.args in
    let status : c.set-is.result.bits < 16 = let b = number_of a.self.status c.requires.0 in rw (c.set-is.ensures b.0 b.1) (number_small (set_bit (dir a.corner) a.on b.0)) in
    let little : c.if-stays.result < 128 = elim c.if-stays.branch [ then-stays u ↦ rw u.result-is c.requires.1 | else-stays u ↦ rw u.result-is (omega arith) ] in (
      status,
      little,
      λ f h w k e.
          let b = set_bit (dir a.corner) a.on w.bits in
          let was : a.self.status ≡ number w.bits = ap (λ (m : Mood). m.status) e in
          let is = c.set-is.ensures w.bits was in
          let t = c.is_corner-stays.result in
          let some = c.is_corner-stays.ensures b is in
          let o = c.if-stays.result in
          marked_is a.n (dir a.corner) k a.on w (record { status = c.set-is.result.bits; old = o; first = f }) c.if-on.queues is
          (elim c.if-stays.branch [ then-stays u ↦ old_stays b t w.old o some u.if-stays.true (u.result-is ∙ ap (λ (m : Mood). m.old) e) | else-stays u ↦ old_gone b t w.old o some u.if-stays.false u.result-is ])
          (elim c.if-on.branch [
            | then-on u ↦ queue_set w.bits b a.on u.is_corner.result c.if-on.queues u.if-on.true (u.is_corner.ensures w.bits was) u.queues-is
            | else-on u ↦ queue_cleared w.bits b a.on t c.if-on.queues u.if-on.false some u.queues-is
          ])
          (h ∙ ap (λ (m : Mood). cond c.if-on.queues (cond (eqb m.first 0) (suc a.n) m.first) m.first) e),
    )

pub returns-then-self-eq0 : goal.returns-then-self-eq0
returns-then-self-eq0 c =
    let a = c.args in
    let s = shared (goal.at.returns-then-self-eq0 c).Joined-stays in
    (s.0, s.1, omega arith, s.2 (a.n + 1) (first_now a.n a.self.first c.if-on.queues c.if-queues.true c.if-self-eq0.true))

pub returns-else-queues : goal.returns-else-queues
returns-else-queues c =
    let a = c.args in
    let s = shared (goal.at.returns-else-queues c).Joined-stays in (
      s.0,
      s.1,
      c.requires.2,
      s.2 a.self.first (elim c.else-queues.branch [
        | else-queues-via-then-queues+else-self-eq0 u ↦ first_queued a.n a.self.first c.if-on.queues u.if-self-eq0.false
        | else-queues-via-else-queues u ↦ first_passed a.n a.self.first c.if-on.queues u.if-queues.false
      ]),
    )
