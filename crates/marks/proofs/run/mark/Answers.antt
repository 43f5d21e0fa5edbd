use Rattle.std.proofs.Common.{◌≡◌, ℕ, List, get_or, sym, refl, ap, ◌∙◌, arith, length-set}
use Rattle.corner.specs.Weights.{dir}
use Rattle.model.specs.Layer.{Mark}
use Rattle.marks.specs.declared.mood.Mood.{Mood}
use Rattle.marks.specs.Standing.{Small, Standing, marked, mood, words}
use Rattle.marks.proofs.WordsLaws.{marked_none, marked_word, stands_read}
use Rattle.marks.proofs.run.mark.Goals as goal
use Rattle.marks.proofs.run.mark.Goals.{After-of_word-was}

-- the mood that the word there says
was : (c : After-of_word-was) → (f : ℕ → Standing) → ((x : ℕ) → Small (f x)) → c.args.moods.now ≡ words f c.args.candidates.now → c.of_word-was.result ≡ mood (f c.args.k)
was c f s e =
    let a = c.args in
    let at = c.place-at.result in
    c.of_word-was.ensures.2 (f a.k) (s a.k) (ap (λ (l : List ℕ). get_or l at 0) e ∙ stands_read f a.k at a.candidates.now (sym c.stands_at.ensures ∙ c.if-stands_at.true))

pub returns-then-was-lt-MARKS : goal.returns-then-was-lt-MARKS
returns-then-was-lt-MARKS c =
    let a = c.args in
    let p = c.place-at in
    let m : Mark = record { dir = dir a.corner; at = a.k; on = a.on } in (
      length-set a.moods.now p.result c.word.result,
      λ f o s e. marked_word a.n m f a.candidates.now a.moods.now p.result o (p.ensures.1 o) e (sym c.stands_at.ensures ∙ c.if-stands_at.true) c.word.result
          (c.word.ensures (marked a.n m (f a.k)) (c.marked.ensures.3 (f a.k) a.k (was (goal.at.returns-then-was-lt-MARKS c).After-of_word-was f s e))),
    )

pub returns-else-was-lt-MARKS : goal.returns-else-was-lt-MARKS
returns-else-was-lt-MARKS c =
    let k = c.args.k in
    (refl, λ f o s e. let z : c.of_word-was.result.first ≡ (f k).first = ap (λ (m : Mood). m.first) (was (goal.at.returns-else-was-lt-MARKS c).After-of_word-was f s e) in absurd (omega (arith, c.if-was-lt-MARKS.false, (s k).1)))

pub returns-else-stands_at : goal.returns-else-stands_at
returns-else-stands_at c =
    let a = c.args in
    let p = c.place-at in
    (refl, λ f o s e. marked_none a.n (record { dir = dir a.corner; at = a.k; on = a.on }) f a.candidates.now a.moods.now p.result o (p.ensures.1 o) e (sym c.stands_at.ensures ∙ c.if-stands_at.false))
