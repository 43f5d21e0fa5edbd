-- The marks made over the candidates: one after another, and cell by cell. Assumes nothing.
use Rattle.std.proofs.Common.{◌≡◌, ℕ, ◌+◌, ◌*◌, ◌<◌, ◌≤◌, Bool, List, [], ◌∷◌, length, get_or, take, sym, refl, ap, ◌∙◌, arith, length-take-le, take_all}
use Rattle.corner.specs.Changes.{numbered}
use Rattle.model.specs.Cell.{Dir, move}
use Rattle.model.specs.Corner.{Bits, bit, number}
use Rattle.model.specs.Layer.{Mark, marks, marks_of}
use Rattle.model.specs.Limits.{need_corners}
use Rattle.model.specs.Maps.{AscL, keys}
use Rattle.table.specs.Listed.{values}
use Rattle.table.specs.Tables.{All}
use Rattle.table.proofs.AllLaws.{all_at}
use Rattle.table.proofs.ListedLaws.{keys_length}
use Rattle.marks.specs.Marked.{Bordered, MarksAll}
use Rattle.marks.specs.Standing.{Small, Standing, max_marks, standing, stood, words}
use Rattle.marks.proofs.StandLaws.{cell_at, dir_at, keys_at, mark_at, marks_length, marks_more, marks_next, numbers_at}
use Rattle.marks.proofs.StandingLaws.{standing_append, standing_one, standing_small}
use Rattle.marks.proofs.WordsLaws.{words_same}

-- ---- the four marks of a cell: d of them are made
abbrev Fours : List ℕ → List ℕ → List ℕ → ℕ → ℕ → ℕ → ℕ → ℕ → Type 0
Fours candidates m m' k status s n d =
    (f : ℕ → Standing) (b : Bits) → AscL 0 candidates → ((x : ℕ) → Small (f x)) → status ≡ number b → Bordered k → m ≡ words f candidates → m' ≡ words (λ x. standing n (take d (marks_of s k b)) x (f x)) candidates

pub record Four (candidates m m' : List ℕ) (k status s n d : ℕ) : Type 0 where
  pub few : d ≤ 4
  pub long : length m' ≡ length m
  pub is : Fours candidates m m' k status s n d

pub four_none : (candidates m : List ℕ) (k status s n : ℕ) → Four candidates m m k status s n 0
unfolding standing
four_none candidates m k status s n = record { few = omega arith; long = refl; is = λ f b a h e g w. w }

module _ (candidates m m' : List ℕ) (k status s n d : ℕ) (p : Four candidates m m' k status s n d) where
  pub four_more : d < 4 → n + 4 < max_marks → (D : Dir) → D ≡ dir_at d → (at : ℕ) → (Bordered k → at ≡ move s (dir_at d) k) → (on : Bool) → ((b : Bits) → status ≡ number b → on ≡ bit (dir_at d) b)
      → (m'' : List ℕ) → length m'' ≡ length m'
      → ((f : ℕ → Standing) → AscL 0 candidates → ((x : ℕ) → Small (f x)) → m' ≡ words f candidates → m'' ≡ words (λ x. stood (n + d) (record { dir = D; at = at; on = on }) x (f x)) candidates)
      → Four candidates m m'' k status s n (d + 1)
  four_more more room D dirs at places on seen m'' long next = record { few = omega arith; long = long ∙ p.long; is = after }
    where
      after : Fours candidates m m'' k status s n (d + 1)
      after f b a small e g w =
          let ms = take d (marks_of s k b) in
          let ld : length ms ≡ d = length-take-le d (marks_of s k b) (omega arith) in
          let same : ◌≡◌ {A = Mark} (record { dir = D; at = at; on = on }) (mark_at s k b d) = λ i. record { dir = dirs i; at = places g i; on = seen b e i } in
          next (λ x. standing n ms x (f x)) a (λ x. standing_small n ms x (f x) (omega arith) (small x)) (p.is f b a small e g w)
          ∙ words_same (λ x. stood (n + d) (record { dir = D; at = at; on = on }) x (standing n ms x (f x))) (λ x. standing n (take (d + 1) (marks_of s k b)) x (f x)) candidates
          (λ x.
          ap (λ (q : Mark). stood (n + d) q x (standing n ms x (f x))) same
          ∙ sym (
          ap (λ (l : List Mark). standing n l x (f x)) (marks_next s k b d more)
          ∙ standing_append n ms (mark_at s k b d ∷ []) x (f x)
          ∙ standing_one (n + length ms) (mark_at s k b d) x (standing n ms x (f x))
          ∙ ap (λ (j : ℕ). stood (n + j) (mark_at s k b d) x (standing n ms x (f x))) ld))

  pub four_done : 4 ≤ d → (f : ℕ → Standing) (b : Bits) → AscL 0 candidates → ((x : ℕ) → Small (f x)) → status ≡ number b → Bordered k → m ≡ words f candidates → m' ≡ words (λ x. standing n (marks_of s k b) x (f x)) candidates
  four_done h f b a small e g w =
      let z : d ≡ 4 = omega (arith, p.few) in
      p.is f b a small e g w ∙ ap (λ (j : ℕ). words (λ x. standing n (take j (marks_of s k b)) x (f x)) candidates) z

-- ---- all cells: the marks of i of them are made
abbrev Whole : List ℕ → List ℕ → List ℕ → List ℕ → List ℕ → ℕ → ℕ → Type 0
Whole candidates m m' corners altered s i =
    (f : ℕ → Standing) (changed : List (ℕ × Bits)) → AscL 0 candidates → ((x : ℕ) → ((f x).old < 128) × ((f x).first ≡ 0)) → corners ≡ keys changed → altered ≡ values (numbered changed) → All Bordered (keys changed) → m ≡ words f candidates
    → m' ≡ words (λ x. standing 0 (marks s (take i changed)) x (f x)) candidates

pub record Made (candidates m m' corners altered : List ℕ) (s i : ℕ) : Type 0 where
  pub few : i ≤ length corners
  pub long : length m' ≡ length m
  pub is : Whole candidates m m' corners altered s i

pub made_none : (candidates m corners altered : List ℕ) (s : ℕ) → Made candidates m m corners altered s 0
unfolding standing marks
made_none candidates m corners altered s = record { few = omega arith; long = refl; is = λ f changed a h e v g w. w }

module _ (candidates m m' corners altered : List ℕ) (s i : ℕ) (p : Made candidates m m' corners altered s i) where
  pub made_more : i < length corners → length corners ≤ need_corners → (m'' : List ℕ) → length m'' ≡ length m'
      → ((f : ℕ → Standing) (b : Bits) → AscL 0 candidates → ((x : ℕ) → Small (f x)) → get_or altered i 0 ≡ number b → Bordered (get_or corners i 0) → m' ≡ words f candidates
      → m'' ≡ words (λ x. standing (4 * i) (marks_of s (get_or corners i 0) b) x (f x)) candidates)
      → Made candidates m m'' corners altered s (i + 1)
  made_more more bound m'' long next = record { few = omega arith; long = long ∙ p.long; is = after }
    where
      after : Whole candidates m m'' corners altered s (i + 1)
      after f changed a small e v g w =
          let c = cell_at changed i in
          let lc : length corners ≡ length changed = ap length e ∙ keys_length changed in
          let ms = marks s (take i changed) in
          let lt : length (take i changed) ≡ i = length-take-le i changed (omega arith) in
          let lm : length ms ≡ 4 * i = marks_length s (take i changed) ∙ ap (λ (j : ℕ). 4 * j) lt in
          let l0 : 0 + length ms ≡ 4 * i = omega arith in
          let key : get_or corners i 0 ≡ c.0 = ap (λ (l : List ℕ). get_or l i 0) e ∙ keys_at changed i in
          let num : get_or altered i 0 ≡ number c.1 = ap (λ (l : List ℕ). get_or l i 0) v ∙ numbers_at changed i in
          next (λ x. standing 0 ms x (f x)) c.1 a (λ x. standing_small 0 ms x (f x) (omega arith) ((small x).0, omega (arith, (small x).1))) num (all_at Bordered corners i (rw e g) more) (p.is f changed a small e v g w)
          ∙ words_same (λ x. standing (4 * i) (marks_of s (get_or corners i 0) c.1) x (standing 0 ms x (f x))) (λ x. standing 0 (marks s (take (i + 1) changed)) x (f x)) candidates
          (λ x.
          ap (λ (j : ℕ). standing (4 * i) (marks_of s j c.1) x (standing 0 ms x (f x))) key
          ∙ sym (
          ap (λ (l : List Mark). standing 0 l x (f x)) (marks_more s i changed (omega arith))
          ∙ standing_append 0 ms (marks_of s c.0 c.1) x (f x)
          ∙ ap (λ (j : ℕ). standing j (marks_of s c.0 c.1) x (standing 0 ms x (f x))) l0))

  pub made_done : length corners ≤ i → MarksAll s candidates corners altered m m'
  made_done h f changed a small e v g w =
      let lc : length corners ≡ length changed = ap length e ∙ keys_length changed in
      p.is f changed a small e v g w ∙ ap (λ (l : List (ℕ × Bits)). words (λ x. standing 0 (marks s l) x (f x)) candidates) (take_all i changed (omega arith))
