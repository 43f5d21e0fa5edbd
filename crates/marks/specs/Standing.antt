-- Between functions: what is known of a candidate while the marks are made. Definitions only; proofs/StandingLaws.antt ties it to the closed form of `model`.
use Rattle.std.specs.Prelude.{ℕ, suc, ◌+◌, ◌*◌, ◌<◌, Bool, cond, not, ◌&&◌, ◌||◌, List, [], ◌∷◌, ◌==◌, nat_lt}
use Rattle.model.specs.ClosedForm.{queues}
use Rattle.model.specs.Corner.{Bits, any_bit, number, set_bit}
use Rattle.model.specs.Good.{bits_in}
use Rattle.model.specs.Layer.{Mark, Points}
use Rattle.model.specs.Maps.{has, keys}
use Rattle.table.specs.Tables.{rank}
use Rattle.marks.specs.declared.mood.Mood.{Mood}

-- its status; one more than its place among the old points, and 0 once it went or where it was none; one more than the number of the first mark that queued it, and 0 where none did
pub record Standing : Type 0 where
  pub bits : Bits
  pub old : ℕ
  pub first : ℕ

-- before the marks, among the old points ps
unfoldable pub begun : Points → ℕ → Standing
begun ps k = record { bits = bits_in ps k; old = cond (has k (keys ps)) (suc (rank k (keys ps))) 0; first = 0 }

-- the n-th mark m, at this key
unfoldable pub marked : ℕ → Mark → Standing → Standing
marked n m w =
    let b = set_bit m.dir m.on w.bits in
    let f = cond (w.first == 0) (suc n) w.first in
    record { bits = b; old = cond (any_bit b) w.old 0; first = cond (queues m w.bits) f w.first }

-- the n-th mark m, of any key
unfoldable pub stood : ℕ → Mark → ℕ → Standing → Standing
stood n m k w = let x = marked n m w in cond (k == m.at) x w

-- all marks, the first being the n-th
unfoldable pub standing : ℕ → List Mark → ℕ → Standing → Standing
standing n [] k w = w
standing n (m ∷ ms) k w = standing (suc n) ms k (stood n m k w)

-- queued before the other: by the numbers of the first marks that queued them
abbrev pub sooner : ℕ → ℕ → Bool
sooner a b = not (a == 0) && (b == 0 || nat_lt a b)

-- ---- as the code has it: by the paper's numbers, and in one word
abbrev pub mood : Standing → Mood
mood w = record { status = number w.bits; old = w.old; first = w.first }

unfoldable pub word : Standing → ℕ
word w = number w.bits + 16 * w.old + 2048 * w.first

-- what a word has room for: an old place, and more marks than a batch makes
abbrev pub max_marks : ℕ
max_marks = 1048576

abbrev pub Small : Standing → Type 0
Small w = (w.old < 128) × (w.first < max_marks)

-- a word for each key
unfoldable pub words : (ℕ → Standing) → List ℕ → List ℕ
words f [] = []
words f (k ∷ l) = word (f k) ∷ words f l
