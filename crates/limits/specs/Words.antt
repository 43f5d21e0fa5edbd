-- Between functions: the refusals that are due, as a word, bit n for the number n. Definitions only.
use Rattle.std.specs.Prelude.{ℕ, ◌/◌, ◌%◌, ◌^◌, Bool, not, cond, ◌&&◌, List, [], ◌∷◌, eqb, ltb, ℤ, length}
use Rattle.std.specs.Int.Bits.{bit_or}
use Rattle.model.specs.Limits.{max_batch}
use Rattle.model.specs.Refusal.{Dues, outside}
use Rattle.limits.specs.Batches.{disorder, entries}

-- the word w, and what is due besides
unfoldable pub word_on : ℕ → Dues → ℕ
word_on w [] = w
word_on w (d ∷ l) = bit_or (word_on w l) (cond d.1 (2 ^ d.0) 0)

abbrev pub is_on : ℕ → ℕ → Bool
is_on w n = eqb (w / 2 ^ n % 2) 1

-- the first of the numbers whose bit is on; 0 for none
unfoldable pub first_on : List ℕ → ℕ → ℕ
first_on [] w = 0
first_on (n ∷ ns) w = let r = first_on ns w in cond (is_on w n) n r

-- a batch: 3, 4 and 5 of the model's `judge`; where it is too long, 3, which comes before the others, is all that is looked for
abbrev pub unless_long : Bool → Bool → Bool → Dues
unless_long long y z = (3, long) ∷ (4, not long && y) ∷ (5, not long && z) ∷ []

abbrev pub looked : List ℤ → Dues
looked b = unless_long (ltb max_batch (length (entries b))) (disorder b) (outside (entries b))
