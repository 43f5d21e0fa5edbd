-- The bytes that the near tests of many cells leave. Assumes nothing.
use Rattle.std.proofs.Common.{◌≡◌, ℕ, zero, suc, ◌+◌, ◌<◌, ◌≤◌, Bool, true, false, List, [], ◌∷◌, ◌++◌, map, length, get_or, drop, set, refl, ap, ◌∙◌, suc-le-suc, le_of_suc-le-suc, not-suc-le-zero, zero-lt-suc, arith, le-leb}
use Rattle.std.specs.Int.{from_bool}
use lib.Ieee.{Float}
use Rattle.table.proofs.Front.{mix, mix_more, mix_done}
use Rattle.model.specs.Segment.{Seg, passes_near}
use Rattle.numbers_c.specs.Cells.{number, told}

pub byte_number : (b : Bool) → from_bool b ≡ number b
byte_number true = refl
byte_number false = refl

abbrev pub answers : (ℕ → Bool) → List ℕ → List ℕ
answers f cells = map (λ k. number (f k)) cells

pub answers_length : (f : ℕ → Bool) (cells : List ℕ) → length (answers f cells) ≡ length cells
answers_length f [] = refl
answers_length f (k ∷ l) = ap suc (answers_length f l)

-- two tests that agree on the cells that are there
answers_same : (f g : ℕ → Bool) (cells : List ℕ) → ((i : ℕ) → i < length cells → f (get_or cells i 0) ≡ g (get_or cells i 0)) → answers f cells ≡ answers g cells
answers_same f g [] e = refl
answers_same f g (k ∷ l) e = rw (e 0 (zero-lt-suc (length l)), answers_same f g l (λ i h. e (suc i) (suc-le-suc h))) refl

answers_at : (f : ℕ → Bool) (cells : List ℕ) (i : ℕ) → i < length cells → get_or (answers f cells) i 0 ≡ number (f (get_or cells i 0))
answers_at f [] i h = absurd (not-suc-le-zero h)
answers_at f (k ∷ l) zero h = refl
answers_at f (k ∷ l) (suc i) h = answers_at f l i (le_of_suc-le-suc h)

-- one more answer
pub answer_more : (f : ℕ → Bool) (cells out : List ℕ) (i : ℕ) → i < length cells → length cells ≤ length out
    → set (mix (answers f cells) out i) i (number (f (get_or cells i 0))) ≡ mix (answers f cells) out (i + 1)
answer_more f cells out i h k =
    let l : i < length (answers f cells) = rw (answers_length f cells) h in
    rw (← answers_at f cells i h) (mix_more (answers f cells) out i 0 l (omega arith))

module _ (s : Seg) (c r : Float) (cells out : List ℕ) where
  pub told_all : (f : ℕ → Bool) → ((i : ℕ) → i < length cells → f (get_or cells i 0) ≡ passes_near s (get_or cells i 0) c r) → length cells ≤ length out → mix (answers f cells) out (length cells) ≡ told s c r cells out
  unfolding told
  told_all f e h =
      mix_done (answers f cells) out (length cells) (answers_length f cells)
      ∙ ap (λ (l : List ℕ). l ++ drop (length cells) out) (answers_same f (λ k. passes_near s k c r) cells e)
      ∙ rw (le-leb (length cells) (length out) h) refl
