-- A list filled with one value from the front. Assumes nothing.
use Prim.Native.Nat.{ℕ, ◌+◌, ◌≤◌, ◌<◌, zero-le}
use native.Mathlib.Omega.{arith}
use mathlib.Core.Path.{◌≡◌, refl, sym, ap, ◌∙◌}
use mathlib.Core.List.{List, append-nil}
use lib.ListN.{length, replicate, set, get_or-replicate, length-replicate, length-set}
use lib.Seq.{drop-length}
use Rattle.table.proofs.Front.{mix, mix_done, mix_more}

module _ {A : Type 0} (v : A) (t : List A) where
  -- the first i are v
  abbrev pub filled : ℕ → List A
  filled i = mix (replicate (length t) v) t i

  filled_more : (i : ℕ) → i < length t → set (filled i) i v ≡ filled (i + 1)
  filled_more i h =
      let z : List A = replicate (length t) v in
      let l : i < length z = rw (length-replicate {A = A} (length t) v) h in
      ap (set (filled i) i) (sym (get_or-replicate (length t) i v v h)) ∙ mix_more z t i v l h

  filled_done : (i : ℕ) → i ≡ length t → filled i ≡ replicate (length t) v
  filled_done i e =
      mix_done (replicate (length t) v) t i (length-replicate {A = A} (length t) v ∙ sym e)
      ∙ rw (e, drop-length t) (append-nil (replicate (length t) v))

  pub record Filling (t' : List A) (i : ℕ) : Type 0 where
    pub inside : i ≤ length t
    pub long : length t' ≡ length t
    pub is : t' ≡ filled i

  pub filling_none : Filling t 0
  filling_none = record { inside = zero-le; long = refl; is = refl }

  module _ (t' : List A) (i : ℕ) (s : Filling t' i) where
    pub filling_more : i < length t → Filling (set t' i v) (i + 1)
    filling_more h = record { inside = omega arith; long = length-set t' i v ∙ s.long; is = ap (λ (u : List A). set u i v) s.is ∙ filled_more i h }

    pub filling_done : length t ≤ i → t' ≡ replicate (length t) v
    filling_done h = s.is ∙ filled_done i (omega (arith, s.inside))
