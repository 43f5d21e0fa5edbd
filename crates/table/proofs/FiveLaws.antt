-- Five places in an array, one after another. Assumes nothing.
use Prim.Native.Nat.{ℕ, ◌+◌, ◌≤◌, ◌<◌}
use native.Mathlib.Omega.{arith}
use mathlib.Core.Path.{◌≡◌, refl, ◌∙◌}
use mathlib.Core.Logic.{⊎_elim}
use mathlib.Core.List.{List}
use lib.ListN.{length, get_or, set, length-set}
use lib.Seq.{get_or-set_same, get_or-set_other}
use Rattle.ieee.proofs.Tools.{lt_or_ge}

-- the first i are g's, and those behind are d's
pub record Five (g : ℕ → ℕ) (d f : List ℕ) (i : ℕ) : Type 0 where
  pub long : length f ≡ 5
  pub done : (j : ℕ) → j < i → get_or f j 0 ≡ g j
  pub left : (j : ℕ) → i ≤ j → get_or f j 0 ≡ get_or d j 0

pub five_none : (g : ℕ → ℕ) (d : List ℕ) → length d ≡ 5 → Five g d d 0
five_none g d e = record { long = e; done = λ j h. absurd (omega arith); left = λ j h. refl }

pub five_more : (g : ℕ → ℕ) (d f : List ℕ) (i v : ℕ) → i < 5 → Five g d f i → v ≡ g i → Five g d (set f i v) (i + 1)
five_more g d f i v h s e = record {
  long = length-set f i v ∙ s.long;
  done = λ j b. ⊎_elim
      (λ k. get_or-set_other f i j v 0 (λ q. omega arith) ∙ s.done j k)
      (λ k. let q : j ≡ i = omega arith in rw q (get_or-set_same f i v 0 (omega (arith, s.long)) ∙ e))
      (lt_or_ge j i);
  left = λ j b. get_or-set_other f i j v 0 (λ q. omega arith) ∙ s.left j (omega arith);
}
