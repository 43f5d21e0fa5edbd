-- Free or not, told from the numbers of blockers and pairs. Assumes nothing.
use Prim.Native.Nat.{ℕ}
use native.Mathlib.Omega.{arith}
use mathlib.Core.Path.{◌≡◌, refl, sym, ap, ◌∙◌}
use mathlib.Core.Bool.{true, false}
use mathlib.Core.Option.{Option, none, some}
use lib.Dec.{eqb}
use borrow.Author.Tests.{eq-eqb, ne_eqb}
use Rattle.answers.proofs.PointLaws.{block_free}
use Rattle.model.specs.Answers.{free, open_edge}
use Rattle.held.specs.Codes.{Named, NamedPair, block_code, pair_code}

pub pair_open : (o : Option (Option ℕ)) → NamedPair o → open_edge o ≡ eqb (pair_code o) 1
pair_open none n = refl
pair_open (some none) n = refl
pair_open (some (some k)) n = sym (ne_eqb k 1 (λ e. omega arith))

-- by the number that was found
module _ (o : Option ℕ) (r : ℕ) (n : Named o) (e : r ≡ block_code o) where
  pub found_none : r ≡ 0 → free o ≡ true
  found_none z = block_free o n ∙ eq-eqb (block_code o) 0 (sym e ∙ z)

  pub found_some : (r ≡ 0 → ⊥) → free o ≡ false
  found_some z = block_free o n ∙ ne_eqb (block_code o) 0 (λ y. z (e ∙ y))

  pub found_is : free o ≡ eqb r 0
  found_is = block_free o n ∙ ap (λ (x : ℕ). eqb x 0) (sym e)
