-- What a list of cells with a number each leaves in the two tables that it was written to. Assumes nothing.
use Prim.Native.Nat.{ℕ, zero, suc}
use mathlib.Core.Path.{◌≡◌, refl, sym, ap, ◌∙◌}
use mathlib.Core.List.{List, [], ◌∷◌, ◌++◌}
use lib.ListN.{length, take, drop, get_or}
use lib.Seq.{take-append_seam}
use Rattle.model.specs.Maps.{keys}
use Rattle.table.specs.Listed.{Listed, values}

pub keys_length : {A : Type 0} (l : List (ℕ × A)) → length (keys l) ≡ length l
unfolding keys
keys_length [] = refl
keys_length (e ∷ l) = ap suc (keys_length l)

pub values_length : (l : List (ℕ × ℕ)) → length (values l) ≡ length l
values_length [] = refl
values_length (e ∷ l) = ap suc (values_length l)

pub keys_at : {A : Type 0} (w : List (ℕ × A)) (n : ℕ) (z : A) → get_or (keys w) n 0 ≡ (get_or w n (0, z)).0
unfolding keys
keys_at [] n z = refl
keys_at (e ∷ w) zero z = refl
keys_at (e ∷ w) (suc n) z = keys_at w n z

-- the front of a table
front : (m a a' : List ℕ) (n r : ℕ) → length m ≡ n → r ≡ n → a' ≡ m ++ drop n a → take r a' ≡ m
front m a a' n r e c w = ap (λ (j : ℕ). take j a') (c ∙ sym e) ∙ ap (take (length m)) w ∙ take-append_seam m (drop n a)

module _ (l : List (ℕ × ℕ)) (a a' b b' : List ℕ) (r : ℕ) (w : Listed l a a' b b' r) where
  pub listed_cells : take r a' ≡ keys l
  listed_cells = front (keys l) a a' (length l) r (keys_length l) w.count w.cells

  pub listed_numbers : take r b' ≡ values l
  listed_numbers = front (values l) b b' (length l) r (values_length l) w.count w.numbers
