-- Any two results that the contract of `count_blocks` permits are equal, for ascending cells and for more than 1,024 of any kind. Assumes nothing.
use Prim.Native.Nat.{ℕ, ◌<◌}
use mathlib.Core.Path.{◌≡◌, sym, ◌∙◌}
use mathlib.Core.Logic.{◌⊎◌, ⊎_elim}
use mathlib.Core.List.{List}
use lib.ListN.{length}
use Rattle.blocks.specs.Counted.{Counted}
use Rattle.ieee.proofs.Tools.{lt_or_ge}
use Rattle.model.specs.Limits.{max_cells}
use Rattle.model.specs.Maps.{AscL}

pub count_one : (C : List ℕ) (r q : ℕ) → Counted C r → Counted C q → (max_cells < length C) ⊎ AscL 0 C → r ≡ q
count_one C r q u v = ⊎_elim many (λ a. ⊎_elim many (λ h. u.1 h a ∙ sym (v.1 h a)) (lt_or_ge max_cells (length C)))
  where
    many : max_cells < length C → r ≡ q
    many h = u.0 h ∙ sym (v.0 h)
