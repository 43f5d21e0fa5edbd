-- Any two outcomes that a copy's contract permits are equal. Assumes nothing.
use mathlib.Core.Path.{◌≡◌, refl, sym, ◌∙◌}
use mathlib.Core.Bool.{Bool, true, false}
use mathlib.Core.List.{List}
use lib.Dec.{ltb}
use lib.ListN.{length}
use borrow.Author.Tests.{ltb-false, ltb-true}
use Rattle.table.specs.Copied.{Copied}

pub copied_one : {A : Type 0} (l t a b : List A) → Copied l t a → Copied l t b → a ≡ b
copied_one l t a b u v = go (ltb (length t) (length l)) refl
  where
    go : (s : Bool) → ltb (length t) (length l) ≡ s → a ≡ b
    go true e = let h = ltb-true (length t) (length l) e in u.short h ∙ sym (v.short h)
    go false e = let h = ltb-false (length t) (length l) e in u.done h ∙ sym (v.done h)
