-- The room that lent tables have: where none is short, each has its need; tables that keep their lengths. Assumes nothing.
use Prim.Native.Nat.{ℕ, ◌≤◌}
use mathlib.Core.Path.{◌≡◌, refl, ◌∙◌}
use mathlib.Core.Bool.{Bool, true, false, ◌||◌, true≢false}
use mathlib.Core.List.{List, [], ◌∷◌}
use lib.Dec.{ltb}
use lib.ListN.{length}
use borrow.Author.Tests.{ltb-false}
use Rattle.model.specs.Refusal.{short}
use Rattle.held.specs.Holds.{Tables, needs}

abbrev pub Enough : List (ℕ × ℕ) → Type 0
Enough [] = Unit {0}
Enough (b ∷ l) = (b.1 ≤ b.0) × Enough l

pub long_enough : (l : List (ℕ × ℕ)) → short l ≡ false → Enough l
unfolding short
long_enough [] e = tt
long_enough (b ∷ l) e = go (ltb b.0 b.1) refl e (long_enough l)
  where
    go : (x : Bool) → ltb b.0 b.1 ≡ x → x || short l ≡ false → (short l ≡ false → Enough l) → (b.1 ≤ b.0) × Enough l
    go true h z ih = absurd (true≢false z)
    go false h z ih = (ltb-false b.0 b.1 h, ih z)

-- ---- tables that keep their lengths
pub record SameLong (t t' : Tables) : Type 0 where
  pub cells : length t'.cells ≡ length t.cells
  pub points : length t'.points ≡ length t.points
  pub statuses : length t'.statuses ≡ length t.statuses
  pub blockers : length t'.blockers ≡ length t.blockers
  pub pairs : length t'.pairs ≡ length t.pairs

pub same_none : (t : Tables) → SameLong t t
same_none t = record { cells = refl; points = refl; statuses = refl; blockers = refl; pairs = refl }

pub same_both : {t t' t'' : Tables} → SameLong t t' → SameLong t' t'' → SameLong t t''
same_both k l =
    record { cells = l.cells ∙ k.cells; points = l.points ∙ k.points; statuses = l.statuses ∙ k.statuses; blockers = l.blockers ∙ k.blockers; pairs = l.pairs ∙ k.pairs }

pub same_rooms : {t t' : Tables} → SameLong t t' → short (needs t) ≡ false → short (needs t') ≡ false
same_rooms l e = rw (l.cells, l.points, l.statuses, l.blockers, l.pairs) e
