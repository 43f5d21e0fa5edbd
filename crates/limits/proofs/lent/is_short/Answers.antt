use Prim.Native.Nat.{ℕ}
use mathlib.Core.Path.{◌≡◌, refl, ap, ◌∙◌}
use mathlib.Core.Bool.{Bool, ◌||◌}
use mathlib.Core.List.{List, [], ◌∷◌}
use lib.Dec.{ltb}
use borrow.Author.Rules.{rules}
use borrow.Author.Tests.{tests}
use Rattle.std.specs.List.{list_any}
use Rattle.std.proofs.lemmas.Iterator.{YieldsList-from_slice}
use Rattle.std.proofs.lemmas.Iterator.Search.{any_from_yields_List}
use Rattle.model.specs.Refusal.{short}
use Rattle.limits.proofs.lent.is_short.Goals as goal

any_short : (l : List (ℕ × ℕ)) → list_any (λ b. ltb b.0 b.1) l ≡ short l
unfolding short
any_short [] = refl
any_short (b ∷ l) = ap (λ (s : Bool). ltb b.0 b.1 || s) (any_short l)

-- `lent::is_short`: some table is. Assumes nothing.
pub returns : goal.returns
returns c =
    any_from_yields_List (λ b. ltb b.0 b.1) _ _ c.any.result c.any.ensures.ran (YieldsList-from_slice c.args.lent.now cc) (λ x b q k. search (rules, tests))
    ∙ any_short c.args.lent.now
