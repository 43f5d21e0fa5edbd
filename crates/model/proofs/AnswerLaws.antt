-- Answers told in integers. Assumes nothing.
use Prim.Native.Nat.{ℕ}
use mathlib.Core.Path.{◌≡◌, refl, sym, ap, ◌∙◌, subst}
use mathlib.Core.Logic.{◌↔◌}
use mathlib.Core.List.{List}
use native.Mathlib.Omega.{arith}
use lib.Dec.{T}
use lib.IntN.{ℤ}
use lib.Ieee.{Float}
use Rattle.model.specs.Maps.{has}
use Rattle.model.specs.Limits.{max_coordinate}
use Rattle.model.specs.Cell.{x_of, y_of, key}
use Rattle.model.specs.Good.{Inside}
use Rattle.model.specs.Map.{Map, Op}
use Rattle.model.specs.Refusal.{run, opened}
use Rattle.model.specs.Answers.{is_occupied}
use Rattle.model.proofs.KeyLaws.{Asked, key_back, key_tells}
use Rattle.model.proofs.Demand3.{demand3}

wider : (k : ℕ) → Inside max_coordinate k → Inside Asked k
wider k h = (let a = h.0 in omega arith, let a = h.1 in omega arith, let a = h.2 in omega arith, let a = h.3 in omega arith)

-- After every run, a pair of integers is answered 'occupied' exactly when it is the place of an occupied cell, however large the integers are.
pub occupied_right : (c r : Float) (os : List Op) (x y : ℤ)
    → T (is_occupied (run os (opened c r)) x y) ↔ ((k : ℕ) × T (has k (run os (opened c r)).cells) × (x_of k ≡ x) × (y_of k ≡ y))
unfolding is_occupied
occupied_right c r os x y = (there, back)
  where
    m : Map
    m = run os (opened c r)

    there : T (has (key x y) (run os (opened c r)).cells) → (k : ℕ) × T (has k (run os (opened c r)).cells) × (x_of k ≡ x) × (y_of k ≡ y)
    there u = let t = key_tells x y (key x y) (wider (key x y) ((demand3 c r os).good.inside (key x y) u)) refl in (key x y, u, t.0, t.1)

    back : ((k : ℕ) × T (has k (run os (opened c r)).cells) × (x_of k ≡ x) × (y_of k ≡ y)) → T (has (key x y) (run os (opened c r)).cells)
    back (k, u, e, f) =
        let q : key x y ≡ k = ap (λ (z : ℤ). key z y) (sym e) ∙ ap (key (x_of k)) (sym f) ∙ key_back k (wider k ((demand3 c r os).good.inside k u)) in
        subst (λ (z : ℕ). T (has z (run os (opened c r)).cells)) (sym q) u
