-- Laws of `find`: what it finds is a member and passes, where it finds nothing no member passes, and only the members' answers count. Assumes nothing.
use Prim.Native.Nat.{ℕ}
use mathlib.Core.Path.{◌≡◌, refl, subst}
use mathlib.Core.Logic.{◌⊎◌, inl, inr}
use mathlib.Core.Bool.{Bool, true, false, cond, ◌||◌}
use mathlib.Core.List.{List, [], ◌∷◌}
use mathlib.Core.Option.{none, some, none-ne-some, some-ne-none, some-injective}
use lib.Dec.{T, eqb, eqb→eq, eqb_refl}
use Rattle.ieee.proofs.Tools.{or_cases}
use Rattle.model.specs.Maps.{has, find}
use Rattle.model.proofs.MapLaws.{true→T, or_left, or_right}

-- two tests that agree on the members find the same
pub find_same : (p q : ℕ → Bool) (l : List ℕ) → ((x : ℕ) → T (has x l) → p x ≡ q x) → find p l ≡ find q l
unfolding find has
find_same p q [] f = refl
find_same p q (x ∷ l) f =
    rw (f x (or_left (eqb x x) (has x l) (eqb_refl x)), find_same p q l (λ y h. f y (or_right (eqb y x) (has y l) h))) refl

-- what is found is a member
pub find_has : (p : ℕ → Bool) (l : List ℕ) (k : ℕ) → find p l ≡ some k → T (has k l)
unfolding find has
find_has p [] k e = absurd (none-ne-some k e)
find_has p (x ∷ l) k e = go (p x) e (find_has p l k)
  where
    go : (b : Bool) → cond b (some x) (find p l) ≡ some k → (find p l ≡ some k → T (has k l)) → T (eqb k x || has k l)
    go true q ih = subst (λ (z : ℕ). T (eqb z x || has z l)) (some-injective x k q) (or_left (eqb x x) (has x l) (eqb_refl x))
    go false q ih = or_right (eqb k x) (has k l) (ih q)

-- what is found passes
pub find_passes : (p : ℕ → Bool) (l : List ℕ) (k : ℕ) → find p l ≡ some k → T (p k)
unfolding find
find_passes p [] k e = absurd (none-ne-some k e)
find_passes p (x ∷ l) k e = go (p x) refl e (find_passes p l k)
  where
    go : (b : Bool) → p x ≡ b → cond b (some x) (find p l) ≡ some k → (find p l ≡ some k → T (p k)) → T (p k)
    go true q r ih = subst (λ (z : ℕ). T (p z)) (some-injective x k r) (true→T (p x) q)
    go false q r ih = ih r

-- where nothing is found, no member passes
pub find_none : (p : ℕ → Bool) (l : List ℕ) → find p l ≡ none → (c : ℕ) → T (has c l) → T (p c) → ⊥
unfolding find has
find_none p [] e c h t = h
find_none p (x ∷ l) e c h t = go (p x) refl e (or_cases (eqb c x) (has c l) h) (λ q g. find_none p l q c g t)
  where
    go : (b : Bool) → p x ≡ b → cond b (some x) (find p l) ≡ none → T (eqb c x) ⊎ T (has c l) → (find p l ≡ none → T (has c l) → ⊥) → ⊥
    go true q r d ih = some-ne-none x r
    go false q r (inl u) ih = let v : T (p x) = subst (λ (z : ℕ). T (p z)) (eqb→eq c x u) t in let w : T false = rw q at v in w
    go false q r (inr u) ih = ih r u
