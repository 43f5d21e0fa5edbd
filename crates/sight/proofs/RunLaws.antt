-- The changes of a batch, one after another, as the loop makes them of a blocker. Assumes nothing.
use Rattle.std.proofs.Common.{◌≡◌, ℕ, zero, suc, Bool, true, false, List, [], ◌∷◌, ◌++◌, map, length, take, min, ap, refl, arith, Bor}
use Rattle.std.proofs.lemmas.Fn.{FoldsTo-push}
use Rattle.std.proofs.lemmas.List.{map-append}
use Rattle.std.specs.List.{zip}
use Rattle.std.specs.Map.Iter.{deref_pair}
use Rattle.sight.specs.Run.{Ran, Turns}

-- what was seen of xs made m of b; then the cell c is seen with its flag f
module _ (meets : ℕ → ℕ → Bool → Type 0) (again : ℕ → Type 0) (xs : List (Bor ℕ × Bor ℕ)) (b m : ℕ) (c f : Bor ℕ) (ran : Ran meets again (map deref_pair xs) b m) where
  abbrev Next : ℕ → Type 0
  Next r = Ran meets again (map deref_pair (xs ++ (c, f) ∷ [])) b r

  next : (r : ℕ) → Turns meets again m (c.now, f.now) r → Next r
  next r t = rw map-append (FoldsTo-push (Turns meets again) b (map deref_pair xs) m (c.now, f.now) r ran t)

  pub ran_freed : f.now ≡ 0 → m ≡ c.now → (r : ℕ) → again r → Next r
  ran_freed z e r a = next r ((λ y. (λ x. a, λ n. absurd (n e))), λ n. absurd (n z))

  pub ran_kept : f.now ≡ 0 → (m ≡ c.now → ⊥) → Next m
  ran_kept z n = next m ((λ y. (λ e. absurd (n e), λ x. refl)), λ x. absurd (x z))

  pub ran_met : (f.now ≡ 0 → ⊥) → (x : Bool) → meets m c.now x → x ≡ true → Next c.now
  ran_met n x p e = next c.now ((λ y. absurd (n y)), λ y. (x, p, rw e refl))

  pub ran_passed : (f.now ≡ 0 → ⊥) → (x : Bool) → meets m c.now x → x ≡ false → Next m
  ran_passed n x p e = next m ((λ y. absurd (n y)), λ y. (x, p, rw e refl))

-- two lists side by side have no more than the shorter one
pub zip_cut : {A B : Type 0} (n : ℕ) (xs : List A) (ys : List B) → n ≡ min (length xs) (length ys) → zip (take n xs) (take n ys) ≡ zip xs ys
zip_cut zero [] ys h = refl
zip_cut zero (x ∷ xs) [] h = refl
zip_cut zero (x ∷ xs) (y ∷ ys) h = absurd (omega (arith, h))
zip_cut (suc n) [] ys h = absurd (omega (arith, h))
zip_cut (suc n) (x ∷ xs) [] h = absurd (omega (arith, h))
zip_cut (suc n) (x ∷ xs) (y ∷ ys) h = ap (λ l. (x, y) ∷ l) (zip_cut n xs ys (omega (arith, h)))
