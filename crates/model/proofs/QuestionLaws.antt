-- Each of the four tests answers the first occupied cell, by x, then y, that qualifies, and none exactly if no occupied cell does. Assumes nothing.
use Prim.Native.Nat.{ℕ, suc, ◌≤◌, ◌<◌}
use native.Mathlib.Decide.{ℕ_discrete}
use native.Mathlib.Omega.{arith}
use mathlib.Core.Path.{◌≡◌, refl, sym, ◌∙◌, subst}
use mathlib.Core.Logic.{◌⊎◌, inl, inr}
use mathlib.Core.Bool.{Bool, true, false, cond, ◌||◌}
use mathlib.Core.List.{List, [], ◌∷◌}
use mathlib.Core.Option.{none, some, some-injective}
use lib.Dec.{T, eqb, eqb→eq}
use lib.Ieee.{Float, binary64, div, lt}
use Rattle.ieee.specs.Constants.{pow2}
use Rattle.ieee.proofs.Tools.{or_cases}
use Rattle.model.proofs.SingleLaws.{asc_above}
use Rattle.model.proofs.OrderLaws.{asc_units}
use Rattle.model.specs.Maps.{has, find, AscL}
use Rattle.model.specs.Plane.{minus, norm, tiny, cell_of}
use Rattle.model.specs.Shape.{Question, point, square, circle, sweep, point_test, square_test, circle_test, sweep_test, strip_of, in_strip, ask, qualifies, First}
use Rattle.model.proofs.MapLaws.{eqb_yes, eqb_no, units, keys_units}
use Rattle.model.proofs.FindLaws.{find_has, find_passes, find_none}

asc_le : (lo : ℕ) (l : List ℕ) → AscL lo l → (j : ℕ) → T (has j l) → lo ≤ j
asc_le lo l a j u = asc_above lo j (units l) (asc_units lo l a) (rw (keys_units l) u)

-- no member before the one that is found passes
find_first : (p : ℕ → Bool) (lo : ℕ) (l : List ℕ) (k : ℕ) → AscL lo l → find p l ≡ some k → (j : ℕ) → T (has j l) → j < k → T (p j) → ⊥
unfolding find has
find_first p lo [] k a e j h g t = h
find_first p lo (x ∷ l) k a e j h g t = go (p x) refl e (or_cases (eqb j x) (has j l) h) (λ q u. find_first p (suc x) l k a.1 q j u g t)
  where
    go : (b : Bool) → p x ≡ b → cond b (some x) (find p l) ≡ some k → T (eqb j x) ⊎ T (has j l) → (find p l ≡ some k → T (has j l) → ⊥) → ⊥
    go true q r (inl u) ih = let s = some-injective x k r in let v = eqb→eq j x u in omega arith
    go true q r (inr u) ih = let s = some-injective x k r in let v = asc_le (suc x) l a.1 j u in omega arith
    go false q r (inl u) ih = let v : T (p x) = subst (λ (z : ℕ). T (p z)) (eqb→eq j x u) t in let w : T false = rw q at v in w
    go false q r (inr u) ih = ih r u

first_found : (p : ℕ → Bool) (C : List ℕ) → AscL 0 C → First C p (find p C)
first_found p C a =
    record { member = find_has p C; passing = find_passes p C; first = λ k. find_first p 0 C k a; nowhere = find_none p C }

-- the point test is the search for one cell
find_one : (c : ℕ) (l : List ℕ) → cond (has c l) (some c) none ≡ find (λ k. eqb k c) l
unfolding has find
find_one c [] = refl
find_one c (x ∷ l) = go (ℕ_discrete c x) (find_one c l)
  where
    go : Dec (c ≡ x) → cond (has c l) (some c) none ≡ find (λ k. eqb k c) l → cond (eqb c x || has c l) (some c) none ≡ cond (eqb x c) (some x) (find (λ k. eqb k c) l)
    go (yes e) ih = rw (e, eqb_yes x) refl
    go (no h) ih = rw (eqb_no c x h, eqb_no x c (λ e. h (sym e))) ih

ask_finds : (c : Float) (C : List ℕ) (q : Question) → (ask c C q).cell ≡ find (qualifies c q) C
unfolding ask qualifies point_test square_test circle_test sweep_test
ask_finds c C (point p) = find_one (cell_of c p) C
ask_finds c C (square p w) = refl
ask_finds c C (circle p r) = refl
ask_finds c C (sweep p q w) = go (lt (norm (minus q p)) tiny)
  where
    go : (b : Bool) → (cond b (point_test c C p) (record { cell = find (in_strip c (strip_of p q (div binary64 w (pow2 1)))) C })).cell
        ≡ find (λ k. cond b (eqb k (cell_of c p)) (in_strip c (strip_of p q (div binary64 w (pow2 1))) k)) C
    go true = find_one (cell_of c p) C
    go false = refl

-- what a test answers is occupied, also where the cells have no order
pub ask_has : (c : Float) (C : List ℕ) (q : Question) (b : ℕ) → (ask c C q).cell ≡ some b → T (has b C)
ask_has c C q b e = find_has (qualifies c q) C b (sym (ask_finds c C q) ∙ e)

-- Each of the four tests answers the first occupied cell, by x, then y, that qualifies, and none exactly if no occupied cell does.
pub question_first : (c : Float) (C : List ℕ) → AscL 0 C → (q : Question) → First C (qualifies c q) (ask c C q).cell
question_first c C a q = subst (First C (qualifies c q)) (sym (ask_finds c C q)) (first_found (qualifies c q) C a)
